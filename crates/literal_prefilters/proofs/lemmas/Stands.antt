-- The start bytes and the distances of a list of patterns are those of their case variants.
-- For the laws on tables.
use Rattle.std.proofs.Common.{◌≡◌, ℕ, ◌<◌, ◌≤◌, ◌⊎◌, zero, suc, max, fold, Bool, true, false, List, [], ◌∷◌, length}
use Rattle.std.proofs.Common.{get_or, set, slice_index, Some, inl, inr, refl, sym, ap, ◌∙◌, ⊎_elim, subst, arith}
use Rattle.std.proofs.lemmas.Bool.{cases_Bool, cases_lt, cases_eq, cond-true, cond-false}
use Rattle.std.proofs.lemmas.List.{length-set, get_or-set_same, get_or-set_other, get_or_default}
use Rattle.std.proofs.lemmas.List.Folds.{Any-from_list_any, list_any_at}
use Rattle.std.proofs.lemmas.Option.{slice_get-get_or, slice_get_within, get_or_from_slice_get}
use Rattle.literal_base.specs.Occurs.{NoneIsEmpty, AreEqualBytes, same_byte, pattern_at}
use Rattle.literal_prefilters.specs.Tables.{largest_offset, offset_below}
use Rattle.literal_prefilters.specs.Variants.{StandsIn, StartsVariants, IsLargestOffset}
use Rattle.literal_prefilters.proofs.lemmas.Offsets.{offset-le-offset_below}
use Rattle.literal_prefilters.proofs.lemmas.RareSetSteps.{same_byte_refl}
use Rattle.literal_prefilters.proofs.lemmas.RareSetCovers.{offset-le-largest_offset}
use Rattle.literal_prefilters.proofs.lemmas.Variants.{same_length, same_byte_at, same_from_bytes}

-- the pattern with one byte in the other case
same_with : (c : Bool) (p : List ℕ) (k b : ℕ) → k < length p → same_byte c b (slice_index p k) ≡ true
    → AreEqualBytes c (set p k b) p
same_with c p k b below same =
    same_from_bytes c (set p k b) p (length-set p k b) (λ j inside.
    ⊎_elim
    (λ (e : j ≡ k). ap (λ i. same_byte c (slice_index (set p k b) i) (slice_index p i)) e
    ∙ (ap (λ x. same_byte c x (slice_index p k)) (get_or-set_same p k b 0 below) ∙ same))
    (λ (ne : j ≡ k → ⊥). ap (λ x. same_byte c x (slice_index p j)) (get_or-set_other p k j b 0 ne)
    ∙ same_byte_refl c (slice_index p j))
    (cases_eq j k))

-- where a byte is the same as one of a pattern, it stands there in a case variant
stands_from_byte : (c : Bool) (ps : List (List ℕ)) (i k b : ℕ) → i < length ps → k < length (pattern_at ps i)
    → same_byte c b (slice_index (pattern_at ps i) k) ≡ true → StandsIn c ps b k
stands_from_byte c ps i k b is below same =
    let p = pattern_at ps i in
    let inside : k < length (set p k b) = omega (arith, length-set p k b) in
    record {
      pattern = i;
      is_pattern = is;
      variant = set p k b;
      same = same_with c p k b below same;
      here = slice_get-get_or (set p k b) k 0 inside ∙ ap Some (get_or-set_same p k b 0 below);
    }

-- and the other way round
byte_from_stands : (c : Bool) (ps : List (List ℕ)) (b k : ℕ) → (s : StandsIn c ps b k)
    → (k < length (pattern_at ps s.pattern)) × (same_byte c b (slice_index (pattern_at ps s.pattern) k) ≡ true)
byte_from_stands c ps b k s =
    let p = pattern_at ps s.pattern in
    let inside : k < length s.variant = slice_get_within s.variant k b s.here in (
      omega (arith, same_length c s.variant p s.same),
      sym (ap (λ x. same_byte c x (slice_index p k)) (get_or_from_slice_get s.variant k b 0 s.here))
          ∙ same_byte_at c s.variant p s.same k inside,
    )

pub starts_variants : (c : Bool) (ps : List (List ℕ)) → NoneIsEmpty ps → StartsVariants c ps
starts_variants c ps some byte = (
  λ h.
      let any = Any-from_list_any (λ p. same_byte c byte (slice_index p 0)) ps h in
      let is : pattern_at ps any.0 ≡ any.1 = get_or_default ps any.0 [] any.1 any.2 ∙ any.3 in
      stands_from_byte c ps any.0 0 byte any.2 (some any.0 [] any.2)
      (ap (λ p. same_byte c byte (slice_index p 0)) is ∙ any.4),
  λ s. list_any_at (λ p. same_byte c byte (slice_index p 0)) ps s.pattern [] s.is_pattern
      (byte_from_stands c ps byte 0 s).1,
)

-- an offset above 0 is one at which the byte stands
offset_reached : (c : Bool) (b : ℕ) (p : List ℕ) (n : ℕ) → 0 < offset_below c b p n → (offset_below c b p n < n)
    × (same_byte c b (slice_index p (offset_below c b p n)) ≡ true)
offset_reached c b p zero h = absurd (omega arith)
offset_reached c b p (suc n) h =
    ⊎_elim
    (λ (e : same_byte c b (slice_index p n) ≡ true).
    let is : offset_below c b p (suc n) ≡ n = cond-true _ _ _ e in
    (omega arith, ap (λ k. same_byte c b (slice_index p k)) is ∙ e))
    (λ (e : same_byte c b (slice_index p n) ≡ false).
    let is : offset_below c b p (suc n) ≡ offset_below c b p n = cond-false _ _ _ e in
    let before = offset_reached c b p n (omega arith) in
    (omega (arith, before.0), ap (λ k. same_byte c b (slice_index p k)) is ∙ before.1))
    (cases_Bool (same_byte c b (slice_index p n)))

-- the largest is that of some pattern
most_reached : (f : List ℕ → ℕ) (ps : List (List ℕ)) (a : ℕ) → (fold (λ most p. max most (f p)) a ps ≡ a)
    ⊎ ((i : ℕ) × (i < length ps) × (f (get_or ps i []) ≡ fold (λ most p. max most (f p)) a ps))
most_reached f [] a = inl refl
most_reached f (p ∷ ps) a =
    ⊎_elim
    (λ (e : fold (λ most p. max most (f p)) (max a (f p)) ps ≡ max a (f p)).
    ⊎_elim (λ (h : f p ≤ a). inl (omega arith)) (λ (h : a < f p). inr (0, omega arith, omega arith)) (cases_le (f p) a))
    (λ (h : (i : ℕ) × (i < length ps) × (f (get_or ps i []) ≡ fold (λ most p. max most (f p)) (max a (f p)) ps)). inr
    (suc h.0, omega (arith, h.1), h.2))
    (most_reached f ps (max a (f p)))
  where
    cases_le : (m n : ℕ) → (m ≤ n) ⊎ (n < m)
    cases_le m n = ⊎_elim (λ (h : n < m). inr h) (λ (h : m ≤ n). inl h) (cases_lt n m)

pub is_largest_offset : (c : Bool) (ps : List (List ℕ)) (b : ℕ) → IsLargestOffset c ps b
is_largest_offset c ps b = record {
  bound = bound;
  reached = λ k s.
      let far = largest_offset c ps b in
      ⊎_elim
      (λ (h : 0 < far).
      ⊎_elim
      (λ (e : far ≡ 0). absurd (omega arith))
      (λ (w : (i : ℕ) × (i < length ps) × (offset_below c b (get_or ps i []) (length (get_or ps i [])) ≡ far)).
      let p = get_or ps w.0 [] in
      let at = offset_reached c b p (length p) (omega (arith, w.2)) in
      let S : ℕ → Type 0 = λ k. StandsIn c ps b k in
      subst S w.2 (stands_from_byte c ps w.0 (offset_below c b p (length p)) b w.1 at.0 at.1))
      (most_reached (λ p. offset_below c b p (length p)) ps 0))
      (λ (h : far ≤ 0).
      let first : k ≡ far = omega (arith, bound k s) in
      let S : ℕ → Type 0 = λ k. StandsIn c ps b k in subst S first s)
      (cases_lt 0 far);
}
  where
    bound : (k : ℕ) → StandsIn c ps b k → k ≤ largest_offset c ps b
    bound k s =
        let p = pattern_at ps s.pattern in
        let at = byte_from_stands c ps b k s in
        omega (
          arith,
          offset-le-offset_below c b p (length p) k at.0 at.1,
          offset-le-largest_offset c ps s.pattern b,
        )
