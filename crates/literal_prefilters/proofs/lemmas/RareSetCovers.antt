-- The set of rare bytes holds a byte of each pattern, in every case.
-- For what `ByteTable::rare` covers.
use Rattle.std.proofs.Common.{◌≡◌, ℕ, ◌<◌, ◌≤◌, ◌&&◌, ◌⊎◌, not, zero, suc, fold, nat_lt, Bool, true, false, List}
use Rattle.std.proofs.Common.{[], ◌∷◌, length, get_or, slice_index, inl, inr, refl, sym, ap, ◌∙◌, ⊎_elim, arith}
use Rattle.std.specs.List.{list_any}
use Rattle.std.proofs.lemmas.Bool.{cases_Bool, cases_cond, or_left, or_right, or_cases, and_parts, and_from}
use Rattle.std.proofs.lemmas.Bool.{not_from_false}
use Rattle.std.proofs.lemmas.List.{get_or_default}
use Rattle.std.proofs.lemmas.List.Folds.{Any-from_list_any}
use Rattle.literal_base.specs.Rank.{rank_of}
use Rattle.literal_base.specs.Occurs.{same_byte}
use Rattle.literal_prefilters.specs.Tables.{rarer, rarest, with_rarest, is_rare_byte, offset_below, largest_offset}
use Rattle.literal_prefilters.proofs.lemmas.Lists.{value-le-largest}
use Rattle.literal_prefilters.proofs.lemmas.RareSetSteps.{same_byte_refl}
use Rattle.literal_prefilters.proofs.lemmas.Variants.{same_byte_joined}

-- the byte stands in the list
abbrev Holds : List ℕ → ℕ → Type 0
Holds xs b = (k : ℕ) × (k < length xs) × (get_or xs k 0 ≡ b)

rarer_holds : (xs : List ℕ) (a : ℕ) → (fold rarer a xs ≡ a) ⊎ Holds xs (fold rarer a xs)
rarer_holds [] a = inl refl
rarer_holds (x ∷ xs) a =
    ⊎_elim
    (λ (e : fold rarer (rarer a x) xs ≡ rarer a x).
    ⊎_elim (λ (new : rarer a x ≡ x). inr (0, omega arith, sym (e ∙ new))) (λ (old : rarer a x ≡ a). inl (e ∙ old))
    (cases_cond (nat_lt (rank_of x) (rank_of a)) x a (rarer a x) refl))
    (λ (h : Holds xs (fold rarer (rarer a x) xs)). inr (suc h.0, omega (arith, h.1), h.2))
    (rarer_holds xs (rarer a x))

rarest_holds : (p : List ℕ) → 0 < length p → Holds p (rarest p)
rarest_holds p some =
    ⊎_elim (λ (e : rarest p ≡ slice_index p 0). (0, some, sym e)) (λ (h : Holds p (rarest p)). h)
    (rarer_holds p (slice_index p 0))

module _ (c : Bool) where
  kept : (ps : List (List ℕ)) (f : ℕ → Bool) (b : ℕ) → f b ≡ true → fold (with_rarest c) f ps b ≡ true
  kept [] f b here = here
  kept (p ∷ ps) f b here = kept ps (with_rarest c f p) b (or_left _ _ here)

  -- it holds each byte in both cases
  abbrev Closed : (ℕ → Bool) → Type 0
  Closed f = (a b : ℕ) → f a ≡ true → same_byte c a b ≡ true → f b ≡ true

  closed_step : (f : ℕ → Bool) (p : List ℕ) → Closed f → Closed (with_rarest c f p)
  closed_step f p closed a b here same =
      ⊎_elim
      (λ (old : f a ≡ true). or_left _ _ (closed a b old same))
      (λ (new : (not (list_any f p) && same_byte c a (rarest p)) ≡ true).
      let parts = and_parts _ _ new in or_right _ _
      (and_from _ _ parts.0 (same_byte_joined c a b (rarest p) parts.1 same)))
      (or_cases _ _ here)

  closed : (ps : List (List ℕ)) (f : ℕ → Bool) → Closed f → Closed (fold (with_rarest c) f ps)
  closed [] f h = h
  closed (p ∷ ps) f h = closed ps (with_rarest c f p) (closed_step f p h)

  taken : (f : ℕ → Bool) (p : List ℕ) → 0 < length p → (k : ℕ) × (k < length p)
      × (with_rarest c f p (slice_index p k) ≡ true)
  taken f p some =
      ⊎_elim
      (λ (held : list_any f p ≡ true).
      let any = Any-from_list_any f p held in
      (any.0, any.2, or_left _ _ (ap f (get_or_default p any.0 0 any.1 any.2 ∙ any.3) ∙ any.4)))
      (λ (free : list_any f p ≡ false).
      let r = rarest_holds p some in (
        r.0,
        r.1,
        or_right _ _ (and_from _ _ (not_from_false _ free)
            (ap (λ b. same_byte c b (rarest p)) r.2 ∙ same_byte_refl c (rarest p))),
      ))
      (cases_Bool (list_any f p))

  reached : (ps : List (List ℕ)) (f : ℕ → Bool) (i : ℕ) → i < length ps → 0 < length (get_or ps i []) → (k : ℕ)
      × (k < length (get_or ps i [])) × (fold (with_rarest c) f ps (slice_index (get_or ps i []) k) ≡ true)
  reached [] f i below some = absurd (omega arith)
  reached (p ∷ ps) f zero below some =
      let here = taken f p some in (here.0, here.1, kept ps (with_rarest c f p) (slice_index p here.0) here.2)
  reached (p ∷ ps) f (suc i) below some = reached ps (with_rarest c f p) i (omega arith) some

pub rare_closed : (c : Bool) (ps : List (List ℕ)) (a b : ℕ) → is_rare_byte c ps a ≡ true → same_byte c a b ≡ true
    → is_rare_byte c ps b ≡ true
rare_closed c ps = closed c ps (λ (_ : ℕ). false) (λ a b here same. absurd cc)

pub rare_reached : (c : Bool) (ps : List (List ℕ)) (i : ℕ) → i < length ps → 0 < length (get_or ps i []) → (k : ℕ)
    × (k < length (get_or ps i [])) × (is_rare_byte c ps (slice_index (get_or ps i []) k) ≡ true)
rare_reached c ps = reached c ps (λ (_ : ℕ). false)

pub offset-le-largest_offset : (c : Bool) (ps : List (List ℕ)) (i b : ℕ)
    → offset_below c b (get_or ps i []) (length (get_or ps i [])) ≤ largest_offset c ps b
offset-le-largest_offset c ps i b = value-le-largest (λ p. offset_below c b p (length p)) ps 0 i [] (omega arith)
