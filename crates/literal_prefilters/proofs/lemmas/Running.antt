-- What a builder keeps of its patterns, one pattern more, and the tables that it gives.
-- For `Running`.
use Rattle.std.proofs.Common.{◌≡◌, ◌==◌, ℕ, ◌<◌, ◌≤◌, ◌||◌, ◌&&◌, ◌↔◌, IsTrue, not, max, cond, Bool, true, false, List}
use Rattle.std.proofs.Common.{[], ◌∷◌, ◌++◌, length, drop, nat_le, nat_lt, slice_index, Option, Some, None, refl, sym}
use Rattle.std.proofs.Common.{ap, ◌∙◌, ⊎_elim, arith}
use Rattle.std.proofs.lemmas.Bool.{cases_lt, lt-leb, le-leb, lt-ltb, or_left}
use Rattle.std.proofs.lemmas.List.Folds.{list_any-append, list_all-append}
use Rattle.std.proofs.lemmas.List.Sums.{fold_push}
use Rattle.literal_base.specs.Occurs.{same_byte}
use Rattle.literal_prefilters.specs.Table.{size}
use Rattle.literal_prefilters.specs.Tables.{of_set, table_of, if_low, if_small, is_start_byte, start_table, with_rarest}
use Rattle.literal_prefilters.specs.Tables.{is_rare_byte, offset_below, largest_offset, rare_table}
use Rattle.literal_prefilters.specs.Inside.Running.{IsUpTo, are_short}
use Rattle.literal_prefilters.proofs.lemmas.Lists.{or_false}
use Rattle.literal_prefilters.proofs.lemmas.RareSetSteps.{is_rare_byte-push, with_rarest-agree}
use Rattle.literal_prefilters.proofs.lemmas.Sets.{size-of_set, size-agree, size-grows}
use Rattle.literal_prefilters.proofs.lemmas.TableOf.{table_of_agree}

and_true : (x : Bool) → (x && true) ≡ x
and_true true = refl
and_true false = refl

pub is_start_byte-push : (c : Bool) (ps : List (List ℕ)) (p : List ℕ) (b : ℕ)
    → is_start_byte c (ps ++ p ∷ []) b ≡ (is_start_byte c ps b || same_byte c b (slice_index p 0))
is_start_byte-push c ps p b =
    list_any-append (λ q. same_byte c b (slice_index q 0)) ps (p ∷ [])
    ∙ ap (λ t. is_start_byte c ps b || t) (or_false (same_byte c b (slice_index p 0)))

pub largest_offset-push : (c : Bool) (ps : List (List ℕ)) (p : List ℕ) (b : ℕ)
    → largest_offset c (ps ++ p ∷ []) b ≡ max (largest_offset c ps b) (offset_below c b p (length p))
largest_offset-push c ps p b = fold_push (λ most q. max most (offset_below c b q (length q))) 0 ps p

pub are_short-push : (ps : List (List ℕ)) (p : List ℕ)
    → are_short (ps ++ p ∷ []) ≡ (are_short ps && nat_le (length p) 255)
are_short-push ps p =
    list_all-append (λ q. nat_le (length q) 255) ps (p ∷ [])
    ∙ ap (λ t. are_short ps && t) (and_true (nat_le (length p) 255))

pub short_more : (ps : List (List ℕ)) (p : List ℕ) (long : Bool) → long ≡ not (are_short ps) → length p ≤ 255
    → long ≡ not (are_short (ps ++ p ∷ []))
short_more ps p long is short =
    is ∙ ap not (sym (are_short-push ps p ∙ (ap (λ t. are_short ps && t) (le-leb (length p) 255 short)
    ∙ and_true (are_short ps))))

pub some_more : (ps : List (List ℕ)) (p : List ℕ) (n : ℕ) → 1 ≤ n → nat_lt 0 (length (ps ++ p ∷ [])) ≡ nat_le 1 n
some_more [] p n some = sym (le-leb 1 n some)
some_more (q ∷ ps) p n some =
    lt-ltb 0 (length (q ∷ ps ++ p ∷ [])) (omega arith) ∙ sym (le-leb 1 n some)

pub fits : (past : Bool) (n : ℕ) → (IsTrue past ↔ (3 < n)) → past ≡ false → n ≤ 3
fits past n tells not = ⊎_elim (λ (many : 3 < n). absurd (let is : past ≡ true = tells.1 many in cc)) (λ few. few)
    (cases_lt 3 n)

-- the same set
pub up_to : (set wanted : ℕ → Bool) → ((b : ℕ) → set b ≡ wanted b) → IsUpTo set wanted
up_to set wanted same = record {
  exact = λ _. same;
  past = λ many. let e = size-agree set wanted same in omega arith;
}

-- no byte of no pattern
pub up_to-none : (set : ℕ → Bool) → ((b : ℕ) → set b ≡ false) → IsUpTo set (λ _. false)
up_to-none set none = up_to set (λ _. false) none

-- past a table, and left as it is while the wanted set grows
left : (set wanted more : ℕ → Bool) → 3 < size (of_set set) → IsUpTo set wanted
    → ((b : ℕ) → wanted b ≡ true → more b ≡ true) → IsUpTo set more
left set wanted more many u grows =
    let bound = size-grows wanted more grows in
    record {
      exact = λ few. absurd (omega arith);
      past = λ _. let was = u.past many in omega arith;
    }

module _ (c : Bool) (ps : List (List ℕ)) (p : List ℕ) (set : ℕ → Bool) where
  pub start_more : (new : ℕ → Bool) → IsUpTo set (is_start_byte c ps) → size (of_set set) ≤ 3
      → ((b : ℕ) → new b ≡ (set b || same_byte c b (slice_index p 0))) → IsUpTo new (is_start_byte c (ps ++ p ∷ []))
  start_more new u few each =
      up_to new (is_start_byte c (ps ++ p ∷ [])) (λ b. each b
      ∙ (ap (λ t. t || same_byte c b (slice_index p 0)) (u.exact few b) ∙ sym (is_start_byte-push c ps p b)))

  pub start_left : IsUpTo set (is_start_byte c ps) → 3 < size (of_set set) → IsUpTo set (is_start_byte c (ps ++ p ∷ []))
  start_left u many =
      left set (is_start_byte c ps) (is_start_byte c (ps ++ p ∷ [])) many u
      (λ b here. is_start_byte-push c ps p b ∙ or_left _ _ here)

  pub rare_more : (new : ℕ → Bool) → IsUpTo set (is_rare_byte c ps) → size (of_set set) ≤ 3
      → ((b : ℕ) → new b ≡ with_rarest c set p b) → IsUpTo new (is_rare_byte c (ps ++ p ∷ []))
  rare_more new u few each =
      up_to new (is_rare_byte c (ps ++ p ∷ [])) (λ b. each b
      ∙ (with_rarest-agree c set (is_rare_byte c ps) (u.exact few) p b ∙ sym (is_rare_byte-push c ps p b)))

  pub rare_left : IsUpTo set (is_rare_byte c ps) → 3 < size (of_set set) → IsUpTo set (is_rare_byte c (ps ++ p ∷ []))
  rare_left u many =
      left set (is_rare_byte c ps) (is_rare_byte c (ps ++ p ∷ [])) many u
      (λ b here. is_rare_byte-push c ps p b ∙ or_left _ _ here)

-- no table of more than three bytes
no_small : (p : ℕ → Bool) (f : ℕ → ℕ) → 3 < size (of_set p) → if_small (table_of p f) ≡ None
no_small p f many =
    let past : nat_le (size (table_of p f)) 3 ≡ false = lt-leb (size (table_of p f)) 3 (omega
    (arith, size-of_set p f)) in
    from (nat_le 1 (size (table_of p f))) (nat_le (size (table_of p f)) 3) past
  where
    from : (a b : Bool) → b ≡ false → cond (a && b) (Some (table_of p f)) None ≡ None
    from a true e = absurd cc
    from true false e = refl
    from false false e = refl

no_low : (t : List (Option ℕ)) → if_small t ≡ None → if_low t ≡ None
no_low t none = from (size (drop 128 t) == 0)
  where
    from : (b : Bool) → cond b (if_small t) None ≡ None
    from true = none
    from false = refl

-- the start table is that of the set
pub start_table-up_to : (c : Bool) (ps : List (List ℕ)) (set : ℕ → Bool) → IsUpTo set (is_start_byte c ps)
    → if_low (of_set set) ≡ start_table c ps
start_table-up_to c ps set u =
    let wanted = is_start_byte c ps in
    ⊎_elim
    (λ (many : 3 < size (of_set set)). no_low (of_set set) (no_small set (λ _. 0) many)
    ∙ sym (no_low (of_set wanted) (no_small wanted (λ _. 0) (u.past many))))
    (λ (few : size (of_set set) ≤ 3). ap if_low (table_of_agree set wanted (λ (_ : ℕ). 0) (λ _. 0) (u.exact few)
    (λ b. refl)))
    (cases_lt 3 (size (of_set set)))

-- elsewhere it is that of the set and the offsets
pub rare_table-up_to : (c : Bool) (ps : List (List ℕ)) (set : ℕ → Bool) (far : ℕ → ℕ)
    → false ≡ not (are_short ps) → IsUpTo set (is_rare_byte c ps)
    → nat_lt 0 (length ps) ≡ nat_le 1 (size (of_set set))
    → (size (of_set set) ≤ 3 → (b : ℕ) → far b ≡ largest_offset c ps b)
    → if_small (table_of set far) ≡ rare_table c ps
rare_table-up_to c ps set far short u some offsets =
    let wanted = is_rare_byte c ps in
    let most = largest_offset c ps in
    ⊎_elim
    (λ (many : 3 < size (of_set set)). no_small set far many
    ∙ sym (past (nat_lt 0 (length ps) && are_short ps) (nat_le (size (table_of wanted most)) 3)
    (lt-leb (size (table_of wanted most)) 3 (let was = u.past many in omega (arith, size-of_set wanted most)))))
    (λ (few : size (of_set set) ≤ 3).
    let same : table_of set far ≡ table_of wanted most = table_of_agree set wanted far most (u.exact few)
    (offsets few) in
    ap if_small same
    ∙ ap (λ t. cond (t && nat_le (size (table_of wanted most)) 3) (Some (table_of wanted most)) None)
    (ap (λ n. nat_le 1 n) (ap size (sym same) ∙ size-of_set set far)
    ∙ (sym some ∙ kept (nat_lt 0 (length ps)) (are_short ps) short)))
    (cases_lt 3 (size (of_set set)))
  where
    past : (a b : Bool) → b ≡ false → cond (a && b) (Some (table_of (is_rare_byte c ps)
        (largest_offset c ps))) None ≡ None
    past a true e = absurd cc
    past true false e = refl
    past false false e = refl

    kept : (a b : Bool) → false ≡ not b → a ≡ (a && b)
    kept true true e = refl
    kept false true e = refl
    kept a false e = absurd cc
