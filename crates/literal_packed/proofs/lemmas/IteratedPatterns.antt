-- The patterns that an iterator gave, and those that are left.
-- For `RabinKarp::new` and confirming searches.
use Rattle.std.proofs.Common.{◌≡◌, ℕ, ◌+◌, ◌<◌, List, [], ◌∷◌, ◌++◌, append_assoc, length, get_or, refl, sym, ap, ◌∙◌}
use Rattle.std.proofs.Common.{arith}
use Rattle.std.proofs.lemmas.List.{get_or-map, get_or_at, length-map, length-append}
use Rattle.literal_base.specs.Occurs.{pattern_at}
use Rattle.literal_packed.specs.PatternsValue.{PatternsValue, IsWellFormed, in_order}
use Rattle.literal_packed.proofs.lemmas.Order.{order_below_at}

-- the patterns tried so far, and those left, are all of them in order
module _ (c : PatternsValue) where
  pair : ℕ → ℕ × List ℕ
  pair i = (i, pattern_at c.patterns i)

  pub length-order : (done left : List (ℕ × List ℕ)) → done ++ left ≡ in_order c
      → length done + length left ≡ length c.order
  length-order done left split = sym (length-append done left)
      ∙ (ap length split ∙ length-map c.order (λ i. (i, pattern_at c.patterns i)))

  -- the one that is next
  pub head_at : (done left : List (ℕ × List ℕ)) (x : ℕ × List ℕ) → done ++ x ∷ left ≡ in_order c
      → (length done < length c.order) × ((e : ℕ) → get_or c.order (length done) e ≡ x.0)
  head_at done left x split =
      let total = length-order done (x ∷ left) split in
      let fits : length done < length c.order = omega arith in (
        fits,
        λ e. ap (λ (p : ℕ × List ℕ). p.0)
            (sym (get_or-map (λ i. (i, pattern_at c.patterns i)) c.order (length done) e x fits)
            ∙ (ap (λ ps. get_or ps (length done) x) (sym split) ∙ get_or_at done x left x (length done) refl)),
      )

  pub head_below : IsWellFormed c → (done left : List (ℕ × List ℕ)) (x : ℕ × List ℕ) → done ++ x ∷ left ≡ in_order c
      → x.0 < length c.patterns
  head_below w done left x split =
      let at = head_at done left x split in
      order_below_at c (length done) x.0 w at.0 (sym (at.1 x.0))

-- what an iterator gives next stands between what it gave and what is left
pub split_next : {X : Type 0} (done : List X) {state all : List X} {x : X} {left : List X} → done ++ state ≡ all
    → state ≡ x ∷ left → done ++ x ∷ left ≡ all
split_next done split next = ap (λ ps. done ++ ps) (sym next) ∙ split

pub split_more : {X : Type 0} (done : List X) {state all : List X} {x : X} {left : List X} → done ++ state ≡ all
    → state ≡ x ∷ left → (done ++ x ∷ []) ++ left ≡ all
split_more done {state} {all} {x} {left} split next = append_assoc done (x ∷ []) left ∙ split_next done split next
