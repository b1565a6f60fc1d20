use Rattle.std.proofs.Common.{ℕ, ◌+◌, ◌∙◌, arith}
use Rattle.literal_fingerprints.specs.FingerprintsValue.{HalfTable}
use Rattle.literal_fingerprints.specs.Inside.Scan.{high_of, looked_up, low_of}
use Rattle.literal_fingerprints.proofs.lemmas.Scan.{moved, next_halves, shared_by_both}
use Rattle.literal_fingerprints.proofs.lemmas.Sets.{meets}
use Rattle.literal_fingerprints.proofs.looked_up.LookedUp.shared_after.Goals as goal

pub returns : goal.returns
returns c f haystack start at before here =
    let low : HalfTable → ℕ → ℕ = λ table k. looked_up (low_of table) haystack start (at + k) in
    let high : HalfTable → ℕ → ℕ = λ table k. looked_up (high_of table) haystack start (at + k) in
    let move = moved haystack start in
    let next = next_halves haystack start in
    let first = c.three_back_in_both.ensures (low f.first) (high f.first) before.first (next f.first _ at here.first) in
    let second =
    c.two_back_in_both.ensures (low f.second) (high f.second) before.second (next f.second _ at here.second) in
    let third = c.one_back_in_both.ensures (low f.third) (high f.third) before.third (next f.third _ at here.third) in
    let fourth = next f.fourth _ at here.fourth in
    record {
      long = c.both.ensures.long;
      each = λ k below.
          c.both.ensures.each k below
          ∙ (meets _ _ _ _
          (c.front_half.ensures.each k below ∙ (c.both_wide-shared.ensures.each k (omega (arith, below))
          ∙ meets _ _ _ _
          (c.both_wide-start.ensures.each k (omega (arith, below))
          ∙ meets _ _ _ _ (first.front k below)
          (second.front k below ∙ move (low_of f.second) _ _ (omega arith)))
          (c.both_wide-end.ensures.each k (omega (arith, below))
          ∙ meets _ _ _ _ (third.front k below ∙ move (low_of f.third) _ _ (omega arith))
          (fourth.front k below ∙ move (low_of f.fourth) _ _ (omega arith)))))
          (c.back_half.ensures.each k below ∙ (c.both_wide-shared.ensures.each (16 + k) (omega (arith, below))
          ∙ meets _ _ _ _
          (c.both_wide-start.ensures.each (16 + k) (omega (arith, below))
          ∙ meets _ _ _ _ (first.back k below)
          (second.back k below ∙ move (high_of f.second) _ _ (omega arith)))
          (c.both_wide-end.ensures.each (16 + k) (omega (arith, below))
          ∙ meets _ _ _ _ (third.back k below ∙ move (high_of f.third) _ _ (omega arith))
          (fourth.back k below ∙ move (high_of f.fourth) _ _ (omega arith)))))
          ∙ shared_by_both haystack start f (at + (13 + k)));
    }
