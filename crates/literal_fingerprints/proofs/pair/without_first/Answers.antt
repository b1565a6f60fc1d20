use Rattle.std.proofs.Common.{◌+◌, ◌-◌, ◌∙◌, ap, arith, bit_and, cond, get_or, inl, inr, ltb, replicate, sym, ℕ}
use Rattle.std.proofs.lemmas.Bool.{cases_lt, le-ltb, lt-ltb}
use Rattle.std.proofs.lemmas.List.{get_or-replicate, length-replicate}
use Rattle.std.specs.Int.Bits.{and_zero_r}
use Rattle.literal_fingerprints.specs.Inside.Lanes.{HasLanes}
use Rattle.literal_fingerprints.proofs.pair.without_first.Goals as goal

pub returns : goal.returns
returns c =
    let n = c.args.lanes in
    let value : ℕ → ℕ = λ j. cond (ltb j 16) 0 255 in
    let zeros : HasLanes (replicate {A = ℕ} 16 0) value =
    record {
      long = length-replicate {A = ℕ} 16 0;
      each = λ k below. get_or-replicate {A = ℕ} 16 k 0 0 below ∙ sym (ap (λ t. cond t 0 255) (lt-ltb k 16 below));
    } in
    let ones : HasLanes (replicate {A = ℕ} 16 255) (λ k. value (16 + k)) =
    record {
      long = length-replicate {A = ℕ} 16 255;
      each = λ k below.
          get_or-replicate 16 k 255 0 below ∙ sym (ap (λ t. cond t 0 255) (le-ltb (16 + k) 16 (omega arith)));
    } in
    let moved = c.shifted.ensures value zeros ones in
    let lane = λ (k : ℕ). get_or c.args.all k 0 in
    record {
      long = c.both.ensures.long;
      each = λ k below.
          c.both.ensures.each k below
          ∙ (ap (bit_and (lane k)) (moved.each k below)
          ∙ elim (cases_lt k n) [
            | inl before ↦
                ap (λ t. bit_and (lane k) (cond t 0 255)) (lt-ltb (16 - n + k) 16 (omega arith))
                ∙ (and_zero_r (lane k) ∙ sym (ap (λ t. cond t 0 (bit_and (lane k) 255)) (lt-ltb k n before)))
            | inr after ↦
                ap (λ t. bit_and (lane k) (cond t 0 255)) (le-ltb (16 - n + k) 16 (omega (arith, c.requires)))
                ∙ sym (ap (λ t. cond t 0 (bit_and (lane k) 255)) (le-ltb k n after))
          ]);
    }
