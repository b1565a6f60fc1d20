use Rattle.std.proofs.Common.{◌≡◌, ℕ, ◌+◌, ◌-◌, ◌<◌, ◌∙◌, ap, arith, bit_and, get_or, subst, sym}
use Rattle.literal_fingerprints.specs.Inside.Hits.{hit, with_between}
use Rattle.literal_fingerprints.specs.Inside.Lanes.{HasWide}
use Rattle.literal_fingerprints.proofs.lemmas.Sets.{meets}
use Rattle.literal_fingerprints.proofs.pair.RarePair.pairs_wide.Goals as goal
use Rattle.literal_fingerprints.proofs.pair.RarePair.pairs_wide.Goals.{else-by_three, then-by_three}

pub returns : goal.returns
returns c bytes before here =
    let pair = c.args.self.now in
    let apart = c.args.apart in
    let place = λ (k : ℕ). 16 - apart + k in
    let first = λ (byte : ℕ). hit pair.first.byte c.args.first_mask byte in
    let second = λ (byte : ℕ). hit pair.second.byte c.args.second_mask byte in
    let third = λ (byte : ℕ). hit pair.between c.args.first_mask byte in
    let ends = λ (k : ℕ). bit_and (first (bytes (place k + 0))) (second (bytes (place k + apart))) in
    let between = λ (k : ℕ). third (bytes (place k + 1)) in
    let all = λ (k : ℕ). with_between c.args.by_three (ends k) (between k) in
    let moved = c.shifted_wide.ensures bytes before here in
    let are_ends : (k : ℕ) → k < 32 → get_or c.both_wide-ends.result k 0 ≡ ends k =
    λ k below.
    let same : place k ≡ place k + 0 = omega arith in
    let behind : 16 + k ≡ place k + apart = omega (arith, c.requires.near) in
    c.both_wide-ends.ensures.each k below
    ∙ meets _ _ _ _
    (c.wanted_wide-first.ensures.each k below ∙ ap first (moved.each k below ∙ ap bytes same))
    (c.wanted_wide.ensures.each k below ∙ ap second (here.each k below ∙ ap bytes behind)) in
    elim c.if-by_three.branch [
      | then-by_three w ↦
          let near = w.shifted_wide-between.ensures bytes before here in
          subst (λ lanes. HasWide lanes all) (sym w.result-is) (record {
            long = w.both_wide.ensures.long;
            each = λ k below.
                let same : 16 - (apart - 1) + k ≡ place k + 1 =
                omega (arith, c.requires.near, c.requires.far w.if-by_three.true) in
                w.both_wide.ensures.each k below
                ∙ meets _ _ _ _ (are_ends k below)
                (w.wanted_wide-then-by_three.ensures.each k below ∙ ap third (near.each k below ∙ ap bytes same))
                ∙ ap (λ three. with_between three (ends k) (between k)) (sym w.if-by_three.true);
          })
      | else-by_three w ↦ subst (λ lanes. HasWide lanes all) (sym w.result-is) (record {
        long = c.both_wide-ends.ensures.long;
        each = λ k below.
            are_ends k below ∙ ap (λ three. with_between three (ends k) (between k)) (sym w.if-by_three.false);
      })
    ]
