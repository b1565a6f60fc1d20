use Rattle.std.proofs.Common.{◌≡◌, ℕ, ◌+◌, ◌∙◌, ap, arith, subst}
use Rattle.literal_fingerprints.specs.FingerprintsValue.{FingerprintsValue, HalfTable}
use Rattle.literal_fingerprints.specs.Inside.Lanes.{HasWide}
use Rattle.literal_fingerprints.specs.Inside.Nibbles.{half_table}
use Rattle.literal_fingerprints.specs.Inside.Scan.{low_of, shared_lows}
use Rattle.literal_fingerprints.proofs.lemmas.Sets.{meets}
use Rattle.literal_fingerprints.proofs.fingerprints.Fingerprints.lows.Goals as goal

pub returns : goal.returns
returns c text ends begins =
    let own = c.self.inside in
    let moved : (table : HalfTable) (lane m n : ℕ) → lane ≡ text m → m ≡ n
    → low_of table lane ≡ low_of table (text n) =
    λ table lane m n is same. ap (low_of table) (is ∙ ap text same) in
    let first = c.three_back_wide.ensures text ends begins in
    let second = c.two_back_wide.ensures text ends begins in
    let third = c.one_back_wide.ensures text ends begins in
    subst (λ (f : FingerprintsValue). HasWide c.both_wide-3.result (λ k. shared_lows f (λ j. text (13 + k + j))))
    c.self.view_is (record {
      long = c.both_wide-3.ensures.long;
      each = λ k below.
          c.both_wide-3.ensures.each k below
          ∙ meets _ _ _ _
          (c.both_wide.ensures.each k below
          ∙ meets _ _ _ _
          (c.by_low_wide-first.ensures.each k below
          ∙ moved (half_table own.first) _ _ _ (first.each k below) (omega arith))
          (c.by_low_wide-second.ensures.each k below
          ∙ moved (half_table own.second) _ _ _ (second.each k below) (omega arith)))
          (c.both_wide-2.ensures.each k below
          ∙ meets _ _ _ _
          (c.by_low_wide-third.ensures.each k below
          ∙ moved (half_table own.third) _ _ _ (third.each k below) (omega arith))
          (c.by_low_wide-fourth.ensures.each k below
          ∙ moved (half_table own.fourth) _ _ _ (begins.each k below) (omega arith)));
    })
