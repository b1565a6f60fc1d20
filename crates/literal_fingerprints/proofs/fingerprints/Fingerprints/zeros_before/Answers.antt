use Rattle.std.proofs.Common.{◌+◌, ◌∙◌, arith, sym}
use Rattle.literal_fingerprints.proofs.lemmas.Far.{by_halves, none_by_lows}
use Rattle.literal_fingerprints.proofs.lemmas.Sets.{meets}
use Rattle.literal_fingerprints.proofs.fingerprints.Fingerprints.zeros_before.Goals as goal

pub returns-then-zeros_before_wide-eq-WIDE-clause-zero : goal.returns-then-zeros_before_wide-eq-WIDE-clause-zero
returns-then-zeros_before_wide-eq-WIDE-clause-zero c text ends begins k below =
    let lows = c.lows-lows.ensures text ends begins in
    none_by_lows c.args.self.now (λ j. text (13 + k + j))
    (sym (lows.each k below)
    ∙ c.zeros_before_wide.ensures.zero k (omega (arith, c.if-zeros_before_wide-eq-WIDE.true)))

pub returns-clause-zero : goal.returns-clause-zero
returns-clause-zero c text ends begins k below =
    let lows = c.lows-lows.ensures text ends begins in
    let highs = c.highs.ensures text ends begins in
    let inside = c.zeros_before_wide-2.ensures.few in
    sym (by_halves c.args.self.now (λ j. text (13 + k + j)))
    ∙ (sym (c.both_wide.ensures.each k (omega arith)
    ∙ meets _ _ _ _ (lows.each k (omega arith)) (highs.each k (omega arith)))
    ∙ c.zeros_before_wide-2.ensures.zero k below)

pub returns-clause-stops : goal.returns-clause-stops
returns-clause-stops c text ends begins below none =
    let k = c.zeros_before_wide-2.result in
    let lows = c.lows-lows.ensures text ends begins in
    let highs = c.highs.ensures text ends begins in
    c.zeros_before_wide-2.ensures.stops below
    (c.both_wide.ensures.each k below
    ∙ (meets _ _ _ _ (lows.each k below) (highs.each k below)
    ∙ (by_halves c.args.self.now (λ j. text (13 + k + j)) ∙ none)))
