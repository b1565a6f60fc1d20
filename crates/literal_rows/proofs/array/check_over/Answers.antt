use Rattle.std.proofs.Common.{◌∙◌, ap, arith, get_or, refl, sym}
use Rattle.std.specs.List.{fold}
use Rattle.std.proofs.lemmas.List.{take_all}
use Rattle.std.proofs.lemmas.List.Sums.{fold_more}
use Rattle.literal_rows.specs.Arrays.{Checks, check_of, check_of_four, checks_with, joined_with}
use Rattle.literal_rows.proofs.lemmas.Check.{at_first}
use Rattle.literal_rows.proofs.array.check_over.Goals as goal

pub loop-number-init : goal.loop-number-init
loop-number-init c = refl

pub loop-number-preserved : goal.loop-number-preserved
loop-number-preserved c =
    let q = c.loop-number in
    ap (λ n. let four : Checks = record { first = q.second; second = q.third; third = q.fourth; fourth = n } in four)
    c.check_with-next.ensures
    ∙ ap (λ q. checks_with q (get_or c.args.numbers.now c.loop-number.number-index 0)) c.loop-number.invariant
    ∙ sym (fold_more checks_with at_first c.args.numbers.now c.loop-number.number-index 0 c.loop-number-test.true)

pub returns : goal.returns
unfolding check_of
returns c =
    c.joined_with-4.ensures
    ∙ (ap (λ n. joined_with n c.loop-number.fourth)
    (c.joined_with-3.ensures
    ∙ ap (λ n. joined_with n c.loop-number.third)
    (c.joined_with-2.ensures ∙ ap (λ n. joined_with n c.loop-number.second) c.joined_with.ensures))
    ∙ (ap check_of_four c.loop-number.invariant
    ∙ ap (λ l. check_of_four (fold checks_with at_first l))
    (take_all c.loop-number.number-index c.args.numbers.now (omega (arith, c.loop-number-test.false)))))
