use Rattle.std.proofs.Common.{◌∙◌, ◌+◌, ◌*◌, arith, sym}
use Rattle.literal_leftmost.specs.Inside.Backward.{back_tables_by}
use Rattle.literal_leftmost.proofs.lemmas.Leftmost.{no_first, none_on, ok_part_on, part_on, some_first}
use Rattle.literal_leftmost.proofs.backward.Backward.first_of_lanes.Goals as goal

pub returns-in_err-first-clause-first : goal.returns-in_err-first-clause-first
returns-in_err-first-clause-first c = λ search is steps none.
    let at = c.args.at in
    absurd (c.in_err-first.ensures.first search is (at + c.args.part) (at + c.args.part) (omega arith) steps.first
    (λ k after. none.first k (omega (arith, after))))

pub returns-in_err-first-2-clause-first : goal.returns-in_err-first-2-clause-first
returns-in_err-first-2-clause-first c = λ search is steps none.
    let upto = c.args.at + 2 * c.args.part in
    absurd (c.in_err-first-2.ensures.first search is upto upto (omega arith) steps.second
    (λ k after. none.second k (omega (arith, after))))

pub returns-in_err-first-3-clause-first : goal.returns-in_err-first-3-clause-first
returns-in_err-first-3-clause-first c = λ search is steps none.
    let upto = c.args.at + 3 * c.args.part in
    absurd (c.in_err-first-3.ensures.first search is upto upto (omega arith) steps.third
    (λ k after. none.third k (omega (arith, after))))

pub returns-then-is_some-clause-first : goal.returns-then-is_some-clause-first
returns-then-is_some-clause-first c = λ search is steps none.
    let at = c.args.at in
    let two = at + c.args.part in
    some_first (back_tables_by search c.args.self.now) c.args.haystack.now c.args.span.end at two
    (at + 4 * c.args.part) c.in_ok-first.first (sym c.is_some.ensures ∙ c.if-is_some.true)
    (c.in_ok-first.ensures.first search is two two (omega arith) steps.first
    (λ k after. none.first k (omega (arith, after))))

pub returns-then-is_some-2-clause-first : goal.returns-then-is_some-2-clause-first
returns-then-is_some-2-clause-first c = λ search is steps none.
    let tables = back_tables_by search c.args.self.now in
    let haystack = c.args.haystack.now in
    let end = c.args.span.end in
    let at = c.args.at in
    let two = at + c.args.part in
    let three = at + 2 * c.args.part in
    let one = no_first tables haystack end at two c.in_ok-first.first (sym c.is_some.ensures ∙ c.if-is_some.false)
    (c.in_ok-first.ensures.first search is two two (omega arith) steps.first
    (λ k after. none.first k (omega (arith, after)))) in
    some_first tables haystack end at three (at + 4 * c.args.part) c.in_ok-first-2.first
    (sym c.is_some-2.ensures ∙ c.if-is_some-2.true)
    (part_on tables haystack end at two three one c.in_ok-first-2.first
    (c.in_ok-first-2.ensures.first search is three three (omega arith) steps.second
    (λ k after. none.second k (omega (arith, after)))))

pub returns-then-is_some-3-clause-first : goal.returns-then-is_some-3-clause-first
returns-then-is_some-3-clause-first c = λ search is steps none.
    let tables = back_tables_by search c.args.self.now in
    let haystack = c.args.haystack.now in
    let end = c.args.span.end in
    let at = c.args.at in
    let two = at + c.args.part in
    let three = at + 2 * c.args.part in
    let four = at + 3 * c.args.part in
    let one = no_first tables haystack end at two c.in_ok-first.first (sym c.is_some.ensures ∙ c.if-is_some.false)
    (c.in_ok-first.ensures.first search is two two (omega arith) steps.first
    (λ k after. none.first k (omega (arith, after)))) in
    let second = no_first tables haystack end two three c.in_ok-first-2.first
    (sym c.is_some-2.ensures ∙ c.if-is_some-2.false)
    (c.in_ok-first-2.ensures.first search is three three (omega arith) steps.second
    (λ k after. none.second k (omega (arith, after)))) in
    some_first tables haystack end at four (at + 4 * c.args.part) c.in_ok-first-3.first
    (sym c.is_some-3.ensures ∙ c.if-is_some-3.true)
    (part_on tables haystack end at three four (none_on tables haystack end at two three one second)
    c.in_ok-first-3.first
    (c.in_ok-first-3.ensures.first search is four four (omega arith) steps.third
    (λ k after. none.third k (omega (arith, after)))))

pub returns-clause-first : goal.returns-clause-first
returns-clause-first c = λ search is steps none.
    let tables = back_tables_by search c.args.self.now in
    let haystack = c.args.haystack.now in
    let end = c.args.span.end in
    let at = c.args.at in
    let two = at + c.args.part in
    let three = at + 2 * c.args.part in
    let four = at + 3 * c.args.part in
    let upto = at + 4 * c.args.part in
    let one = no_first tables haystack end at two c.in_ok-first.first (sym c.is_some.ensures ∙ c.if-is_some.false)
    (c.in_ok-first.ensures.first search is two two (omega arith) steps.first
    (λ k after. none.first k (omega (arith, after)))) in
    let second = no_first tables haystack end two three c.in_ok-first-2.first
    (sym c.is_some-2.ensures ∙ c.if-is_some-2.false)
    (c.in_ok-first-2.ensures.first search is three three (omega arith) steps.second
    (λ k after. none.second k (omega (arith, after)))) in
    let third = no_first tables haystack end three four c.in_ok-first-3.first
    (sym c.is_some-3.ensures ∙ c.if-is_some-3.false)
    (c.in_ok-first-3.ensures.first search is four four (omega arith) steps.third
    (λ k after. none.third k (omega (arith, after)))) in
    ok_part_on tables haystack end at four upto
    (none_on tables haystack end at three four (none_on tables haystack end at two three one second) third)
    c.first_before-4.result
    (c.first_before-4.ensures.first search is upto upto (omega arith) steps.fourth
    (λ k after. none.fourth k (omega (arith, after))))
