use Rattle.std.proofs.Common.{arith, length, None, Some, Option, MatchOption, refl, ℕ}
use Rattle.litscan.specs.Inside.Passed.{IsAhead, LiesInLine}
use Rattle.litscan.proofs.lemmas.Passing.{takes_line, takes_lines}
use Rattle.litscan.proofs.passed.look_over.Goals as goal
use Rattle.std.specs.Prelude.{⊤}

pub returns-in_default : goal.returns-in_default
returns-in_default c =
    takes_lines c.args.options.line_end c.args.search.now c.args.options c.args.bytes.now
    c.end_of_lines-end.result (length c.args.bytes.now)
    c.count_ends.result c.end_of_lines-end.ensures.before (omega arith) c.end_of_lines-end.ensures.feed
    (λ i at below. c.in_default.ensures.leftmost i at) c.count_ends.ensures

pub returns : goal.returns
returns c = by c.length_from.result c.length_from.ensures
  where
    by : (next : Option ℕ)
        → MatchOption next ⊤
        (LiesInLine c.args.options.line_end c.args.bytes.now c.end_of_lines-start.result c.in-Some.found)
        → IsAhead c.args.options.line_end c.args.search.now c.args.options c.args.bytes.now
        (record { lines = c.count_ends-2.result; bytes = c.end_of_lines-start.result; next = next })
    by None lies =
        let first = c.in-Some.ensures.leftmost in
        takes_lines c.args.options.line_end c.args.search.now c.args.options c.args.bytes.now
        c.end_of_lines-start.result c.in-Some.found.start
        c.count_ends-2.result (omega (arith, c.end_of_lines-start.ensures.before, c.start.ensures))
        (omega (arith, first.occurs.before_end)) c.end_of_lines-start.ensures.feed first.earliest
        c.count_ends-2.ensures
    by (Some len) lies =
        let first = c.in-Some.ensures.leftmost in
        takes_line c.args.options.line_end c.args.search.now c.args.options c.args.bytes.now
        c.end_of_lines-start.result c.in-Some.found.start
        c.count_ends-2.result (omega (arith, c.end_of_lines-start.ensures.before, c.start.ensures))
        (omega (arith, first.occurs.before_end)) c.end_of_lines-start.ensures.feed first.earliest
        c.count_ends-2.ensures c.in-Some.found len refl first.occurs first.whole lies
