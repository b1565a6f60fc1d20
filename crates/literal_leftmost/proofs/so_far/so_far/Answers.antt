use Rattle.std.proofs.lemmas.Grind.{common_steps}
use Rattle.std.proofs.Common.{Option, arith, length, subst}
use Rattle.std.proofs.lemmas.Bool.{cases_lt}
use Rattle.literal_base.specs.Leftmost.{IsLeftmost}
use Rattle.literal_base.specs.MatchValue.{MatchValue}
use Rattle.literal_base.specs.Occurs.{between}
use Rattle.literal_rows.proofs.lemmas.Longest.{longest_is}
use Rattle.literal_leftmost.proofs.lemmas.SoFar.{leftmost_longer, occurs_prefix}
use Rattle.literal_leftmost.proofs.so_far.so_far.Goals.{in-Some+else-end-start, in_default}
use Rattle.literal_leftmost.proofs.so_far.so_far.Goals as goal

pub returns-then-end-start-clause-whatever_follows : goal.returns-then-end-start-clause-whatever_follows
returns-then-end-start-clause-whatever_follows c = λ query ignore_case more longest_is_so leftmost.
    let text = c.args.haystack.now in
    let first = subst (λ (a : Option MatchValue). IsLeftmost query ignore_case text (between c.args.at (length text)) a)
    c.in-Some.is leftmost in
    let end = first.occurs.before_end in
    leftmost_longer query ignore_case text more c.args.at c.in-Some.found
    (omega (arith, c.if-end-start.true, c.start.ensures.start, longest_is_so, end)) first

pub returns-clause-whatever_follows : goal.returns-clause-whatever_follows
returns-clause-whatever_follows c =
    grind (arith, common_steps, cases_lt, longest_is, occurs_prefix, in-Some+else-end-start, in_default)
