use Rattle.std.proofs.Common.{◌∙◌, arith, sym}
use Rattle.std.proofs.lemmas.Simd.{get_or-chunk, length-chunk}
use Rattle.litscan.proofs.lemmas.Vectors.{first_few, first_lane, no_lane, none_before}
use Rattle.litscan.proofs.passed.before_end.Goals as goal

pub returns-then-ends-eq0-clause-none : goal.returns-then-ends-eq0-clause-none
returns-then-ends-eq0-clause-none c k below is =
    no_lane c.args.line_end _ (length-chunk c.args.at 16 c.args.bytes.now c.requires) c.if-ends-eq0.true k below
    (get_or-chunk c.args.at 16 c.args.bytes.now k 0 below ∙ is)

pub returns-else-ends-eq0-clause-few : goal.returns-else-ends-eq0-clause-few
returns-else-ends-eq0-clause-few c =
    first_few c.args.line_end _ (length-chunk c.args.at 16 c.args.bytes.now c.requires) c.if-ends-eq0.false

pub returns-else-ends-eq0-clause-none : goal.returns-else-ends-eq0-clause-none
returns-else-ends-eq0-clause-none c k below is =
    let long = length-chunk c.args.at 16 c.args.bytes.now c.requires in
    let few = first_few c.args.line_end _ long c.if-ends-eq0.false in
    none_before c.args.line_end _ long c.if-ends-eq0.false k below
    (get_or-chunk c.args.at 16 c.args.bytes.now k 0 (omega (arith, below, few)) ∙ is)

pub returns-else-ends-eq0-clause-feed : goal.returns-else-ends-eq0-clause-feed
returns-else-ends-eq0-clause-feed c below =
    sym (get_or-chunk c.args.at 16 c.args.bytes.now _ 0 below)
    ∙ first_lane c.args.line_end _ (length-chunk c.args.at 16 c.args.bytes.now c.requires) c.if-ends-eq0.false below
