use Rattle.litscan.proofs.lemmas.Passing.{ahead_of_front}
use Rattle.litscan.proofs.passed.look_ahead.Goals as goal

pub returns : goal.returns
returns c =
    ahead_of_front c.args.options.line_end c.args.search.now c.args.options _ c.args.bytes.now _
    c.look_over-2.ensures
