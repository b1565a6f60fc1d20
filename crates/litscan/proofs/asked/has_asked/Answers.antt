use Rattle.std.proofs.Common.{◌∙◌}
use Rattle.litscan.proofs.lemmas.Asked.{told_by_any, told_by_first}
use Rattle.litscan.proofs.asked.has_asked.Goals as goal

pub returns-then-options : goal.returns-then-options
returns-then-options c =
    c.is_some.ensures
    ∙ told_by_first c.args.search.now c.args.options c.args.line.now c.whole_line.result c.whole_line.ensures.first

pub returns : goal.returns
returns c =
    c.is_match.ensures.told
    ∙ told_by_any c.args.search.now c.args.options c.args.line.now c.if-options.false c.if-options-2.false
