use Rattle.litscan.proofs.lemmas.Lines.{lines_are, only_lines}
use Rattle.litscan.proofs.laws.lines_make_the_text.Goals as goal

pub returns-clause-are : goal.returns-clause-are
returns-clause-are c = λ line_end text. lines_are line_end text

pub returns-clause-only : goal.returns-clause-only
returns-clause-only c = λ line_end text lines are. only_lines line_end text lines are
