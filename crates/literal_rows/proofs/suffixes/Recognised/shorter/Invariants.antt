use Rattle.literal_rows.specs.Inside.Lists.{symbols_of}
use Rattle.literal_rows.specs.Links.{AreLinks}
use Rattle.literal_rows.proofs.suffixes.Recognised.shorter.Given as goal

abbrev pub invariant-loop-pattern : goal.invariant-loop-pattern
invariant-loop-pattern l = AreLinks (symbols_of l.fn.self) l.links.items l.pattern
