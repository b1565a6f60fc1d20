use Rattle.literal_rows.specs.Inside.Lists.{AreNextEquals, AreOutputLinks, symbols_of}
use Rattle.literal_rows.proofs.suffixes.Recognised.links.Given as goal

abbrev pub invariant-loop-pattern : goal.invariant-loop-pattern
invariant-loop-pattern l = record {
  links : AreOutputLinks (symbols_of l.fn.self) l.links.items l.pattern;
  heads : AreNextEquals (symbols_of l.fn.self) l.heads.items l.pattern;
}
