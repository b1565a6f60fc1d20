use Rattle.literal_rows.specs.Inside.Lists.{AreLongest, symbols_of}
use Rattle.literal_rows.proofs.suffixes.Recognised.longest.Given as goal

abbrev pub invariant-loop-pattern : goal.invariant-loop-pattern
invariant-loop-pattern l = AreLongest (symbols_of l.fn.self) l.longest.items l.pattern
