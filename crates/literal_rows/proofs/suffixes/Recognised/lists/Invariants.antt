use Rattle.literal_rows.specs.Inside.Lists.{AreLists, symbols_of}
use Rattle.literal_rows.proofs.suffixes.Recognised.lists.Given as goal

abbrev pub invariant-loop-pattern : goal.invariant-loop-pattern
invariant-loop-pattern l =
    AreLists (symbols_of l.fn.self) l.lists.ends.items l.lists.starts.items l.pattern
