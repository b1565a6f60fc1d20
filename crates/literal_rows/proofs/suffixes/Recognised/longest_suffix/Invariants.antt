use Rattle.std.proofs.Common.{drop, take, ◌-◌}
use Rattle.literal_base.specs.Occurs.{pattern_at}
use Rattle.literal_rows.specs.Inside.Lists.{HasReadText, symbols_of}
use Rattle.literal_rows.proofs.suffixes.Recognised.longest_suffix.Given as goal

abbrev pub invariant-loop-at : goal.invariant-loop-at
invariant-loop-at l =
    HasReadText l.fn.self l.row
    (take (l.at - l.fn.from) (drop l.fn.from (pattern_at (symbols_of l.fn.self) l.fn.pattern)))
