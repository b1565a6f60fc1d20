use Rattle.literal_base.specs.Occurs.{pattern_at}
use Rattle.literal_rows.specs.Inside.Suffixes.{HasUpTo, left_from}
use Rattle.literal_rows.specs.Inside.Lists.{symbols_of}
use Rattle.literal_rows.proofs.suffixes.Recognised.suffixes_of.Given as goal

abbrev pub invariant-loop-next : goal.invariant-loop-next
invariant-loop-next l =
    HasUpTo (symbols_of l.fn.self) (pattern_at (symbols_of l.fn.self) l.fn.pattern) l.list.items l.next

abbrev pub decreases-loop-next : goal.decreases-loop-next
decreases-loop-next l = left_from (symbols_of l.fn.self) l.next
