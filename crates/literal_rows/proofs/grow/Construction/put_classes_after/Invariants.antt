use Rattle.std.proofs.Common.{◌≡◌, get_or, map, take}
use Rattle.std.specs.List.{slice_range}
use Rattle.literal_base.specs.Occurs.{pattern_at}
use Rattle.literal_rows.specs.Inside.Construction.{texts_of}
use Rattle.literal_rows.proofs.grow.Construction.put_classes_after.Given as goal

abbrev pub invariant-loop-pattern : goal.invariant-loop-pattern
invariant-loop-pattern l =
    l.classes_after.items ≡ map (λ i. get_or (pattern_at (texts_of l.fn.self.texts) i) l.depth 256)
    (take l.pattern-index (slice_range l.fn.self.lists.items l.start l.end))
