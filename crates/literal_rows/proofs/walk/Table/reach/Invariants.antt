use Rattle.std.proofs.Common.{◌≡◌, ◌+◌, ◌-◌, ◌<◌}
use Rattle.literal_rows.specs.Inside.Classes.{AreClasses}
use Rattle.literal_rows.specs.Inside.Walk.{WalksOn, classes_by, rows_by}
use Rattle.literal_rows.proofs.walk.Table.reach.Given as goal

abbrev pub invariant-loop-at : goal.invariant-loop-at
invariant-loop-at l = record {
  within : l.row < l.limit;
  walks : AreClasses (classes_by l.self) l.self.width → WalksOn l.self.width (rows_by l.self) l.fn.from
      (classes_by l.self) l.haystack l.fn.span.start l.at l.row;
  counted : l.tally ≡ record l.initial.tally { scanned = l.initial.tally.scanned + (l.at - l.fn.span.start) };
}
