use Rattle.std.proofs.Common.{◌≡◌, ◌+◌, ◌*◌, ◌<◌}
use Rattle.literal_rows.specs.Inside.Classes.{AreClasses}
use Rattle.literal_rows.specs.Inside.Walk.{WalksOn, classes_by, rows_by}
use Rattle.literal_rows.proofs.walk.Table.none_in_four.Given as goal

abbrev pub invariant-loop-step : goal.invariant-loop-step
invariant-loop-step l = record {
  first_within : l.first < l.limit;
  second_within : l.second < l.limit;
  third_within : l.third < l.limit;
  fourth_within : l.fourth < l.limit;
  first : AreClasses (classes_by l.self) l.self.width → WalksOn l.self.width (rows_by l.self) 0 (classes_by l.self)
      l.haystack l.at (l.at + l.step) l.first;
  second : AreClasses (classes_by l.self) l.self.width → WalksOn l.self.width (rows_by l.self) 0 (classes_by l.self)
      l.haystack (l.at + l.block) (l.at + l.block + l.step) l.second;
  third : AreClasses (classes_by l.self) l.self.width → WalksOn l.self.width (rows_by l.self) 0 (classes_by l.self)
      l.haystack (l.at + 2 * l.block) (l.at + 2 * l.block + l.step) l.third;
  fourth : AreClasses (classes_by l.self) l.self.width → WalksOn l.self.width (rows_by l.self) 0 (classes_by l.self)
      l.haystack (l.at + 3 * l.block) (l.at + 3 * l.block + l.step) l.fourth;
  counted : l.tally ≡ record l.initial.tally { scanned = l.initial.tally.scanned + 4 * l.step };
}
