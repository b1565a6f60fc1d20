use Rattle.std.proofs.Common.{◌≡◌, ◌+◌, ◌*◌, ◌-◌, ◌≤◌, length}
use Rattle.literal_rows.specs.Table.{stride_of}
use Rattle.literal_rows.specs.Inside.Grown.{IsLonger}
use Rattle.literal_rows.specs.Inside.Construction.{AreWordsTo, Grows, LeadBack, LeadOn, words_of}
use Rattle.literal_rows.proofs.grow.Construction.put_all_next.Given as goal

abbrev pub decreases-loop-class : goal.decreases-loop-class
decreases-loop-class l = 256 - l.class

abbrev pub invariant-loop-class : goal.invariant-loop-class
invariant-loop-class l = record {
  grows : Grows l.self;
  few : l.class ≤ l.fn.self.texts.width;
  long : length l.row ≡ 257;
  words : AreWordsTo l.self (l.state * stride_of l.fn.self.texts.width + l.class);
  on : LeadOn l.self l.state l.class l.row;
  back : LeadBack l.self l.state l.class l.row;
  kept : IsLonger (words_of l.fn.self) (words_of l.self);
  texts : l.self.texts ≡ l.fn.self.texts;
  rows : l.self.rows ≡ l.fn.self.rows;
}
