use Rattle.std.proofs.Common.{◌≡◌, ◌*◌, ◌-◌, ◌≤◌, ◌^◌, length}
use Rattle.literal_rows.specs.Table.{stride_of}
use Rattle.literal_rows.specs.Inside.Construction.{AreWordsTo, Grows}
use Rattle.literal_rows.proofs.grow.grow.Given as goal

abbrev pub decreases-loop-state : goal.decreases-loop-state
decreases-loop-state l = 2 ^ 31 - l.state

abbrev pub invariant-loop-state : goal.invariant-loop-state
invariant-loop-state l = record {
  grows : Grows l.construction;
  words : AreWordsTo l.construction (l.state * stride_of l.construction.texts.width);
  filled : length l.construction.rows.items ≡ l.state * stride_of l.construction.texts.width;
  states : l.state ≤ length l.construction.states.items;
  texts : l.construction.texts ≡ l.initial.construction.texts;
}
