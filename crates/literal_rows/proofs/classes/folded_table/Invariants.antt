use Rattle.std.proofs.Common.{◌≡◌, ◌<◌, ℕ, false, get_or, if◌then◌else◌, length}
use Rattle.literal_rows.specs.Inside.Classes.{folded}
use Rattle.literal_rows.proofs.classes.folded_table.Given as goal

abbrev pub invariant-loop-byte : goal.invariant-loop-byte
invariant-loop-byte l = record {
  each : length l.table ≡ 256;
  is : (b : ℕ) → b < l.byte
      → (folded l.ignore_case b < 256)
      × (get_or l.table b 0
      ≡ (if get_or l.seen (folded l.ignore_case b) false then get_or l.numbers.table
      (folded l.ignore_case b) 0 else l.other));
}
