use Rattle.std.proofs.Common.{◌≡◌, ◌+◌, ◌-◌, ◌≤◌, ℕ, List, length, take}
use Rattle.std.specs.Io.KnownBytes.{Appends}
use Rattle.litscan.specs.Inside.Passed.{printed_each}
use Rattle.litscan.proofs.lemmas.Whole.{Makes}
use Rattle.litscan.proofs.buffered.print_each.Given as goal

-- the lines up to here are printed
abbrev pub invariant-loop-at : goal.invariant-loop-at
invariant-loop-at g l = record {
  seen : List (List ℕ);
  makes : Makes l.options.line_end (take l.at l.bytes) seen;
  written : Appends (g.W.Write.contents l.fn.writer.inner) (g.W.Write.contents l.writer.inner)
      (printed_each l.options l.name l.number l.offset seen);
  next_is : l.next ≡ l.number + length seen;
  inside : l.at ≤ length l.bytes;
}

abbrev pub decreases-loop-at : goal.decreases-loop-at
decreases-loop-at g l = length l.bytes - l.at
