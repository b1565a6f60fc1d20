use Rattle.std.proofs.Common.{◌≡◌, length}
use Rattle.literal_base.specs.Inside.Classes.{runs_after}
use Rattle.literal_base.proofs.alphabet.ByteClassElementRangesIterator.next.Given as goal

abbrev pub invariant-loop-byte : goal.invariant-loop-byte
invariant-loop-byte l =
    runs_after l.self-inside.range l.self-inside.elements
    ≡ runs_after l.initial.self-inside.range l.initial.self-inside.elements

abbrev pub decreases-loop-byte : goal.decreases-loop-byte
decreases-loop-byte l = length l.self-inside.elements
