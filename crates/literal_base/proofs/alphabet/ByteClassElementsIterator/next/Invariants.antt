use Rattle.std.proofs.Common.{◌-◌, ◌≡◌, ◌≤◌, length}
use Rattle.literal_base.specs.Inside.Classes.{bytes_from}
use Rattle.literal_base.proofs.alphabet.ByteClassElementsIterator.next.Given as goal

abbrev pub invariant-loop-self : goal.invariant-loop-self
invariant-loop-self l =
    let e = l.self-inside in
    let i = l.initial.self-inside in
    record {
      whole : length e.classes.now ≡ 256;
      within : e.byte ≤ 256;
      same : bytes_from e.classes.now e.class e.byte ≡ bytes_from i.classes.now i.class i.byte;
    }

abbrev pub decreases-loop-self : goal.decreases-loop-self
decreases-loop-self l = 256 - l.self-inside.byte
