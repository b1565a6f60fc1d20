use Rattle.std.proofs.Common.{replicate, ℕ}
use Rattle.std.specs.Io.KnownBytes.{Appends}
use Rattle.literal_examples.proofs.redact.write_asterisks.Given as goal

abbrev pub invariant-loop-star : goal.invariant-loop-star
invariant-loop-star g l =
    Appends (g.W.Write.contents l.initial.writer) (g.W.Write.contents l.writer) (replicate {A = ℕ} l._star 42)
