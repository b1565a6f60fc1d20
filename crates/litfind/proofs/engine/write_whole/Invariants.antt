use Rattle.std.proofs.Common.{◌≡◌, ℕ, List, ◌++◌, false, length}
use Rattle.std.specs.Io.KnownBytes.{Appends}
use Rattle.litfind.proofs.engine.write_whole.Given as goal

-- what was written so far and the rest are the text, and no call has failed
abbrev pub invariant-loop-rest : goal.invariant-loop-rest
invariant-loop-rest g l =
    record {
      done : List ℕ;
      split : l.text ≡ done ++ l.rest;
      written : Appends (g.W.Sink.contents l.fn.writer) (g.W.Sink.contents l.writer) done;
      succeeded : g.W.Sink.failed l.writer ≡ false;
    }

abbrev pub decreases-loop-rest : goal.decreases-loop-rest
decreases-loop-rest g l = length l.rest
