use Rattle.std.proofs.Common.{ap, length, arith}
use Rattle.std.proofs.KnownBytes.{Consumes-trans}
use Rattle.std.proofs.lemmas.Grind.{common_steps}
use Rattle.litfind.proofs.engine.read_to_end.Goals as goal

-- what the last read gave was read too, though no memory was left for it
pub returns-in_err-extend_from_slice-in-Ok-clause-some : goal.returns-in_err-extend_from_slice-in-Ok-clause-some
returns-in_err-extend_from_slice-in-Ok-clause-some g c =
    record { input = _; bytes = Consumes-trans _ _ _ _ _ c.loop-input.invariant.0 c.in-Ok.ensures.bytes.0 }

-- and it was a byte or more
pub returns-in_err-extend_from_slice-in-Ok-clause-no_memory :
    goal.returns-in_err-extend_from_slice-in-Ok-clause-no_memory
returns-in_err-extend_from_slice-in-Ok-clause-no_memory g c = λ _. (
  grind (arith, common_steps, c.in-Ok.ensures.end),
  record {
    input = _;
    some = λ none. grind (arith, common_steps, ap length none);
    bytes = Consumes-trans _ _ _ _ _ c.loop-input.invariant.0 c.in-Ok.ensures.bytes.0;
  },
)
