use Rattle.literal_prefilters.proofs.lemmas.Callers.{IsFree}
use Rattle.test_compared.proofs.steps.step_plainly.Given as goal

-- no byte of the table stands before
abbrev pub invariant-loop-place : goal.invariant-loop-place
invariant-loop-place l = IsFree l.table l.haystack l.fn.span.start l.place
