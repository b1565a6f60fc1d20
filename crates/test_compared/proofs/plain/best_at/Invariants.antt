use Rattle.std.proofs.Common.{map}
use Rattle.test_compared.specs.Best.{IsBestIfAny}
use Rattle.test_compared.proofs.plain.best_at.Given as goal

abbrev pub invariant-loop-i : goal.invariant-loop-i
invariant-loop-i l =
    IsBestIfAny (record { kind = l.kind; patterns = map (λ p. p.now) l.patterns }) l.ignore_case l.haystack l.span l.at
    l.i l.best
