use Rattle.std.proofs.Common.{ℕ, ◌<◌, map}
use Rattle.literal_base.specs.Occurs.{Occurs}
use Rattle.test_compared.proofs.plain.leftmost_plainly.Given as goal

abbrev pub invariant-loop-at : goal.invariant-loop-at
invariant-loop-at l =
    (i s : ℕ) → s < l.at → ¬ Occurs (map (λ p. p.now) l.patterns) l.ignore_case l.haystack l.fn.span i s
