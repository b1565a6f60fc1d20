use Rattle.literal_packed.specs.FindIterValue.{StandsAtEnd}
use Rattle.literal_packed.proofs.laws.none_is_for_good.Given as goal

abbrev pub invariant-loop : goal.invariant-loop
invariant-loop l = StandsAtEnd l.matches
