use Rattle.std.proofs.Common.{◌≡◌, ◌<◌, drop, take}
use Rattle.std.specs.List.{All}
use Rattle.literal_c.specs.States.{ChangesAreBelow}
use Rattle.literal_c.proofs.states.write_numbers.Given as goal

abbrev pub invariant-loop-at : goal.invariant-loop-at
invariant-loop-at l = record {
  written : take l.at l.places ≡ take l.at l.numbers;
  small : All (λ number. number < l.limit) (take l.at l.numbers);
  below : ChangesAreBelow l.limit l.initial.places l.places;
  others : drop l.at l.places ≡ drop l.at l.initial.places;
}
