use Rattle.std.proofs.Common.{◌≡◌, ◌++◌, ◌+◌, length}
use Rattle.literal_packed.specs.PatternsValue.{in_order}
use Rattle.literal_prefilters.proofs.lemmas.BestAt.{NoneStandsOf}
use Rattle.literal_prefilters.proofs.prefilter.confirming.best_at.Given as goal

abbrev pub invariant-loop-id : goal.invariant-loop-id
invariant-loop-id l = record {
  split : l.yielded ++ l.id-iterator ≡ in_order l.patterns;
  none : NoneStandsOf l.patterns l.ignore_case l.haystack l.at l.yielded;
  counted : l.tally ≡ record l.initial.tally { compared = l.initial.tally.compared + length l.yielded };
}
