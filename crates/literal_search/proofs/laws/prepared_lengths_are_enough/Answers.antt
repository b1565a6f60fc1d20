use Rattle.std.proofs.Common.{arith}
use Rattle.literal_search.proofs.lemmas.Relabelled.{long_enough, places_once}
use Rattle.literal_search.proofs.laws.prepared_lengths_are_enough.Goals as goal

pub returns : goal.returns
returns c = grind (arith, long_enough, places_once)
