use Rattle.literal_fingerprints.proofs.lemmas.Scan.{no_lanes}
use Rattle.literal_fingerprints.proofs.looked_up.LookedUp.before_span.Goals as goal

pub returns : goal.returns
returns c f haystack start = record {
  first = no_lanes haystack start f.first;
  second = no_lanes haystack start f.second;
  third = no_lanes haystack start f.third;
  fourth = no_lanes haystack start f.fourth;
}
