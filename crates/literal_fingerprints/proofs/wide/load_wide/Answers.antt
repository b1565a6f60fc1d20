use Rattle.std.proofs.lemmas.Simd.{get_or-chunk, length-chunk}
use Rattle.literal_fingerprints.proofs.wide.load_wide.Goals as goal

pub returns-clause-lanes : goal.returns-clause-lanes
returns-clause-lanes c = record {
  long = length-chunk c.args.at 32 c.args.haystack.now c.requires;
  each = λ k below. get_or-chunk c.args.at 32 c.args.haystack.now k 0 below;
}
