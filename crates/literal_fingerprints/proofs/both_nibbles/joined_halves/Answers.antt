use Rattle.std.proofs.Common.{◌∙◌}
use Rattle.std.proofs.lemmas.List.{get_or-take}
use Rattle.literal_fingerprints.proofs.both_nibbles.joined_halves.Goals as goal

pub returns : goal.returns
returns c = record {
  long = c.joined.ensures.long;
  front = λ k below. c.joined.ensures.front k below ∙ get_or-take 16 c.args.nibbles.low k 0 below;
  back = λ k below. c.joined.ensures.back k below ∙ get_or-take 16 c.args.nibbles.high k 0 below;
}
