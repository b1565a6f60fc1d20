use Rattle.std.proofs.Common.{◌∙◌, ap, bit_xor, arith, get_or, take}
use Rattle.std.proofs.lemmas.List.{get_or-take, length-take}
use Rattle.literal_fingerprints.proofs.lemmas.Lanes.{lanes_of_two}
use Rattle.literal_fingerprints.proofs.short.differing.Goals as goal

pub returns : goal.returns
returns c =
    let others = take 16 c.args.others.now in
    let lanes = lanes_of_two bit_xor c.args.bytes others c.fits-bytes.0
    (omega (arith, length-take 16 c.args.others.now, c.well_formed)) in
    record {
      long = lanes.long;
      each = λ k below.
          lanes.each k below ∙ ap (bit_xor (get_or c.args.bytes k 0)) (get_or-take 16 c.args.others.now k 0 below);
    }
