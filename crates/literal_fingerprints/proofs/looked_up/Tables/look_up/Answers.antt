use Rattle.std.proofs.Common.{get_or}
use Rattle.literal_fingerprints.proofs.lemmas.Scan.{looked_lanes}
use Rattle.literal_fingerprints.proofs.looked_up.Tables.look_up.Goals as goal

pub returns : goal.returns
returns c f haystack start at are after loaded =
    let looked = looked_lanes haystack start in
    let bytes = c.args.bytes in
    record {
      first = looked f.first _ bytes at after loaded
          (c.look_up_both.ensures (λ k. get_or f.first.low k 0) (λ k. get_or f.first.high k 0) are.first);
      second = looked f.second _ bytes at after loaded
          (c.look_up_both-2.ensures (λ k. get_or f.second.low k 0) (λ k. get_or f.second.high k 0) are.second);
      third = looked f.third _ bytes at after loaded
          (c.look_up_both-3.ensures (λ k. get_or f.third.low k 0) (λ k. get_or f.third.high k 0) are.third);
      fourth = looked f.fourth _ bytes at after loaded
          (c.look_up_both-4.ensures (λ k. get_or f.fourth.low k 0) (λ k. get_or f.fourth.high k 0) are.fourth);
    }
