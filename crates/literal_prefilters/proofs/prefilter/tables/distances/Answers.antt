use Rattle.std.proofs.Common.{cond, Some, None, slice_index, refl, arith}
use Rattle.literal_base.specs.Bytes.{contains}
use Rattle.literal_base.proofs.lemmas.Callers.{by_byte_is, get_or-replicate_same}
use Rattle.literal_prefilters.proofs.prefilter.tables.distances.Goals as goal

pub loop-byte-init : goal.loop-byte-init
loop-byte-init c = record {
  whole = refl;
  done = λ b below. absurd (omega arith);
  to_do = λ b _. get_or-replicate_same 256 None b;
}

pub returns : goal.returns
returns c =
    let set = c.args.set.now in
    let offsets = c.args.offsets.now in
    by_byte_is (λ b. cond (contains set b) (Some (slice_index offsets b)) None) c.loop-byte.distances None
    c.loop-byte.invariant.whole (λ b below. c.loop-byte.invariant.done b (omega arith))
