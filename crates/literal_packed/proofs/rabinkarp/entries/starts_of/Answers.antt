use Rattle.std.proofs.Common.{refl, ltb, rules, ◌∙◌, arith}
use Rattle.std.proofs.lemmas.Fn.{always_returns_same}
use Rattle.std.proofs.lemmas.List.{length-set}
use Rattle.std.proofs.lemmas.List.Sorted.{IsPartitionedBy-ltb}
use Rattle.literal_packed.specs.Inside.Entries.{IsStart, bucket_number}
use Rattle.literal_packed.proofs.lemmas.Parts.{is_start, set_more}
use Rattle.literal_packed.proofs.rabinkarp.entries.starts_of.Goals as goal

pub loop-bucket-init : goal.loop-bucket-init
loop-bucket-init c = record { len = refl; are = λ k within. absurd (omega arith) }

pub loop-bucket-preserved : goal.loop-bucket-preserved
loop-bucket-preserved c =
    let entries = c.args.list.now in
    let bucket = c.loop-bucket.bucket-counter in
    let at = c.partition_point.result in
    let long = c.loop-bucket.invariant.len in
    let point = c.partition_point.ensures.partitioned (λ e. ltb (bucket_number e) bucket)
    (always_returns_same _ _ _ (λ a r g k. search rules)) (IsPartitionedBy-ltb bucket_number entries bucket c.requires)
    in
    record {
      len = length-set c.loop-bucket.starts bucket at ∙ long;
      are = set_more (IsStart entries) c.loop-bucket.starts bucket at (omega arith) c.loop-bucket.invariant.are
          (is_start entries bucket at c.partition_point.ensures.bound point);
    }

pub returns : goal.returns
returns c = λ k within. c.loop-bucket.invariant.are k (omega arith)
