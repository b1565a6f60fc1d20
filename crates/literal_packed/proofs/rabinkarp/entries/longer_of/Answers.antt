use Rattle.std.proofs.Common.{arith}
use Rattle.std.proofs.lemmas.Nat.Bits.{bit_at-zero}
use Rattle.literal_packed.proofs.lemmas.Longer.{bits_set, bits_kept}
use Rattle.literal_packed.proofs.rabinkarp.entries.longer_of.Goals as goal
use Rattle.literal_packed.proofs.rabinkarp.entries.longer_of.Goals.{then-saturating_sub-gt2, else-saturating_sub-gt2}

pub loop-bucket-init : goal.loop-bucket-init
loop-bucket-init c = record { before = λ k within. absurd (omega arith); later = λ k high. bit_at-zero k }

pub loop-bucket-preserved : goal.loop-bucket-preserved
loop-bucket-preserved c =
    let starts = c.args.starts.now in
    let bucket = c.loop-bucket.bucket in
    elim c.if-saturating_sub-gt2.branch [
      | then-saturating_sub-gt2 w ↦ bits_set starts bucket c.loop-bucket.longer c.if-saturating_sub-gt2.longer
          c.loop-bucket.invariant c.loop-bucket-test.true (omega (arith, c.saturating_sub.ensures)) w.longer-is
      | else-saturating_sub-gt2 w ↦ bits_kept starts bucket c.loop-bucket.longer c.if-saturating_sub-gt2.longer
          c.loop-bucket.invariant (omega (arith, c.saturating_sub.ensures)) w.longer-is
    ]

pub returns : goal.returns
returns c = λ k within. c.loop-bucket.invariant.before k (omega arith)
