use Rattle.std.proofs.Common.{◌≡◌, ℕ, ◌%◌, ◌∙◌, List, arith, bit_and, get_or, length, replicate}
use Rattle.std.proofs.lemmas.Nat.{and_mask}
use Rattle.std.specs.Simd.Lanes.{zip2}
use Rattle.literal_fingerprints.specs.Inside.Lanes.{HasWide}
use Rattle.literal_fingerprints.proofs.lemmas.Lanes.{wide_of_positions, lanes_of_splat, wide_positions_fit}
use Rattle.literal_fingerprints.proofs.wide.by_low_wide.Goals as goal

low : (bytes : List ℕ) → length bytes ≡ 32
    → HasWide (zip2 bit_and bytes (replicate 32 15)) (λ k. get_or bytes k 0 % 16)
low bytes long =
    let splat = lanes_of_splat bit_and bytes 15 long in
    record { long = splat.long; each = λ k below. splat.each k below ∙ and_mask (get_or bytes k 0) 4 }

pub swizzle : goal.swizzle
swizzle c = wide_positions_fit _ _ (low c.args.bytes c.fits-bytes.0) (λ k below. omega arith)

pub returns : goal.returns
returns c =
    wide_of_positions _ _ (low c.args.bytes c.fits-bytes.0) (λ k below. omega arith) c.args.table.now _ c.twice.ensures
