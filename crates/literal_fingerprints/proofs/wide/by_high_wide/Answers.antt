use Rattle.std.proofs.Common.{◌≡◌, ℕ, ◌/◌, ◌%◌, ◌^◌, ◌∙◌, List, arith, get_or, length, replicate, w8, Fits}
use Rattle.std.proofs.lemmas.Simd.{Each1-get_or}
use Rattle.std.specs.Simd.Lanes.{Each1, zip2}
use Rattle.literal_fingerprints.specs.Inside.Lanes.{HasWide}
use Rattle.literal_fingerprints.proofs.lemmas.Lanes.{wide_of_positions, lanes_of_splat, wide_positions_fit}
use Rattle.literal_fingerprints.proofs.wide.by_high_wide.Goals as goal

high : (bytes : List ℕ) → length bytes ≡ 32 → Each1 (Fits w8) bytes
    → HasWide (zip2 (λ a b. a / 2 ^ b) bytes (replicate 32 4)) (λ k. get_or bytes k 0 / 16 % 16)
high bytes long fits =
    let splat = lanes_of_splat (λ a b. a / 2 ^ b) bytes 4 long in
    record {
      long = splat.long;
      each = λ k below.
          let is : get_or bytes k 0 / 16 ≡ get_or bytes k 0 / 16 % 16 =
          omega (arith, (Each1-get_or (Fits w8) bytes k 0 (omega arith) fits).fits) in
          splat.each k below ∙ is;
    }

pub swizzle : goal.swizzle
swizzle c = wide_positions_fit _ _ (high c.args.bytes c.fits-bytes.0 c.fits-bytes.1) (λ k below. omega arith)

pub returns : goal.returns
returns c =
    wide_of_positions _ _ (high c.args.bytes c.fits-bytes.0 c.fits-bytes.1) (λ k below. omega arith)
    c.args.table.now _ c.twice.ensures
