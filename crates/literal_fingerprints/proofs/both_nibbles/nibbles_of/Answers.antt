use Rattle.std.proofs.Common.{◌≡◌, ◌+◌, ◌/◌, ◌%◌, ◌^◌, ◌<◌, ◌∙◌, ap, arith, bit_and, get_or}
use Rattle.std.proofs.lemmas.Nat.{and_mask}
use Rattle.literal_fingerprints.proofs.lemmas.Lanes.{lanes_of_splat}
use Rattle.literal_fingerprints.proofs.both_nibbles.nibbles_of.Goals as goal

pub returns : goal.returns
returns c =
    let lows = c.twice-lows.ensures in
    let shifted = lanes_of_splat (λ a b. a / 2 ^ b) c.twice-lows.result 4 lows.long in
    let both = c.front_and_back.ensures in
    let masked = lanes_of_splat bit_and c.front_and_back.result 15 both.long in
    record {
      long = masked.long;
      front = λ k below.
          let inside : k < 32 = omega (arith, below) in
          let place : k % 16 ≡ k = omega (arith, below) in
          masked.each k inside
          ∙ (and_mask (get_or c.front_and_back.result k 0) 4
          ∙ ap (λ x. x % 16) (both.front k below
          ∙ (lows.each k inside ∙ ap (λ j. get_or c.args.bytes j 0) place)));
      back = λ k below.
          let inside : 16 + k < 32 = omega (arith, below) in
          let place : (16 + k) % 16 ≡ k = omega (arith, below) in
          masked.each (16 + k) inside
          ∙ (and_mask (get_or c.front_and_back.result (16 + k) 0) 4
          ∙ ap (λ x. x % 16) (both.back k below
          ∙ (shifted.each (16 + k) inside
          ∙ ap (λ x. x / 16) (lows.each (16 + k) inside ∙ ap (λ j. get_or c.args.bytes j 0) place))));
    }
