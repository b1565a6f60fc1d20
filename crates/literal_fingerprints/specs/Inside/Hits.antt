-- Bytes of a haystack compared with rare ones.
use Rattle.std.specs.Prelude.{◌≡◌, ◌==◌, ◌+◌, ◌<◌, ◌≤◌, ℕ, List, if◌then◌else◌, Bool, true, false, bit_and, bit_or}
use Rattle.std.specs.Prelude.{slice_index}
use Rattle.literal_fingerprints.specs.declared.pair.RarePair.{RarePair}

-- 255 if a byte is the rare one, once the bits of a mask are set in it, otherwise 0
abbrev pub hit : ℕ → ℕ → ℕ → ℕ
hit rare mask byte = if bit_or byte mask == rare then 255 else 0

-- the hits of the two bytes of a pair, and, if there are three, of the one between them
abbrev pub with_between : Bool → ℕ → ℕ → ℕ
with_between true ends between = bit_and ends between
with_between false ends between = ends

-- 255 if a text begins with the bytes of a pair, from its first one on, otherwise 0
abbrev pub pair_hit : RarePair → ℕ → ℕ → Bool → ℕ → (ℕ → ℕ) → ℕ
pair_hit pair first_mask second_mask three apart text =
    with_between three
    (bit_and (hit pair.first.byte first_mask (text 0)) (hit pair.second.byte second_mask (text apart)))
    (hit pair.between first_mask (text 1))

-- the hits of a pair of which the first byte is at an offset of a haystack
abbrev pub hit_from : RarePair → ℕ → ℕ → Bool → ℕ → List ℕ → ℕ → ℕ
hit_from pair first_mask second_mask three apart haystack k =
    with_between three
    (bit_and (hit pair.first.byte first_mask (slice_index haystack k))
    (hit pair.second.byte second_mask (slice_index haystack (k + apart))))
    (hit pair.between first_mask (slice_index haystack (k + 1)))

-- no pair is, from an origin on, of which the second byte lies before an offset
abbrev pub NoneHit : RarePair → ℕ → ℕ → Bool → ℕ → List ℕ → ℕ → ℕ → Type 0
NoneHit pair first_mask second_mask three apart haystack origin at =
    (k : ℕ) → origin ≤ k → k + apart < at → hit_from pair first_mask second_mask three apart haystack k ≡ 0
