-- The tables as their fields.
use Rattle.std.specs.Prelude.{ℕ, List, [], ◌∷◌}
use Rattle.literal_fingerprints.specs.FingerprintsValue.{FingerprintsValue, HalfTable}
use Rattle.literal_fingerprints.specs.declared.nibbles.Nibbles.{Nibbles}

-- a table as contracts see it
abbrev pub half_table : Nibbles → HalfTable
half_table nibbles = record { low = nibbles.low; high = nibbles.high }

-- the eight halves of the tables
abbrev pub halves_of : FingerprintsValue → List (List ℕ)
halves_of f =
    f.first.low ∷ f.first.high ∷ f.second.low ∷ f.second.high ∷ f.third.low ∷ f.third.high ∷ f.fourth.low
    ∷ f.fourth.high ∷ []
