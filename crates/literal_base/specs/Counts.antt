-- The steps of each kind that a search has taken.
use Rattle.std.specs.Prelude.{ℕ, ◌+◌}

-- the number of bytes added to a rolling sum (`hashed`), bucket entries read (`entries`), patterns compared with the
-- haystack (`compared`), bytes looked up in a byte table (`scanned`), and candidate offsets tried (`tried`)
pub record Counts : Type 0 where
  pub hashed : ℕ
  pub entries : ℕ
  pub compared : ℕ
  pub scanned : ℕ
  pub tried : ℕ

-- no steps
abbrev pub none_yet : Counts
none_yet = record { hashed = 0; entries = 0; compared = 0; scanned = 0; tried = 0 }

-- the sums of two counts, kind by kind
abbrev pub plus : Counts → Counts → Counts
plus a b = record {
  hashed = a.hashed + b.hashed;
  entries = a.entries + b.entries;
  compared = a.compared + b.compared;
  scanned = a.scanned + b.scanned;
  tried = a.tried + b.tried;
}
