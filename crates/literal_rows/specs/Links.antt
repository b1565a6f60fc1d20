-- The links of patterns: of each, the longest pattern that is shorter and a prefix of it.
use Rattle.std.specs.Prelude.{◌≡◌, ◌<◌, ℕ, List, drop, length, slice_index}
use Rattle.std.specs.Option.{unwrap_or}
use Rattle.literal_base.specs.Occurs.{pattern_at}
use Rattle.literal_rows.specs.Table.{nothing}
use Rattle.literal_rows.specs.Words.{ending}

-- each of some texts up to a bound has the longest text that is a suffix of it without its first symbol, of equal ones
-- the first; or `nothing`, if there is none. Of reversed texts these are prefixes
pub record AreLinks (texts : List (List ℕ)) (links : List ℕ) (count : ℕ) : Type 0 where
  pub long : length links ≡ count
  pub each : (i : ℕ) → i < count
      → slice_index links i ≡ unwrap_or (ending texts (drop 1 (pattern_at texts i))) nothing
