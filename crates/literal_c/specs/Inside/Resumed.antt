-- An iteration over every occurrence, from a position on.
use Rattle.std.specs.Prelude.{◌↔◌, ℕ}
use Rattle.literal_base.specs.MatchValue.{MatchValue}
use Rattle.literal_search.specs.OverlappingMatchesValue.{IsToCome, OverlappingMatchesValue}
use Rattle.literal_search.specs.PreparedOverlapping.{IsPreparedOverlapping, PreparedOverlappingMatchesValue}
use Rattle.literal_search.specs.PreparedOverlapping.{matches_for}
use Rattle.literal_c.specs.Overlapping.{IsFrom}

-- a `Resumed` as contracts see it: an iteration by an array, and the end and pattern number from which it gives matches
pub record ResumedValue : Type 0 where
  pub matches : PreparedOverlappingMatchesValue
  pub end : ℕ
  pub pattern : ℕ

-- what is to come is what is to come of an iteration by a prepared array, from a position on
pub record IsResumed (r : ResumedValue) (m : OverlappingMatchesValue) : Type 0 where
  pub prepared : IsPreparedOverlapping m.search r.matches.numbers
  pub same : (found : MatchValue)
      → IsToCome m found ↔ (IsToCome (matches_for m.search r.matches) found × IsFrom r.end r.pattern found)
