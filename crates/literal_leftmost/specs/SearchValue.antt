-- A search for leftmost matches as contracts see it, and what it scans.
use Rattle.std.specs.Prelude.{[], ◌∷◌, max, min, ◌≡◌, ◌+◌, ◌-◌, ◌*◌, ◌≤◌, ℕ, Bool, List}
use Rattle.std.specs.Prelude.{length, Option, Some, ◌/◌, None}
use Rattle.literal_base.specs.Counts.{Counts}
use Rattle.literal_base.specs.MatchValue.{MatchValue}
use Rattle.literal_base.specs.Occurs.{NothingOccurs}
use Rattle.literal_base.specs.Query.{Query}
use Rattle.literal_base.specs.declared.packed.MatchKind.{MatchKind}
use Rattle.literal_base.specs.declared.search.Span.{Span}
pub use Rattle.literal_rows.specs.Patterns.{CanBeKept, HoldsInClasses, NeedFewReversed, NeedFewStates}
unfoldable pub use Rattle.literal_rows.specs.Patterns.{NeedTooManyReversed, NeedTooManyStates}
pub use Rattle.literal_rows.specs.Patterns.{first_prefix, is_in_patterns, longest_of, reversed, unshadowed}
unfoldable pub use Rattle.literal_rows.specs.Patterns.{width_for}

-- a `Search` as contracts see it: the match kind and the patterns, and whether ASCII case is ignored
pub record SearchValue : Type 0 where
  pub query : Query
  pub ignore_case : Bool

-- the search for these patterns
abbrev pub search_by : MatchKind → Bool → List (List ℕ) → SearchValue
search_by kind ignore_case patterns =
    record { query = record { kind = kind; patterns = patterns }; ignore_case = ignore_case }

-- the length of the shortest pattern, or 0 if there is none
abbrev pub shortest_of : List (List ℕ) → ℕ
shortest_of [] = 0
shortest_of (bytes ∷ []) = length bytes
shortest_of (bytes ∷ more) = min (length bytes) (shortest_of more)

-- at most three times the bytes of the span are scanned
pub record ScansThrice (span : Span) (old new : Counts) : Type 0 where
  pub others : new ≡ record old { scanned = new.scanned }
  pub most : new.scanned ≤ old.scanned + 3 * (span.end - span.start)

-- the offset up to which the bytes of a span are looked up once all matches that begin before `known` are known: one
-- byte less than the longest pattern has after `known`, but no more than the span has before it, and not past the
-- span's end
abbrev pub looked_by : ℕ → Span → ℕ → ℕ
looked_by longest span known = min (known + min (known - span.start) (longest - 1)) span.end

-- half the length of the longest pattern plus three, but at least 16: a search for one match first goes through four
-- parts of this length
abbrev pub first_part : ℕ → ℕ
first_part longest = max 16 (longest / 2 + 3)

-- the bytes that a search for the leftmost match looks up: at least those of the span if there is no match, otherwise
-- at least those up to its end, and at most eleven times those before it plus 36 times `first_part`
abbrev pub LooksFor : ℕ → Span → Option MatchValue → ℕ → ℕ → Type 0
LooksFor longest span None old new = old + (span.end - span.start) ≤ new
LooksFor longest span (Some found) old new =
    (old + found.end ≤ new + span.start)
    × (new + 11 * span.start ≤ old + 11 * found.start + 36 * first_part longest)

-- the bytes scanned are as `LooksFor` says, and at most three times those of the span
pub record ScansWithin (patterns : List (List ℕ)) (span : Span) (answer : Option MatchValue) (old new : Counts)
    : Type 0 where
  pub others : new ≡ record old { scanned = new.scanned }
  pub most : new.scanned ≤ old.scanned + 3 * (span.end - span.start)
  pub counted : LooksFor (longest_of patterns) span answer old.scanned new.scanned

-- the most bytes that a list looks up in so many bytes: three times as many, and once more for each whole 262,000 bytes
-- of the longest pattern
unfoldable pub most_scanned : ℕ → ℕ → ℕ
most_scanned longest bytes = (3 + longest / 262000) * bytes

-- at most so many bytes are scanned as a list of so many bytes may look up
pub record ScansListAtMost (patterns : List (List ℕ)) (bytes : ℕ) (old new : Counts) : Type 0 where
  pub others : new ≡ record old { scanned = new.scanned }
  pub most : new.scanned ≤ old.scanned + most_scanned (longest_of patterns) bytes

-- why memory may be refused for a list: something occurs in the span
abbrev pub MayRefuseList : SearchValue → List ℕ → Span → Type 0
MayRefuseList search haystack span = ¬ NothingOccurs search.query.patterns search.ignore_case haystack span
