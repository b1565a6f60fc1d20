-- What is known of the leftmost match in a text of which only a beginning is known.
use Rattle.std.specs.Prelude.{◌≡◌, ℕ, ◌+◌, ◌-◌, ◌*◌, ◌<◌, ◌≤◌, Bool, List}
use Rattle.std.specs.Prelude.{IfSome, Option, Some, max}
use Rattle.literal_base.specs.Counts.{Counts}
use Rattle.literal_base.specs.Leftmost.{IsLeftmostMatch}
use Rattle.literal_base.specs.MatchValue.{MatchValue}
use Rattle.literal_base.specs.Occurs.{Occurs, rest_from}
use Rattle.literal_base.specs.Query.{Query}
use Rattle.literal_leftmost.specs.SearchValue.{first_part, longest_of}
use Rattle.literal_leftmost.specs.declared.so_far.SoFar.{SoFar}
use Rattle.literal_leftmost.specs.declared.so_far.SoFar.TheVariants.{Found, NoneBefore}

-- the leftmost match in a text from an offset on, or an offset before which none begins
abbrev pub AnswersSoFar : Query → Bool → List ℕ → ℕ → SoFar → Type 0
AnswersSoFar query ignore_case text at (Found found) =
    IsLeftmostMatch query ignore_case text (rest_from text at) found
AnswersSoFar query ignore_case text at (NoneBefore offset) =
    (i p : ℕ) → Occurs query.patterns ignore_case text (rest_from text at) i p → offset ≤ p

-- when it is known, given the length of the longest pattern. A match is not empty, lies in the known bytes, and the
-- longest pattern would fit between its start and their end. An offset is the first, from `at` on, at which the longest
-- pattern would end after the known bytes
abbrev pub IsKnownBy : ℕ → ℕ → ℕ → SoFar → Type 0
IsKnownBy longest len at (Found found) = (found.start < found.end) × (found.end ≤ len) × (found.start + longest ≤ len)
IsKnownBy longest len at (NoneBefore offset) = offset ≡ max at (len - (longest - 1))

-- `IsKnownBy` for the longest of some patterns
abbrev pub IsKnownSoFar : List (List ℕ) → ℕ → ℕ → SoFar → Type 0
IsKnownSoFar patterns = IsKnownBy (longest_of patterns)

-- what is known by any array: a match begins at the offset `at` or after it and names one of the patterns, or an offset
-- is not before `at`
abbrev pub MayBeKnown : ℕ → ℕ → SoFar → Type 0
MayBeKnown patterns at (Found found) = (at ≤ found.start) × (found.pattern < patterns)
MayBeKnown patterns at (NoneBefore offset) = at ≤ offset

-- the end of the match, or the offset
abbrev pub told_to : SoFar → ℕ
told_to (Found found) = found.end
told_to (NoneBefore offset) = offset

-- how many bytes it scans, of `len` bytes, from an offset on: at least those up to the end of the match or the answered
-- offset; at most three times those from there on, and with a match at most eleven times those before it plus 36 times
-- the first part
pub record ScansSoFar (longest len at : ℕ) (answer : SoFar) (old new : Counts) : Type 0 where
  pub others : new ≡ record old { scanned = new.scanned }
  pub least : old.scanned + told_to answer ≤ new.scanned + at
  pub most : new.scanned ≤ old.scanned + 3 * (len - at)
  pub near : (found : MatchValue) → answer ≡ Found found
      → new.scanned + 11 * at ≤ old.scanned + 11 * found.start + 36 * first_part longest

-- the answer is the match itself, or an offset at which it begins or before it
abbrev pub TellsOf : Option MatchValue → SoFar → Type 0
TellsOf leftmost (Found found) = leftmost ≡ Some found
TellsOf leftmost (NoneBefore offset) = IfSome leftmost (λ found. offset ≤ found.start)
