-- Why a list of patterns is refused, for callers that know it.
use Rattle.std.specs.Prelude.{◌≡◌, ℕ, ◌<◌, List, length, take}
use Rattle.literal_base.specs.Occurs.{NoneIsEmpty, pattern_at}
use Rattle.literal_ids.specs.declared.primitives.pattern_id.TheConstants.PatternID
use Rattle.literal_search.specs.declared.BuildError.{BuildError}
use Rattle.literal_search.specs.declared.BuildError.TheVariants.{EmptyPattern, OutOfMemory, TooManyPatterns}
use Rattle.literal_search.specs.declared.BuildError.TheVariants.{TooManyStates}

-- why a list is refused: a pattern is empty, and none before it; memory is refused, and there is a pattern; there are
-- more patterns than identifiers; or they need too many states
abbrev pub RefusesPatterns : (List (List ℕ) → Type 0) → List (List ℕ) → BuildError → Type 0
RefusesPatterns NeedTooMany patterns (EmptyPattern number) =
    (number < length patterns) × (length (pattern_at patterns number) ≡ 0) × NoneIsEmpty (take number patterns)
RefusesPatterns NeedTooMany patterns OutOfMemory = 0 < length patterns
RefusesPatterns NeedTooMany patterns TooManyPatterns = PatternID.LIMIT < length patterns
RefusesPatterns NeedTooMany patterns TooManyStates = NeedTooMany patterns
