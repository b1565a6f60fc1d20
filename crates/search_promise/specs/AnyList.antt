-- The parameters of the contract that states all guarantees of a search for any list of patterns.
use Rattle.std.specs.Prelude.{◌≡◌, ◌⊎◌, ℕ, List, MatchResult, Option, Result, map}
use Rattle.std.specs.Borrow.{Bor}
use Rattle.literal_base.specs.MatchValue.{MatchValue}
use Rattle.literal_search.specs.Prepared.{WritesPrepared}
use Rattle.literal_search.specs.RefusedList.{RefusesPatterns}
use Rattle.literal_search.specs.SearchValue.{NeedTooManyReversed, NeedTooManyStates, SearchValue, search_by}
use Rattle.literal_search.specs.declared.BuildError.{BuildError}
use Rattle.literal_rows.specs.declared.array.ArrayTooShort.{ArrayTooShort}
use Rattle.search_promise.specs.declared.AnySearch.{AnySearch}

-- the search that is asked for
abbrev pub searched_for : AnySearch → SearchValue
searched_for asked =
    search_by asked.kind asked.ignore_case (map (λ (p : Bor (List ℕ)). p.now) asked.patterns.now)

-- the patterns need too many states for one of the two searches that are asked for
abbrev pub NeedTooManyForAny : AnySearch → List (List ℕ) → Type 0
NeedTooManyForAny asked patterns =
    NeedTooManyReversed asked.ignore_case patterns ⊎ NeedTooManyStates asked.ignore_case patterns

-- why the list that is asked for is refused
abbrev pub RefusesAnyList : AnySearch → BuildError → Type 0
RefusesAnyList asked = RefusesPatterns (NeedTooManyForAny asked) (searched_for asked).query.patterns

-- with an answer the search is written into an array, and with an error the array is unchanged
abbrev pub IsKeptOrWritten : SearchValue → List ℕ → List ℕ → Result (Option MatchValue) ArrayTooShort → Type 0
IsKeptOrWritten search old new answer =
    MatchResult answer (λ _. (needed : ℕ) × WritesPrepared search old new needed)
    (λ _. new ≡ old)
