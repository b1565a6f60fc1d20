-- A text in which the matches of its folding are replaced.
use Rattle.std.specs.Prelude.{◌≡◌, ◌<◌, ℕ, false, List, length}
use Rattle.literal_base.specs.Greedy.{IsGreedy}
use Rattle.literal_base.specs.MatchValue.{MatchValue}
use Rattle.literal_base.specs.Query.{Query}
use Rattle.literal_search.specs.Replaced.{replaced}
use Rattle.literal_search.specs.declared.replace.ReplaceError.{ReplaceError}
use Rattle.literal_search.specs.declared.replace.ReplaceError.TheVariants.{NotOneForEach, OutOfMemory}
use Rattle.literal_folding.specs.Folding.{folded}

-- each match of the greedy list of a text's folding is replaced in the text, and there is one replacement for each
-- pattern
pub record IsReplacedFolded (query : Query) (text : List ℕ) (replacements : List (List ℕ)) (answer : List ℕ) : Type 0
  where
    pub one_for_each : length replacements ≡ length query.patterns
    pub matches : List MatchValue
    pub are_greedy : IsGreedy query false (folded text) 0 matches
    pub is_replaced : answer ≡ replaced text replacements 0 matches

-- why matches are not replaced: the number of replacements is not the number of patterns, or memory was refused for a
-- text that is not empty
abbrev pub RefusesToReplaceFolded : Query → List ℕ → List (List ℕ) → ReplaceError → Type 0
RefusesToReplaceFolded query text replacements NotOneForEach = ¬ length replacements ≡ length query.patterns
RefusesToReplaceFolded query text replacements OutOfMemory =
    (length replacements ≡ length query.patterns) × (0 < length text)
