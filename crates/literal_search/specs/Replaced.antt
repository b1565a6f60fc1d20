-- A text in which matches are replaced.
use Rattle.std.specs.Prelude.{◌≡◌, ⊤, ℕ, ◌<◌, List, [], ◌++◌, length, Ok, Result}
use Rattle.std.specs.Borrow.{Bor, MutBor}
use Rattle.std.specs.Global.{Vec}
use Rattle.std.specs.List.{FoldsTo, slice_range}
use Rattle.std.specs.declared.alloc.AllocError.{AllocError}
use Rattle.literal_base.specs.Greedy.{IsGreedy}
use Rattle.literal_base.specs.MatchValue.{MatchValue}
use Rattle.literal_base.specs.Occurs.{whole_of}
use Rattle.literal_search.specs.SearchValue.{SearchValue}
use Rattle.literal_search.specs.WholeWords.{AreWholeWords, AreWordsFrom, AreWordsFromBy, WholeWordsValue}
use Rattle.literal_search.specs.WordText.{sides_of}
use Rattle.literal_search.specs.declared.replace.ReplaceError.{ReplaceError}
use Rattle.literal_search.specs.declared.replace.ReplaceError.TheVariants.{NotOneForEach, OutOfMemory}
pub use Rattle.literal_pieces.specs.Replaced.{IsReplacedBy, IsReplacedUpTo, ReplacesAll, ReplacesPart, RewritesAll}
pub use Rattle.literal_pieces.specs.Replaced.{RewritesWords, StopsReplacing, StopsRewriting, StopsRewritingWords}
pub use Rattle.literal_pieces.specs.Replaced.{replaced, replaced_by}

-- why matches of so many patterns are not replaced: the number of replacements is not the number of patterns, or memory
-- was refused for an answer that is not empty
abbrev pub RefusesToReplaceBy : (List ℕ → ℕ → List MatchValue → Type 0) → ℕ → List ℕ → List (List ℕ) → ReplaceError
    → Type 0
RefusesToReplaceBy AreMatches patterns text replacements NotOneForEach = ¬ length replacements ≡ patterns
RefusesToReplaceBy AreMatches patterns text replacements OutOfMemory =
    (answer : List ℕ) × IsReplacedBy AreMatches patterns text replacements answer × (0 < length answer)

-- each match of the greedy list is replaced
abbrev pub IsReplaced : SearchValue → List ℕ → List (List ℕ) → List ℕ → Type 0
IsReplaced search = IsReplacedBy (IsGreedy search.query search.ignore_case) (length search.query.patterns)

-- `RefusesToReplaceBy` for the greedy list
abbrev pub RefusesToReplace : SearchValue → List ℕ → List (List ℕ) → ReplaceError → Type 0
RefusesToReplace search = RefusesToReplaceBy (IsGreedy search.query search.ignore_case) (length search.query.patterns)

-- each whole word of a text is replaced, of those that do not overlap
abbrev pub AreWordsReplaced : WholeWordsValue → List ℕ → List (List ℕ) → List ℕ → Type 0
AreWordsReplaced words = IsReplacedBy (AreWordsFrom words) (length words.search.query.patterns)

-- `RefusesToReplaceBy` for whole words
abbrev pub RefusesToReplaceWords : WholeWordsValue → List ℕ → List (List ℕ) → ReplaceError → Type 0
RefusesToReplaceWords words = RefusesToReplaceBy (AreWordsFrom words) (length words.search.query.patterns)

-- each whole word of a text is replaced, by the text's sides
abbrev pub AreTextWordsReplaced : WholeWordsValue → List ℕ → List (List ℕ) → List ℕ → Type 0
AreTextWordsReplaced words text =
    IsReplacedBy (AreWordsFromBy words (sides_of text)) (length words.search.query.patterns) text

-- `RefusesToReplaceBy` for the whole words of a text
abbrev pub RefusesToReplaceTextWords : WholeWordsValue → List ℕ → List (List ℕ) → ReplaceError → Type 0
RefusesToReplaceTextWords words text =
    RefusesToReplaceBy (AreWordsFromBy words (sides_of text)) (length words.search.query.patterns) text

-- the progress of replacing by calls of a function: the function, the text written so far, and the offset up to which
-- the haystack is in it
pub record WritingValue (F : Type 0) : Type 0 where
  pub writer : F
  pub text : Vec ℕ
  pub at : ℕ

module _ {F : Type 0}
    (step : F → MatchValue → Bor (List ℕ) → MutBor (Vec ℕ) → Result ⊤ AllocError → MutBor (Vec ℕ) → F → Type 0) where
  -- the bytes up to a match are written unchanged, followed by what a call with the match and its bytes writes
  pub record WritesMatch (haystack : List ℕ) (old : WritingValue F) (found : MatchValue) (new : WritingValue F)
      : Type 0 where
    pub bytes : Bor (List ℕ)
    pub before : MutBor (Vec ℕ)
    pub behind : MutBor (Vec ℕ)
    pub are_matched : bytes.now ≡ slice_range haystack found.start found.end
    pub between : before.now.items ≡ old.text.items ++ slice_range haystack old.at found.start
    pub calls : step old.writer found bytes before (Ok tt) behind new.writer
    pub leaves : behind.now ≡ new.text
    pub goes_on : new.at ≡ found.end

  -- the matches of the greedy list are written by one call each, in order, and then the rest of the haystack
  pub record IsWritten (search : SearchValue) (haystack : List ℕ) (writer : F) (answer : List ℕ) : Type 0 where
    pub matches : List MatchValue
    pub are_greedy : IsGreedy search.query search.ignore_case haystack 0 matches
    pub first : WritingValue F
    pub last : WritingValue F
    pub begins : (first.writer ≡ writer) × (first.text.items ≡ []) × (first.at ≡ 0)
    pub is_written : FoldsTo (WritesMatch haystack) first matches last
    pub ends : answer ≡ last.text.items ++ slice_range haystack last.at (length haystack)

  -- `IsWritten` for the whole words of a haystack that do not overlap
  pub record AreWordsWritten (words : WholeWordsValue) (haystack : List ℕ) (writer : F) (answer : List ℕ) : Type 0 where
    pub matches : List MatchValue
    pub are_words : AreWholeWords words haystack (whole_of haystack) matches
    pub first : WritingValue F
    pub last : WritingValue F
    pub begins : (first.writer ≡ writer) × (first.text.items ≡ []) × (first.at ≡ 0)
    pub is_written : FoldsTo (WritesMatch haystack) first matches last
    pub ends : answer ≡ last.text.items ++ slice_range haystack last.at (length haystack)
