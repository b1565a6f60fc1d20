-- A text in which matches are replaced, also while it is read in pieces.
use Rattle.std.specs.Prelude.{◌≡◌, ℕ, ◌+◌, ◌-◌, ◌≤◌, List, [], ◌∷◌, ◌++◌, length, Option}
use Rattle.std.specs.Io.KnownBytes.{Appends, Consumes, IsAtEnd}
use Rattle.std.specs.List.{slice_range}
use Rattle.literal_base.specs.Greedy.{IsGreedy}
use Rattle.literal_base.specs.MatchValue.{MatchValue}
use Rattle.literal_base.specs.Occurs.{pattern_at}
use Rattle.literal_leftmost.specs.SearchValue.{SearchValue}
use Rattle.literal_pieces.specs.declared.replace_stream.ReplaceStreamError.{ReplaceStreamError}
use Rattle.literal_pieces.specs.declared.replace_stream.ReplaceStreamError.TheVariants as stream
use Rattle.literal_rows.specs.Patterns.{longest_of}
use Rattle.literal_words.specs.WholeWords.{AreWordsFrom, WholeWordsValue}

-- the text from an offset on, with each match replaced by the bytes that a function gives for it
abbrev pub replaced_by : (MatchValue → List ℕ) → List ℕ → ℕ → List MatchValue → List ℕ
replaced_by bytes_for text at [] = slice_range text at (length text)
replaced_by bytes_for text at (found ∷ more) =
    slice_range text at found.start ++ (bytes_for found ++ replaced_by bytes_for text found.end more)

-- `replaced_by` with the replacement of the match's pattern
abbrev pub replaced : List ℕ → List (List ℕ) → ℕ → List MatchValue → List ℕ
replaced text replacements = replaced_by (λ found. pattern_at replacements found.pattern) text

-- each match of a text is replaced, and there is one replacement for each of so many patterns
pub record IsReplacedBy (AreMatches : List ℕ → ℕ → List MatchValue → Type 0) (patterns : ℕ) (text : List ℕ)
    (replacements : List (List ℕ)) (answer : List ℕ) : Type 0 where
  pub one_for_each : length replacements ≡ patterns
  pub matches : List MatchValue
  pub are_matches : AreMatches text 0 matches
  pub is_replaced : answer ≡ replaced text replacements 0 matches

-- a text is written up to an offset, with its matches replaced. Whatever follows the text: this, followed by the rest
-- with its matches replaced, is the whole with its matches replaced
pub record IsReplacedUpTo (AreMatches : List ℕ → ℕ → List MatchValue → Type 0) (text : List ℕ)
    (replacements : List (List ℕ)) (at : ℕ) (answer : List ℕ) : Type 0 where
  pub within : at ≤ length text
  pub goes_on : (more : List ℕ) (behind : List MatchValue) → AreMatches (text ++ more) at behind
      → (matches : List MatchValue) × AreMatches (text ++ more) 0 matches
      × (answer ++ replaced (text ++ more) replacements at behind ≡ replaced (text ++ more) replacements 0 matches)

-- What is replaced between a reader and a writer, as above. So many bytes decide about a match, from its start on.
module _ (AreMatches : List ℕ → ℕ → List MatchValue → Type 0) (patterns reach : ℕ) (replacements : List (List ℕ))
    (unread left held written : Option (List ℕ))
  where
    -- a text is read to its end, and written with its matches replaced
    pub record ReplacesAll : Type 0 where
      pub text : List ℕ
      pub answer : List ℕ
      pub reads : Consumes unread left text
      pub end : IsAtEnd left
      pub is_replaced : IsReplacedBy AreMatches patterns text replacements answer
      pub writes : Appends held written answer

    -- the text that was read is written with its matches replaced, except for some of its last bytes, fewer than decide
    -- about a match
    pub record ReplacesPart : Type 0 where
      pub text : List ℕ
      pub answer : List ℕ
      pub at : ℕ
      pub reads : Consumes unread left text
      pub far : length text ≤ at + (reach - 1)
      pub is_replaced : IsReplacedUpTo AreMatches text replacements at answer
      pub writes : Appends held written answer

    -- why a text is not written so. The number of replacements is not the number of patterns, or memory was refused;
    -- then nothing is read or written. Or a read failed, after the known part was written; or a write failed, after a
    -- text was read
    abbrev pub StopsReplacing : ReplaceStreamError → Type 0
    StopsReplacing stream.NotOneForEach =
        (¬ length replacements ≡ patterns) × (left ≡ unread) × (written ≡ held)
    StopsReplacing stream.OutOfMemory =
        (length replacements ≡ patterns) × (left ≡ unread) × (written ≡ held)
    StopsReplacing (stream.ReadFailed error) = (length replacements ≡ patterns) × ReplacesPart
    StopsReplacing (stream.WriteFailed error) =
        (length replacements ≡ patterns) × ((text : List ℕ) × Consumes unread left text)

-- `ReplacesAll` for the greedy list, about whose matches the bytes of the longest pattern decide
abbrev pub RewritesAll : SearchValue → List (List ℕ) → Option (List ℕ) → Option (List ℕ) → Option (List ℕ)
    → Option (List ℕ) → Type 0
RewritesAll search = ReplacesAll (IsGreedy search.query search.ignore_case) (length search.query.patterns)
    (longest_of search.query.patterns)

-- `StopsReplacing` for the greedy list
abbrev pub StopsRewriting : SearchValue → List (List ℕ) → Option (List ℕ) → Option (List ℕ) → Option (List ℕ)
    → Option (List ℕ) → ReplaceStreamError → Type 0
StopsRewriting search = StopsReplacing (IsGreedy search.query search.ignore_case) (length search.query.patterns)
    (longest_of search.query.patterns)

-- `ReplacesAll` for whole words, about which one byte more decides
abbrev pub RewritesWords : WholeWordsValue → List (List ℕ) → Option (List ℕ) → Option (List ℕ) → Option (List ℕ)
    → Option (List ℕ) → Type 0
RewritesWords words = ReplacesAll (AreWordsFrom words) (length words.search.query.patterns)
    (longest_of words.search.query.patterns + 1)

-- `StopsReplacing` for whole words
abbrev pub StopsRewritingWords : WholeWordsValue → List (List ℕ) → Option (List ℕ) → Option (List ℕ)
    → Option (List ℕ) → Option (List ℕ) → ReplaceStreamError → Type 0
StopsRewritingWords words = StopsReplacing (AreWordsFrom words) (length words.search.query.patterns)
    (longest_of words.search.query.patterns + 1)
