-- What a stream is searched for: matches, or whole words.
use Rattle.std.specs.Prelude.{◌≡◌, ℕ, ◌+◌, ◌-◌, ◌≤◌, ◌++◌, List, Option, Some, length}
use Rattle.literal_base.specs.Greedy.{IsGreedy}
use Rattle.literal_base.specs.Leftmost.{IsLeftmost}
use Rattle.literal_base.specs.MatchValue.{MatchValue}
use Rattle.literal_base.specs.Occurs.{Occurs, rest_from}
use Rattle.literal_base.specs.declared.search.Span.{Span}
use Rattle.literal_leftmost.specs.SearchValue.{SearchValue, most_scanned}
use Rattle.literal_leftmost.specs.Inside.Backward.{AreBackFor, IsSafe}
use Rattle.literal_leftmost.specs.declared.so_far.SoFar.{SoFar}
use Rattle.literal_leftmost.specs.declared.so_far.SoFar.TheVariants.{Found, NoneBefore}
use Rattle.literal_pieces.specs.Stream.{most_words_scanned}
use Rattle.literal_pieces.specs.declared.sought.SoughtKind.{SoughtKind}
use Rattle.literal_pieces.specs.declared.sought.SoughtKind.TheVariants as kind
use Rattle.literal_rows.specs.Patterns.{longest_of}
use Rattle.literal_words.specs.Inside.WholeWords.{AreTablesFor}
use Rattle.literal_words.specs.WholeWords.{AreWordsFrom, IsFirstAlone, OccursAlone, WholeWordsValue}
use Rattle.literal_words.specs.declared.word_search.Words as word_search

-- what is searched for, as contracts see it: the matches of a search, or whole words
pub data SoughtValue : Type 0 where
  by_matches : SearchValue → SoughtValue
  by_words : WholeWordsValue → SoughtValue

-- it is of a kind
abbrev pub IsOfKind : SoughtKind → SoughtValue → Type 0
IsOfKind kind.Matches sought = (search : SearchValue) × (sought ≡ by_matches search)
IsOfKind kind.Words sought = (words : WholeWordsValue) × (sought ≡ by_words words)

-- what is searched for: the leftmost answer in a span
abbrev pub IsFirstIn : SoughtValue → List ℕ → Span → Option MatchValue → Type 0
IsFirstIn (by_matches search) text span = IsLeftmost search.query search.ignore_case text span
IsFirstIn (by_words words) text span = IsFirstAlone words text span

-- what begins in a span
abbrev pub BeginsIn : SoughtValue → List ℕ → Span → ℕ → ℕ → Type 0
BeginsIn (by_matches search) text span = Occurs search.query.patterns search.ignore_case text span
BeginsIn (by_words words) text span =
    OccursAlone words.search.query.patterns words.search.ignore_case words.word_bytes text span

-- the leftmost one from an offset on
abbrev pub IsFirst : SoughtValue → List ℕ → ℕ → Option MatchValue → Type 0
IsFirst sought text from = IsFirstIn sought text (rest_from text from)

-- what begins from an offset on
abbrev pub Begins : SoughtValue → List ℕ → ℕ → ℕ → ℕ → Type 0
Begins sought text from = BeginsIn sought text (rest_from text from)

-- all of them in a text from an offset on, of those that do not overlap
abbrev pub AreMatches : SoughtValue → List ℕ → ℕ → List MatchValue → Type 0
AreMatches (by_matches search) = IsGreedy search.query search.ignore_case
AreMatches (by_words words) = AreWordsFrom words

-- the search of it
abbrev pub search_of : SoughtValue → SearchValue
search_of (by_matches search) = search
search_of (by_words words) = words.search

-- how many bytes on each side of a match decide whether it counts
abbrev pub margin_of : SoughtValue → ℕ
margin_of (by_matches search) = 0
margin_of (by_words words) = 1

-- how many bytes decide about a match, from its start on
abbrev pub reach_of : SoughtValue → ℕ
reach_of sought = longest_of (search_of sought).query.patterns + margin_of sought

-- the tables are those of what is searched for
abbrev pub AreTablesOf : SoughtValue → word_search.Words → Type 0
AreTablesOf (by_matches search) w = IsSafe w.backward × AreBackFor search w.backward
AreTablesOf (by_words words) w = AreTablesFor words w

-- a search that continues at an offset looks for the next pattern from there on, and for whole words from there on or
-- from before
abbrev pub LooksFrom : SoughtValue → ℕ → ℕ → Type 0
LooksFrom (by_matches search) from at = from ≡ at
LooksFrom (by_words words) from at = from ≤ at

-- the most bytes that are looked up in a block of so many bytes
abbrev pub most_in_block : SoughtValue → ℕ → ℕ
most_in_block (by_matches search) = most_scanned (longest_of search.query.patterns)
most_in_block (by_words words) = most_words_scanned (longest_of words.search.query.patterns)

-- an answer for a text from an offset on
abbrev pub Answers : SoughtValue → List ℕ → ℕ → SoFar → Type 0
Answers sought text from (Found found) = IsFirst sought text from (Some found)
Answers sought text from (NoneBefore offset) = (i p : ℕ) → Begins sought text from i p → offset ≤ p

-- an answer for the bytes ahead, by its offsets in the text, whatever came before
abbrev pub AnswersAhead : SoughtValue → ℕ → List ℕ → SoFar → Type 0
AnswersAhead sought offset ahead answer = (before : List ℕ) → length before ≡ offset - margin_of sought
    → Answers sought (before ++ ahead) offset answer
