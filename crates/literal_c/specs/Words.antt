-- Whole words for C: the search for them, their pages, and their number.
use Rattle.std.specs.Prelude.{◌≡◌, ◌⊎◌, ◌++◌, ◌∷◌, [], ℕ, ℤ, ◌≤◌, List, drop, length, map, take}
use Rattle.literal_base.specs.Bytes.{contains}
use Rattle.literal_base.specs.MatchValue.{MatchValue}
use Rattle.literal_base.specs.Occurs.{between}
use Rattle.literal_base.specs.declared.packed.MatchKind.TheVariants.{LeftmostLongest}
use Rattle.literal_base.specs.declared.search.Span.{Span}
use Rattle.literal_search.specs.Prepared.{ForPrepared, HasAllParts, kind_in}
use Rattle.literal_search.specs.SearchValue.{SearchValue, search_by}
use Rattle.literal_search.specs.WholeWords.{AreWholeWordsBy, NothingAloneBy, OccursAloneBy, WholeWordsValue}
use Rattle.literal_search.specs.WholeWords.{is_ascii_word_byte}
use Rattle.literal_c.specs.Answers.{end_of_last, match_of}
use Rattle.literal_c.specs.Arguments.{IsStatusOf, kind_of}
use Rattle.literal_c.specs.declared.LiteralMatch.{LiteralMatch}
use Rattle.literal_c.specs.declared.LiteralPage.{LiteralPage}

-- the whole words by the patterns of a search, with the match kind of a number, and with the ASCII word bytes
pub record AreAsciiWords (kind : ℕ) (search : SearchValue) (words : WholeWordsValue) : Type 0 where
  pub search_is : words.search ≡ search_by (kind_of kind) search.ignore_case search.query.patterns
  pub word_bytes : (b : ℕ) → contains words.word_bytes b ≡ is_ascii_word_byte b

-- a property holds of the whole words, if an array is prepared for a search that prefers the longest match
abbrev pub ForAsciiWords : List ℕ → ℕ → (WholeWordsValue → Type 0) → Type 0
ForAsciiWords array kind P = ForPrepared array (λ search. search.query.kind ≡ LeftmostLongest
    → (words : WholeWordsValue) × AreAsciiWords kind search words × P words)

-- the array has the parts of a search that prefers the longest match
pub record HasWordParts (array : List ℕ) : Type 0 where
  pub parts : HasAllParts array
  pub longest : kind_in array ≡ LeftmostLongest

-- the status of a call that searches for whole words by an array
abbrev pub IsWordStatusBy : List ℕ → Type 0 → (ℤ → Type 0) → ℤ → Type 0
IsWordStatusBy array =
    IsStatusOf (HasWordParts array) (λ P. ForPrepared array (λ search. search.query.kind ≡ LeftmostLongest → P))

-- the bytes that are looked up at the sides of an occurrence: the sides that C gives, or the haystack if there are none
abbrev pub sides_by : List ℕ → List ℕ → List ℕ
sides_by haystack [] = haystack
sides_by haystack (side ∷ sides) = side ∷ sides

-- there are no sides, or as many as the haystack has bytes
abbrev pub AreSides : List ℕ → List ℕ → Type 0
AreSides haystack sides = (length sides ≡ 0) ⊎ (length sides ≡ length haystack)

-- followed by the whole words of the rest of a span from an offset on, these are the whole words of the span, by the
-- sides of the haystack
abbrev pub ContinueWordsBy : WholeWordsValue → List ℕ → List ℕ → Span → List MatchValue → ℕ → Type 0
ContinueWordsBy words haystack sides span done next = (more : List MatchValue)
    → AreWholeWordsBy words haystack sides (between next span.end) more
    → AreWholeWordsBy words haystack sides span (done ++ more)

-- `IsWordPage` by the sides of the haystack
pub record IsWordPageBy (words : WholeWordsValue) (haystack sides : List ℕ) (span : Span) (old new : List LiteralMatch)
    (page : LiteralPage) : Type 0 where
  pub len : length new ≡ length old
  pub fits : page.written ≤ length new
  pub continue : ContinueWordsBy words haystack sides span (map match_of (take page.written new)) page.next
  pub others : drop page.written new ≡ drop page.written old
  pub rest : ((page.is_last ≡ 1) × (page.next ≡ end_of_last span.start (map match_of (take page.written new)))
      × NothingAloneBy words haystack sides (between page.next span.end))
      ⊎ ((page.is_last ≡ 0) × (page.written ≡ length new)
      × (i : ℕ) × OccursAloneBy words.search.query.patterns words.search.ignore_case words.word_bytes haystack sides
      (between page.next span.end) i page.next)

-- a page of the whole words in a span: `written` words are written, followed by those of the rest from `next` on, and
-- the rest of the array is unchanged. Either there is none after them, and it is the last page, whose `next` is the end
-- of its last word, or the span's start without one; or the array is full, and the next whole word begins at `next`
abbrev pub IsWordPage : WholeWordsValue → List ℕ → Span → List LiteralMatch → List LiteralMatch → LiteralPage → Type 0
IsWordPage words haystack = IsWordPageBy words haystack haystack

-- `IsWordCount` by the sides of the haystack
abbrev pub IsWordCountBy : WholeWordsValue → List ℕ → List ℕ → Span → ℕ → Type 0
IsWordCountBy words haystack sides span count =
    (all : List MatchValue) × AreWholeWordsBy words haystack sides span all × (count ≡ length all)

-- the number of whole words in a span that do not overlap
abbrev pub IsWordCount : WholeWordsValue → List ℕ → Span → ℕ → Type 0
IsWordCount words haystack = IsWordCountBy words haystack haystack
