-- The data of a search for whole words, and the whole words that begin at one offset.
use Rattle.std.specs.Prelude.{◌≡◌, ◌⊎◌, ◌+◌, ◌++◌, ◌<◌, ◌≤◌, ℕ, Bool, List, MatchOption, Option, length}
use Rattle.std.specs.Prelude.{IfSome, None, Some}
use Rattle.literal_base.specs.Counts.{Counts}
use Rattle.literal_base.specs.Leftmost.{IsBetter, IsLeftmostMatch}
use Rattle.literal_base.specs.MatchValue.{MatchValue}
use Rattle.literal_base.specs.Occurs.{IsValidSpan, NoneIsEmpty, between, pattern_at}
use Rattle.literal_base.specs.declared.packed.MatchKind.{MatchKind}
use Rattle.literal_base.specs.declared.packed.MatchKind.TheVariants.{LeftmostLongest}
use Rattle.literal_base.specs.declared.search.Span.{Span}
use Rattle.literal_leftmost.specs.LookUps.{LookUps}
use Rattle.literal_leftmost.specs.SearchValue.{SearchValue, search_by}
use Rattle.literal_words.specs.WholeWords.{AreWholeWordsBy, OccursAloneBy, WholeWordsValue}
use Rattle.literal_leftmost.specs.Inside.Backward.{AreBackFor, ForBackward, IsMatchBy, IsSafe}
use Rattle.literal_leftmost.specs.Inside.Cursor.{IsCursor, KnowsAhead, look_ups_of}
use Rattle.literal_leftmost.specs.Inside.Prepared.{IsBackIn}
use Rattle.literal_words.specs.PreparedWords.{PreparedWordsValue}
use Rattle.literal_words.specs.WordText.{sides_of}
use Rattle.literal_leftmost.specs.declared.cursor.Cursor.{Cursor}
use Rattle.literal_words.specs.declared.word_search.Words.{Words}

-- the data of a search for whole words: a search, the match kind, and the word bytes
pub record WordParts : Type 0 where
  pub kind : MatchKind
  pub search : SearchValue
  pub word_bytes : List Bool

-- a `WholeWords` as callers see it
abbrev pub whole_words_value : WordParts → WholeWordsValue
whole_words_value p = record {
  search = search_by p.kind p.search.ignore_case p.search.query.patterns;
  word_bytes = p.word_bytes;
}

-- the search takes the longest match, and has no empty pattern
pub record AreWordParts (p : WordParts) : Type 0 where
  pub longest : p.search.query.kind ≡ LeftmostLongest
  pub some : NoneIsEmpty p.search.query.patterns

-- a pattern occurs at the start of a span, whole in it, and as a whole word by the sides of the haystack
abbrev pub IsWordAt : WordParts → List ℕ → List ℕ → Span → ℕ → Type 0
IsWordAt p haystack sides span i =
    OccursAloneBy p.search.query.patterns p.search.ignore_case p.word_bytes haystack sides span i span.start

-- the match is a whole word at the start of a span, not empty, and whole in the span
pub record IsWord (p : WordParts) (haystack sides : List ℕ) (span : Span) (found : MatchValue) : Type 0 where
  pub occurs : IsWordAt p haystack sides span found.pattern
  pub start : found.start ≡ span.start
  pub whole : found.end ≡ found.start + length (pattern_at p.search.query.patterns found.pattern)
  pub some : found.start < found.end

-- the whole word that a tie rule prefers, of those that begin at the start of a span and lie whole in it
pub record IsBestWord (kind : MatchKind) (p : WordParts) (haystack sides : List ℕ) (span : Span) (found : MatchValue)
    : Type 0 where
  pub word : IsWord p haystack sides span found
  pub best : (i : ℕ) → IsBetter kind p.search.query.patterns i found.pattern → ¬ IsWordAt p haystack sides span i

-- no whole word at the start of a span that ends after an offset is earlier in the list than the answer
abbrev pub IsFirstUpTo : WordParts → List ℕ → List ℕ → Span → ℕ → Option MatchValue → Type 0
IsFirstUpTo p haystack sides span end answer = MatchOption answer
    ((i : ℕ) → IsWordAt p haystack sides span i → span.start + length (pattern_at p.search.query.patterns i) ≤ end)
    (λ found. IsWord p haystack sides span found × ((i : ℕ) → IsWordAt p haystack sides span i
    → (span.start + length (pattern_at p.search.query.patterns i) ≤ end) ⊎ (found.pattern ≤ i)))

-- at most one byte is looked up for each byte by which an end advances
pub record ScansEnds (start end : ℕ) (old new : Counts) : Type 0 where
  pub others : new ≡ record old { scanned = new.scanned }
  pub most : new.scanned + start ≤ old.scanned + end

-- of the patterns that begin where a match does and lie whole in it, the search prefers that of the match
abbrev pub IsBestHere : SearchValue → List ℕ → MatchValue → Type 0
IsBestHere search haystack found =
    IsLeftmostMatch search.query search.ignore_case haystack (between found.start found.end) found

-- the match is not empty, lies in the haystack, is no longer than the longest pattern, and names one of the patterns
pub record IsMatchWithin (w : Words) (haystack : List ℕ) (found : MatchValue) : Type 0 where
  pub some : found.start < found.end
  pub inside : found.end ≤ length haystack
  pub short : found.end ≤ found.start + w.backward.table.longest
  pub pattern : found.pattern < length w.backward.lens.now

-- the same for the next shorter match there, or it is none
abbrev pub AreShorter : Words → List ℕ → ℕ → ℕ → Option MatchValue → Type 0
AreShorter w haystack start end next = IfSome next
    (λ here. IsMatchWithin w haystack here × (here.start ≡ start) × (here.end ≤ end))

-- where it ends, or the start, if there is none
abbrev pub end_or : ℕ → Option MatchValue → ℕ
end_or start None = start
end_or start (Some here) = here.end

-- the match whose pattern is not later in the list, of two
abbrev pub IsEarlier : Option MatchValue → MatchValue → MatchValue → Type 0
IsEarlier first found answer = MatchOption first (answer ≡ found) (λ other.
    ((answer ≡ other) × (other.pattern ≤ found.pattern)) ⊎ ((answer ≡ found) × (found.pattern ≤ other.pattern)))

-- a search, with the match kind and the word bytes of the data
abbrev pub word_parts : Words → SearchValue → WordParts
word_parts w search = record { kind = w.kind; search = search; word_bytes = w.word_bytes }

-- the tables are those of a search, with the match kind and the word bytes
pub record AreWordsFor (parts : WordParts) (w : Words) : Type 0 where
  pub safe : IsSafe w.backward
  pub is_for : AreBackFor parts.search w.backward
  pub same : word_parts w parts.search ≡ parts

-- the tables are those of a `WholeWords`
pub record AreTablesFor (words : WholeWordsValue) (w : Words) : Type 0 where
  pub safe : IsSafe w.backward
  pub search : SearchValue
  pub is_for : AreBackFor search w.backward
  pub parts : AreWordParts (word_parts w search)
  pub same : whole_words_value (word_parts w search) ≡ words

-- the tables are those of an array, which may be prepared for any search, or for none
pub record AreWordsIn (words : PreparedWordsValue) (w : Words) : Type 0 where
  pub back : IsBackIn words.numbers w.backward
  pub same : (search : SearchValue) → word_parts w search
      ≡ record { kind = words.kind; search = search; word_bytes = words.word_bytes }

-- a property holds of every search that takes the longest match and whose tables these are
abbrev pub ForWords : Words → (WordParts → Type 0) → Type 0
ForWords w P = (search : SearchValue) → AreBackFor search w.backward → AreWordParts (word_parts w search)
    → P (word_parts w search)

-- the match begins at the start of a span, is not empty, ends in the span, is no longer than the longest pattern, and
-- names one of the patterns
pub record IsMatchAtStart (w : Words) (span : Span) (found : MatchValue) : Type 0 where
  pub start : found.start ≡ span.start
  pub lies : IsMatchBy w.backward span span.start found

-- an iteration over the starts of patterns in a valid span
pub record AreKnownStarts (w : Words) (haystack : List ℕ) (span : Span) (starts : Cursor) : Type 0 where
  pub safe : IsSafe w.backward
  pub valid : IsValidSpan haystack span
  pub cursor : IsCursor w.backward.table.longest span starts
  pub knows : ForBackward w.backward (λ tables. KnowsAhead tables haystack span starts)

-- bounds on the bytes that it has looked up
abbrev pub starts_looked_up : Words → Span → Cursor → LookUps
starts_looked_up w span starts = look_ups_of w.backward.table.longest span starts

-- the whole words so far, by the sides of a haystack, before an offset: followed by the list of the rest, they are the
-- list of the span
pub record AreWordsUpToBy (words : WholeWordsValue) (haystack sides : List ℕ) (span : Span) (done : List MatchValue)
    (at : ℕ) : Type 0 where
  pub after : span.start ≤ at
  pub inside : at ≤ span.end
  pub goes_on : (more : List MatchValue) → AreWholeWordsBy words haystack sides (between at span.end) more
      → AreWholeWordsBy words haystack sides span (done ++ more)

-- the same by the bytes of the haystack itself
abbrev pub AreWordsUpTo : WholeWordsValue → List ℕ → Span → List MatchValue → ℕ → Type 0
AreWordsUpTo words haystack = AreWordsUpToBy words haystack haystack

-- the sides that are kept of a text: none if the text is its own sides
pub record AreSidesOf (text sides : List ℕ) : Type 0 where
  pub none : length sides ≡ 0 → text ≡ sides_of text
  pub some : 0 < length sides → sides ≡ sides_of text
  pub len : length (sides_of text) ≡ length text
