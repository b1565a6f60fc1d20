-- Whole words by a lent array: `PreparedWords`, as contracts see it.
use Rattle.std.specs.Prelude.{◌≡◌, ℕ, ◌<◌, Bool, IfOk, IfSome, List, MatchResult, None, Option, Result, slice_index}
use Rattle.std.specs.Result.{IsOkAnd}
use Rattle.literal_base.specs.Counts.{Counts}
use Rattle.literal_base.specs.MatchValue.{MatchValue}
use Rattle.literal_base.specs.Occurs.{between}
use Rattle.literal_base.specs.declared.packed.MatchKind.{MatchKind}
use Rattle.literal_base.specs.declared.packed.MatchKind.TheVariants.{LeftmostLongest}
use Rattle.literal_base.specs.declared.search.Span.{Span}
use Rattle.literal_leftmost.specs.LookUps.{LookUps, LooksOn, no_look_ups}
use Rattle.literal_leftmost.specs.MatchesValue.{offset_after_start, offset_at_end}
use Rattle.literal_leftmost.specs.Prepared.{ForPrepared, LiesIn, longest_in}
use Rattle.literal_leftmost.specs.SearchValue.{SearchValue, search_by}
use Rattle.literal_rows.specs.declared.damaged.Damaged.{Damaged}
use Rattle.literal_words.specs.WholeWords.{GivesWholeWordBy, IsFirstAloneBy, ScansWordsBy, ScansWordsRest}
use Rattle.literal_words.specs.WholeWords.{WholeWordMatchesValue, WholeWordsValue}

-- a `PreparedWords` as contracts see it: the match kind, the array, and for each byte whether it is a word byte
pub record PreparedWordsValue : Type 0 where
  pub kind : MatchKind
  pub numbers : List ℕ
  pub word_bytes : List Bool

-- the search for whole words, if the array is prepared for this search
abbrev pub words_for : SearchValue → PreparedWordsValue → WholeWordsValue
words_for search words = record {
  search = search_by words.kind search.ignore_case search.query.patterns;
  word_bytes = words.word_bytes;
}

-- a property holds of the search for whole words, if the array is prepared for a search that prefers the longest match.
-- `PreparedWords::new` refuses an array of the other kind
abbrev pub ForWholeWords : PreparedWordsValue → (WholeWordsValue → Type 0) → Type 0
ForWholeWords words P =
    ForPrepared words.numbers (λ search. search.query.kind ≡ LeftmostLongest → P (words_for search words))

-- the answer of `find_in_by_sides`: by a prepared array the leftmost whole word. By another it may be another match,
-- none, or `Damaged`; but a match lies in the span, and names one of the patterns
pub record FindsLentWord (words : PreparedWordsValue) (haystack sides : List ℕ) (span : Span)
    (answer : Result (Option MatchValue) Damaged) : Type 0 where
  pub prepared : ForWholeWords words (λ owned. IsOkAnd answer (IsFirstAloneBy owned haystack sides span))
  pub inside : IfOk answer (λ found. IfSome found (LiesIn span))
  pub pattern : IfOk answer (λ found. IfSome found (λ m. m.pattern < slice_index words.numbers 3))

-- a `PreparedWordMatches` as contracts see it: the search, the haystack, the span, the offset from which it continues,
-- the offset from which it looks for the next pattern, and bounds on the bytes that it has looked up so far
pub record PreparedWordMatchesValue : Type 0 where
  pub words : PreparedWordsValue
  pub haystack : List ℕ
  pub span : Span
  pub at : ℕ
  pub from : ℕ
  pub look_ups : LookUps

-- an iteration over the whole words in a span, which has not begun
abbrev pub lent_word_matches_in : PreparedWordsValue → List ℕ → Span → PreparedWordMatchesValue
lent_word_matches_in words haystack span = record {
  words = words;
  haystack = haystack;
  span = span;
  at = span.start;
  from = span.start;
  look_ups = no_look_ups;
}

-- the same iteration by a search for whole words
abbrev pub word_matches_by : PreparedWordMatchesValue → WholeWordsValue → WholeWordMatchesValue
word_matches_by m words = record {
  words = words;
  haystack = m.haystack;
  span = m.span;
  at = m.at;
  from = m.from;
  look_ups = m.look_ups;
}

-- the answer of `next_match`, by the sides of the haystack: by a prepared array that of `GivesWholeWordBy`. By another
-- a match still lies in the rest of the span, and names one of the patterns. After `None` or `Damaged` it has ended
pub record GivesLentWord (sides : List ℕ) (old : PreparedWordMatchesValue)
    (answer : Result (Option MatchValue) Damaged) (new : PreparedWordMatchesValue) : Type 0 where
  pub prepared : ForWholeWords old.words (λ words. IsOkAnd answer (λ found.
      GivesWholeWordBy sides (word_matches_by old words) found (word_matches_by new words)))
  pub inside : IfOk answer (λ found. IfSome found (LiesIn (between old.at old.span.end)))
  pub pattern : IfOk answer (λ found. IfSome found (λ m. m.pattern < slice_index old.words.numbers 3))
  pub goes_on : MatchResult answer
      (λ found. (new.at ≡ offset_at_end old.span found) × (new.from ≡ offset_after_start old.span found))
      (λ _. (new.at ≡ old.span.end) × (new.from ≡ old.span.end))
  pub ended : old.from ≡ old.span.end → IsOkAnd answer (λ found. found ≡ None)
  pub same : new ≡ record old { at = new.at; from = new.from; look_ups = new.look_ups }

-- the bytes that `next_counted` scans, with the longest pattern length that the array gives
pub record ScansLentWords (old : PreparedWordMatchesValue) (answer : Result (Option MatchValue) Damaged)
    (new : PreparedWordMatchesValue) (counts counts_new : Counts) : Type 0 where
  pub looks : IfOk answer (λ _. LooksOn (longest_in old.words.numbers) old.span new.from old.look_ups new.look_ups)
  pub scans : IfOk answer (λ _. ScansWordsBy (longest_in old.words.numbers) old.from new.from old.look_ups
      new.look_ups counts counts_new)
  pub rest : ScansWordsRest (longest_in old.words.numbers) old.span old.from old.look_ups counts counts_new

-- a `PreparedWordMatchesBySides` as contracts see it: the iteration, and the sides of the haystack
pub record PreparedWordMatchesBySidesValue : Type 0 where
  pub matches : PreparedWordMatchesValue
  pub sides : List ℕ
