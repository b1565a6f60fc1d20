-- Whole words: occurrences with no word byte right before them and none right after them.
use Rattle.std.specs.Prelude.{◌==◌, ◌≡◌, ◌+◌, ◌-◌, ◌*◌, ◌<◌, ◌≤◌, ◌&&◌, ◌||◌, ℕ, Bool, false, List, [], ◌∷◌, length}
use Rattle.std.specs.Prelude.{IfSome, MatchOption, Option, nat_lt, slice_index}
use Rattle.std.specs.Char.{is_ascii_alphanumeric}
use Rattle.std.specs.Iterator.{Count, at_most}
use Rattle.literal_base.specs.Bytes.{contains}
use Rattle.literal_base.specs.Counts.{Counts}
use Rattle.literal_base.specs.Leftmost.{IsBetter}
use Rattle.literal_base.specs.MatchValue.{MatchValue}
use Rattle.literal_base.specs.Occurs.{Occurs, between, pattern_at, rest_from}
use Rattle.literal_base.specs.Query.{Query}
use Rattle.literal_base.specs.declared.search.Span.{Span}
use Rattle.literal_leftmost.specs.LookUps.{LookUps, LooksOn, no_look_ups}
use Rattle.literal_leftmost.specs.MatchesValue.{offset_after_start, offset_at_end}
use Rattle.literal_leftmost.specs.SearchValue.{SearchValue, longest_of, most_scanned}

-- a `WholeWords` as contracts see it: the search, and for each byte whether it is a word byte
pub record WholeWordsValue : Type 0 where
  pub search : SearchValue
  pub word_bytes : List Bool

-- whether a byte is an ASCII letter, a digit or an underscore
abbrev pub is_ascii_word_byte : ℕ → Bool
is_ascii_word_byte byte = is_ascii_alphanumeric byte || byte == 95

-- whether a word byte is at an offset; none is at the end of the haystack
abbrev pub is_word_at : List Bool → List ℕ → ℕ → Bool
is_word_at word_bytes haystack at = nat_lt at (length haystack) && contains word_bytes (slice_index haystack at)

-- whether a word byte is right before an offset; none is before the start of the haystack
abbrev pub is_word_before : List Bool → List ℕ → ℕ → Bool
is_word_before word_bytes haystack at = nat_lt 0 at && is_word_at word_bytes haystack (at - 1)

-- no word byte is right before the start of a part of a haystack, or right after its end
pub record IsAlone (word_bytes : List Bool) (haystack : List ℕ) (start end : ℕ) : Type 0 where
  pub before : is_word_before word_bytes haystack start ≡ false
  pub after : is_word_at word_bytes haystack end ≡ false

-- `OccursAlone` by the sides of the haystack: one byte for each of its bytes, by which it is decided whether a word
-- byte is next to an occurrence
pub record OccursAloneBy (patterns : List (List ℕ)) (ignore_case : Bool) (word_bytes : List Bool)
    (haystack sides : List ℕ) (span : Span) (i at : ℕ) : Type 0 where
  pub occurs : Occurs patterns ignore_case haystack span i at
  pub alone : IsAlone word_bytes sides at (at + length (pattern_at patterns i))

-- a pattern occurs at an offset, whole in a span, and as a whole word. Bytes next to the span count too
abbrev pub OccursAlone : List (List ℕ) → Bool → List Bool → List ℕ → Span → ℕ → ℕ → Type 0
OccursAlone patterns ignore_case word_bytes haystack =
    OccursAloneBy patterns ignore_case word_bytes haystack haystack

-- `IsLeftmostAlone` by the sides of the haystack
pub record IsLeftmostAloneBy (query : Query) (ignore_case : Bool) (word_bytes : List Bool) (haystack sides : List ℕ)
    (span : Span) (found : MatchValue) : Type 0 where
  pub occurs : OccursAloneBy query.patterns ignore_case word_bytes haystack sides span found.pattern found.start
  pub whole : found.end ≡ found.start + length (pattern_at query.patterns found.pattern)
  pub earliest : (i at : ℕ) → at < found.start
      → ¬ OccursAloneBy query.patterns ignore_case word_bytes haystack sides span i at
  pub best : (i : ℕ) → IsBetter query.kind query.patterns i found.pattern
      → ¬ OccursAloneBy query.patterns ignore_case word_bytes haystack sides span i found.start

-- the match is a whole word in the span. No whole word begins before it, and none that the tie rule prefers begins at
-- its start
abbrev pub IsLeftmostAlone : Query → Bool → List Bool → List ℕ → Span → MatchValue → Type 0
IsLeftmostAlone query ignore_case word_bytes haystack =
    IsLeftmostAloneBy query ignore_case word_bytes haystack haystack

-- `NothingAlone` by the sides of the haystack
abbrev pub NothingAloneBy : WholeWordsValue → List ℕ → List ℕ → Span → Type 0
NothingAloneBy words haystack sides span = (i at : ℕ)
    → ¬ OccursAloneBy words.search.query.patterns words.search.ignore_case words.word_bytes haystack sides span i at

-- no pattern occurs in the span as a whole word
abbrev pub NothingAlone : WholeWordsValue → List ℕ → Span → Type 0
NothingAlone words haystack = NothingAloneBy words haystack haystack

-- `IsFirstAlone` by the sides of the haystack
abbrev pub IsFirstAloneBy : WholeWordsValue → List ℕ → List ℕ → Span → Option MatchValue → Type 0
IsFirstAloneBy words haystack sides span answer = MatchOption answer (NothingAloneBy words haystack sides span)
    (IsLeftmostAloneBy words.search.query words.search.ignore_case words.word_bytes haystack sides span)

-- the answer is None exactly if there is no whole word in the span, and otherwise the leftmost one
abbrev pub IsFirstAlone : WholeWordsValue → List ℕ → Span → Option MatchValue → Type 0
IsFirstAlone words haystack = IsFirstAloneBy words haystack haystack

-- `AreWholeWords` by the sides of the haystack
abbrev pub AreWholeWordsBy : WholeWordsValue → List ℕ → List ℕ → Span → List MatchValue → Type 0
AreWholeWordsBy words haystack sides span [] = NothingAloneBy words haystack sides span
AreWholeWordsBy words haystack sides span (found ∷ more) =
    IsLeftmostAloneBy words.search.query words.search.ignore_case words.word_bytes haystack sides span found
    × AreWholeWordsBy words haystack sides (between found.end span.end) more

-- all whole words of a span that do not overlap, from the left: the leftmost one, followed by those of the rest of the
-- span after it
abbrev pub AreWholeWords : WholeWordsValue → List ℕ → Span → List MatchValue → Type 0
AreWholeWords words haystack = AreWholeWordsBy words haystack haystack

-- `AreWordsFrom` by the sides of the haystack
abbrev pub AreWordsFromBy : WholeWordsValue → List ℕ → List ℕ → ℕ → List MatchValue → Type 0
AreWordsFromBy words sides haystack at = AreWholeWordsBy words haystack sides (rest_from haystack at)

-- all whole words from an offset on
abbrev pub AreWordsFrom : WholeWordsValue → List ℕ → ℕ → List MatchValue → Type 0
AreWordsFrom words haystack = AreWordsFromBy words haystack haystack

-- a `WholeWordMatches` as contracts see it: the words, the haystack, the span, the offset from which it continues, the
-- offset from which it looks for the next pattern, and bounds on the bytes that it has looked up so far for patterns
pub record WholeWordMatchesValue : Type 0 where
  pub words : WholeWordsValue
  pub haystack : List ℕ
  pub span : Span
  pub at : ℕ
  pub from : ℕ
  pub look_ups : LookUps

-- an iteration over the whole words in a span, which has not begun
abbrev pub word_matches_in : WholeWordsValue → List ℕ → Span → WholeWordMatchesValue
word_matches_in words haystack span = record {
  words = words;
  haystack = haystack;
  span = span;
  at = span.start;
  from = span.start;
  look_ups = no_look_ups;
}

-- `GivesWholeWord` by the sides of the haystack
pub record GivesWholeWordBy (sides : List ℕ) (old : WholeWordMatchesValue) (answer : Option MatchValue)
    (new : WholeWordMatchesValue) : Type 0 where
  pub leftmost : IsFirstAloneBy old.words old.haystack sides (between old.at old.span.end) answer
  pub not_empty : IfSome answer (λ found. found.start < found.end)
  pub look_ups : LookUps
  pub goes_on : new ≡ record old {
    at = offset_at_end old.span answer;
    from = offset_after_start old.span answer;
    look_ups = look_ups;
  }
  pub looks : LooksOn (longest_of old.words.search.query.patterns) old.span (offset_after_start old.span answer)
      old.look_ups look_ups

-- the answer of `next`: the leftmost whole word of the rest of the span, which is not empty, or None if there is none.
-- It continues after that word
abbrev pub GivesWholeWord : WholeWordMatchesValue → Option MatchValue → WholeWordMatchesValue → Type 0
GivesWholeWord old = GivesWholeWordBy old.haystack old

-- an upper bound on the whole words to come: each has at least one byte of the rest
abbrev pub most_words_to_come : WholeWordMatchesValue → Count
most_words_to_come m = at_most (m.span.end - m.at)

-- a `WordMatchesBySides` as contracts see it: the iteration, and the sides of the haystack
pub record WordMatchesBySidesValue : Type 0 where
  pub matches : WholeWordMatchesValue
  pub sides : List ℕ

-- the answer of the `next` of a `WordMatchesBySides`: that of `GivesWholeWordBy`, and the sides stay the same
pub record GivesWordBySides (old : WordMatchesBySidesValue) (answer : Option MatchValue)
    (new : WordMatchesBySidesValue) : Type 0 where
  pub gives : GivesWholeWordBy old.sides old.matches answer new.matches
  pub same : new.sides ≡ old.sides

-- `most_words_to_come` of a `WordMatchesBySides`
abbrev pub most_words_by_sides : WordMatchesBySidesValue → Count
most_words_by_sides m = most_words_to_come m.matches

-- the most bytes that are looked up at an offset at which a pattern begins, given the length of the longest one: the
-- byte before it, and the one after each pattern that begins there
abbrev pub most_at_start : ℕ → ℕ
most_at_start longest = longest + 1

-- the most bytes that are scanned while an iteration advances: as much as its bound grows, plus `most_at_start` for
-- each byte by which it advances
pub record ScansWordsAtMost (longest from upto before after : ℕ) (old new : Counts) : Type 0 where
  pub others : new ≡ record old { scanned = new.scanned }
  pub most : new.scanned + before + from * most_at_start longest
      ≤ old.scanned + after + upto * most_at_start longest

-- the bytes that are scanned: at most those of `ScansWordsAtMost`, and at least those that were not looked up before
pub record ScansWordsBy (longest from upto : ℕ) (before after : LookUps) (old new : Counts) : Type 0 where
  pub at_most : ScansWordsAtMost longest from upto before.most after.most old new
  pub least : old.scanned + after.least ≤ new.scanned + before.least

-- `ScansWordsBy` for the longest of some patterns
abbrev pub ScansWords : List (List ℕ) → ℕ → ℕ → LookUps → LookUps → Counts → Counts → Type 0
ScansWords patterns = ScansWordsBy (longest_of patterns)

-- the most bytes that the rest of an iteration scans, also if it ends with an error
abbrev pub ScansWordsRest : ℕ → Span → ℕ → LookUps → Counts → Counts → Type 0
ScansWordsRest longest span from before =
    ScansWordsAtMost longest from span.end before.most (most_scanned longest (span.end - span.start))

-- the bytes that the search for the first whole word scans: at least those up to and including the word's first byte,
-- and at most those of a list of the span, plus `most_at_start` for each of these bytes
pub record ScansFirstWordBy (longest : ℕ) (span : Span) (answer : Option MatchValue) (old new : Counts) : Type 0 where
  pub others : new ≡ record old { scanned = new.scanned }
  pub least : old.scanned + offset_after_start span answer ≤ new.scanned + span.start
  pub most : new.scanned + span.start * most_at_start longest
      ≤ old.scanned + most_scanned longest (span.end - span.start)
      + offset_after_start span answer * most_at_start longest

-- `ScansFirstWordBy` for the longest of some patterns
abbrev pub ScansFirstWord : List (List ℕ) → Span → Option MatchValue → Counts → Counts → Type 0
ScansFirstWord patterns = ScansFirstWordBy (longest_of patterns)
