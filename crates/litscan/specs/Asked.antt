-- The occurrences of words in a line that `-w` and `-x` allow. With neither, all are allowed.
use Rattle.std.specs.Prelude.{◌≡◌, ◌⊎◌, ℕ, ◌+◌, ◌-◌, ◌≤◌, ◌==◌, ◌&&◌, ◌||◌, ◌++◌, Bool, true, List, [], ◌∷◌, length}
use Rattle.std.specs.Prelude.{if◌then◌else◌, nat_lt, not, slice_index}
use Rattle.std.specs.Char.{is_ascii_alphanumeric}
use Rattle.std.specs.List.{list_any, range_with_len}
use Rattle.literal_base.specs.MatchValue.{MatchValue}
use Rattle.literal_base.specs.Occurs.{Occurs, pattern_at, rest_from, stands_at}
use Rattle.literal_base.specs.declared.search.Span.{Span}
use Rattle.literal_search.specs.SearchValue.{SearchValue}
use Rattle.litscan.specs.declared.options.Options.{Options}

-- whether a byte is a word byte: an ASCII letter, a digit, or an underscore
abbrev pub is_word_byte : ℕ → Bool
is_word_byte byte = is_ascii_alphanumeric byte || byte == 95

-- whether a word byte is right before an offset of a line
abbrev pub is_behind_word : List ℕ → ℕ → Bool
is_behind_word line at = nat_lt 0 at && is_word_byte (slice_index line (at - 1))

-- whether a word byte is right after an offset of a line
abbrev pub is_before_word : List ℕ → ℕ → Bool
is_before_word line at = nat_lt at (length line) && is_word_byte (slice_index line at)

-- whether no word byte is right before the start of a span of a line, nor right after its end
abbrev pub stands_alone : List ℕ → ℕ → ℕ → Bool
stands_alone line start end = not (is_behind_word line start) && not (is_before_word line end)

-- whether a line ends at an offset; with `--crlf` also where only a carriage return follows
abbrev pub ends_line : Options → List ℕ → ℕ → Bool
ends_line options line end =
    end == length line || (options.crlf && end + 1 == length line && slice_index line end == 13)

-- a line is this text; with `--crlf` also if a carriage return follows the text
abbrev pub IsLineOf : Options → List ℕ → List ℕ → Type 0
IsLineOf options line text = (line ≡ text) ⊎ ((options.crlf ≡ true) × (line ≡ text ++ 13 ∷ []))

-- whether an occurrence with this start and end in a line is allowed: `-x` requires the whole line, `-w` no word byte
-- next to it
abbrev pub is_asked : Options → List ℕ → ℕ → ℕ → Bool
is_asked options line start end =
    if options.whole then start == 0 && ends_line options line end
    else if options.alone then stands_alone line start end else true

-- the pattern of this number occurs at an offset, whole in a span of a line, and the occurrence is allowed
pub record OccursAsked (search : SearchValue) (options : Options) (line : List ℕ) (span : Span)
    (i at : ℕ) : Type 0 where
  pub occurs : Occurs search.query.patterns search.ignore_case line span i at
  pub asked : is_asked options line at (at + length (pattern_at search.query.patterns i)) ≡ true

-- whether a pattern has an allowed occurrence in a line
abbrev pub one_asked : SearchValue → Options → List ℕ → Bool
one_asked search options line =
    list_any (λ at. list_any (λ bytes.
    stands_at search.ignore_case bytes line at && is_asked options line at (at + length bytes)) search.query.patterns)
    (range_with_len 0 (length line + 1))

-- the match is an allowed occurrence in a span of a line; no other allowed one begins before it, and none at its offset
-- is longer, or is as long and listed before
pub record IsFirstAsked (search : SearchValue) (options : Options) (line : List ℕ) (span : Span)
    (found : MatchValue) : Type 0 where
  pub occurs : OccursAsked search options line span found.pattern found.start
  pub whole : found.end ≡ found.start + length (pattern_at search.query.patterns found.pattern)
  pub first : (i at : ℕ) → OccursAsked search options line span i at → found.start ≤ at
  pub longest : (i : ℕ) → OccursAsked search options line span i found.start
      → found.start + length (pattern_at search.query.patterns i) ≤ found.end
  pub listed : (i : ℕ) → OccursAsked search options line span i found.start
      → length (pattern_at search.query.patterns i) ≡ length (pattern_at search.query.patterns found.pattern)
      → found.pattern ≤ i

-- no pattern has an allowed occurrence in a span of a line
abbrev pub NothingAsked : SearchValue → Options → List ℕ → Span → Type 0
NothingAsked search options line span = (i at : ℕ) → ¬ OccursAsked search options line span i at

-- the matches in a line from an offset on: the first one, of those that begin there the longest, and the matches from
-- its end on
abbrev pub AreMatches : SearchValue → Options → List ℕ → ℕ → List MatchValue → Type 0
AreMatches search options line at [] = NothingAsked search options line (rest_from line at)
AreMatches search options line at (found ∷ more) =
    IsFirstAsked search options line (rest_from line at) found × AreMatches search options line found.end more
