-- Lines that are skipped, and text that is read as a line.
use Rattle.std.specs.Prelude.{◌≡◌, ◌≢◌, ◌⊎◌, ◌+◌, ◌-◌, ◌<◌, ◌≤◌, ◌^◌, ◌++◌, ℕ, Bool, List, [], ◌∷◌, None, Option, Some}
use Rattle.std.specs.Prelude.{IfSome}
use Rattle.std.specs.Prelude.{◌&&◌, ◌||◌, false, length, not, slice_index, take, true}
use Rattle.std.specs.List.{All, count_by, flat_map}
use Rattle.std.specs.Io.KnownBytes.{Appends}
use Rattle.literal_base.specs.MatchValue.{MatchValue}
use Rattle.literal_base.specs.Occurs.{NothingOccurs, Occurs, whole_of}
use Rattle.literal_search.specs.SearchValue.{SearchValue}
use Rattle.litscan.specs.Asked.{one_asked}
use Rattle.litscan.specs.Lines.{HasNoEnd, last_line, with_end}
use Rattle.litscan.specs.Options.{is_enough, is_silent, limit_of}
use Rattle.litscan.specs.Printed.{PrintsUnlessSilent, counts, printed_part}
use Rattle.litscan.specs.declared.buffered.Ahead.{Ahead}
use Rattle.litscan.specs.declared.options.Options.{Options}
use Rattle.litscan.specs.declared.passed.Passed.{Passed}

-- bytes consist of whole lines: there are none, or the last one ends a line
abbrev pub EndsLine : ℕ → List ℕ → Type 0
EndsLine line_end bytes =
    (length bytes ≡ 0) ⊎ ((0 < length bytes) × (slice_index bytes (length bytes - 1) ≡ line_end))

-- no word of a search occurs in a line
abbrev pub HasNoWord : SearchValue → List ℕ → Type 0
HasNoWord search line = NothingOccurs search.query.patterns search.ignore_case line (whole_of line)

-- no word has an allowed occurrence in a line
abbrev pub HasNoMatch : SearchValue → Options → List ℕ → Type 0
HasNoMatch search options line = one_asked search options line ≡ false

-- a word of a search occurs in a line
abbrev pub HasWord : SearchValue → List ℕ → Type 0
HasWord search line =
    (i at : ℕ) × Occurs search.query.patterns search.ignore_case line (whole_of line) i at

-- whole lines, none of which has a match
pub record ArePassed (line_end : ℕ) (search : SearchValue) (options : Options) (lines : List (List ℕ)) : Type 0 where
  pub whole : All (HasNoEnd line_end) lines
  pub none : All (HasNoMatch search options) lines

-- the length of the skipped bytes, with the next line and its end
abbrev pub len_with : ℕ → Option ℕ → ℕ
len_with bytes None = bytes
len_with bytes (Some len) = bytes + len + 1

-- the same for the skipped lines
abbrev pub len_of : Passed → ℕ
len_of passed = len_with passed.bytes passed.next

-- the next line with its end, if it is there
abbrev pub next_of : ℕ → Option ℕ → List ℕ → List ℕ
next_of line_end None line = []
next_of line_end (Some len) line = with_end line_end line

-- a match lies in a line of this length, which begins at this offset and has an end
pub record LiesInLine (line_end : ℕ) (bytes : List ℕ) (start : ℕ) (found : MatchValue) (len : ℕ) : Type 0 where
  pub inside : found.end ≤ start + len
  pub fed : start + len < length bytes
  pub feed : slice_index bytes (start + len) ≡ line_end
  pub whole : (k : ℕ) → start ≤ k → k < start + len → slice_index bytes k ≢ line_end

-- a text consists of lines without a match, and possibly one more line, which without `-x` has a word
pub record Takes (line_end : ℕ) (search : SearchValue) (options : Options) (passed : Passed)
    (line text : List ℕ) : Type 0 where
  pub lines : List (List ℕ)
  pub are : ArePassed line_end search options lines
  pub count : passed.lines ≡ length lines
  pub bytes : passed.bytes ≡ length (flat_map (with_end line_end) lines)
  pub next : IfSome passed.next (λ len. (len ≡ length line) × HasNoEnd line_end line
      × (options.whole ≡ false → HasWord search line))
  pub text_is : text ≡ flat_map (with_end line_end) lines ++ next_of line_end passed.next line

-- these bytes begin with such a text, for some such line
abbrev pub IsAhead : ℕ → SearchValue → Options → List ℕ → Passed → Type 0
IsAhead line_end search options bytes passed =
    (line : List ℕ) × Takes line_end search options passed line (take (len_of passed) bytes)
    × (len_of passed ≤ length bytes)

-- the text read as lines: up to the end of a line, it is a line; at the end of the input, only if it is not empty
abbrev pub lines_read : Bool → List ℕ → List (List ℕ)
lines_read true line = line ∷ []
lines_read false last = last_line last

-- if lines without a word are selected, there is no limit
abbrev pub PassesOthers : Options → Type 0
PassesOthers options = options.others ≡ true → limit_of options ≡ None

-- whether lines without a word are printed
abbrev pub prints_others : Options → Bool
prints_others options = options.others && not (is_silent options || (options.only && options.others))

-- consecutive lines as they are printed if none of them has a match. The first has this number and begins at this
-- offset
abbrev pub printed_each : Options → List ℕ → ℕ → ℕ → List (List ℕ) → List ℕ
printed_each options name number offset [] = []
printed_each options name number offset (line ∷ more) = printed_part options name number offset line line
    ++ printed_each options name (number + 1) (offset + length line + 1) more

-- a text consists of whole lines that were handled. They follow so many lines, and begin at this offset of the whole
-- text. Fewer of them, from the first on, are not enough where the lines before them are not
pub record TakesLines (search : SearchValue) (options : Options) (name : List ℕ) (lines offset : ℕ) (ahead : Ahead)
    (text : List ℕ) (written now : Option (List ℕ)) : Type 0 where
  pub taken : List (List ℕ)
  pub whole : All (HasNoEnd options.line_end) taken
  pub text_is : text ≡ flat_map (with_end options.line_end) taken
  pub lines_are : ahead.lines ≡ length taken
  pub bytes_are : ahead.bytes ≡ length text
  pub small : offset + ahead.bytes < 2 ^ 64
  pub counted : ahead.count ≡ count_by (counts search options) taken
  pub stops : (n before : ℕ) → is_enough (limit_of options) before ≡ false → n < length taken
      → is_enough (limit_of options) (before + count_by (counts search options) (take n taken)) ≡ false
  pub out : List ℕ
  pub writes : Appends written now out
  pub printed : PrintsUnlessSilent (is_silent options) search options name (lines + 1) offset taken out
