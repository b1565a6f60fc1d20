-- Scans of texts: what they read, find and print.
use Rattle.std.specs.Prelude.{◌≡◌, ◌≢◌, ◌≤◌, ◌==◌, ◌&&◌, ◌++◌, ◌⊎◌, ℕ, Bool, IfSome, Option, true, false, List, []}
use Rattle.std.specs.Prelude.{◌∷◌, ⊤, length, map}
use Rattle.std.specs.List.{count_by, list_any}
use Rattle.std.specs.declared.io.ErrorKind.{ErrorKind}
use Rattle.literal_search.specs.SearchValue.{SearchValue}
use Rattle.litscan.specs.Context.{PrintsGroups, has_context, lines_after, lines_before, lines_behind, marks_of}
use Rattle.litscan.specs.Lines.{lines_of}
use Rattle.litscan.specs.Options.{is_silent, limit_of, skips_zero}
use Rattle.litscan.specs.Printed.{PrintsUnlessSilent, Reads, StopsAtEnough, are_enough, counts, printed_behind}
use Rattle.litscan.specs.declared.options.Options.{Options}
use Rattle.litscan.specs.declared.selected.Scanned.{Scanned}

-- for each line, whether it is selected. The lines up to the one with which enough are selected are selected by their
-- words, and those after it are not
abbrev pub counting : SearchValue → Options → List (List ℕ) → List (List ℕ) → List Bool
counting search options front behind = map (counts search options) front ++ map (λ line. false) behind

-- the output for the lines up to the one with which enough are selected, and for the lines after it. It is in groups if
-- lines around selected lines are requested
abbrev pub PrintsRead : Bool → SearchValue → Options → List ℕ → Bool → List ℕ → List (List ℕ) → List (List ℕ)
    → List ℕ → Type 0
PrintsRead true search options separator any name front behind out =
    PrintsGroups search options separator name any true 1 0 (front ++ behind)
    (marks_of (lines_before options) (lines_after options) (counting search options front behind)) out
PrintsRead false search options separator any name front behind out =
    PrintsUnlessSilent (is_silent options) search options name 1 0 front out

-- the output for a file of this name, of which these lines were read, by whether a line of an earlier file was printed
abbrev pub Prints : SearchValue → Options → List ℕ → Bool → List ℕ → List (List ℕ) → List (List ℕ) → List ℕ → Type 0
Prints search options separator any name front behind out = (lines : List ℕ)
    × PrintsRead (has_context options) search options separator any name front behind lines
    × (out ≡ lines ++ printed_behind options.listed options name (count_by (counts search options) front))

-- a text was read, and its output has this file name. Its lines are those up to the one with which enough are selected,
-- and the lines to print after it
pub record Scans (search : SearchValue) (options : Options) (separator : List ℕ) (any : Bool) (name text : List ℕ)
    (scanned : Scanned) (out : List ℕ) : Type 0 where
  pub front : List (List ℕ)
  pub behind : List (List ℕ)
  pub lines_are : lines_of options.line_end text ≡ front ++ behind
  pub stops : StopsAtEnough (limit_of options) (counts search options) front
  pub counted : scanned.count ≡ count_by (counts search options) front
  pub few : length behind ≤ lines_behind options
  pub near : are_enough options scanned ≡ false → behind ≡ []
  pub printed : Prints search options separator any name front behind out

-- whether reading may stop: enough lines are selected, and all lines to print after the last of them were read
abbrev pub is_all : Options → Scanned → List (List ℕ) → Bool
is_all options scanned behind = are_enough options scanned && (length behind == lines_behind options)

-- the bytes contain a zero byte
abbrev pub HasZero : List ℕ → Type 0
HasZero bytes = list_any (λ byte. byte == 0) bytes ≡ true

-- the first of these bytes, if there is one, is not zero
abbrev pub BeginsWithoutZero : List ℕ → Type 0
BeginsWithoutZero [] = ⊤
BeginsWithoutZero (byte ∷ more) = byte ≢ 0

-- the text was read until reading may stop; or with `-I`, the known bytes contain a zero byte, and the text is empty
abbrev pub IsSearched : Options → Option ErrorKind → Bool → Option (List ℕ) → Option (List ℕ) → List ℕ → Type 0
IsSearched options failure enough old new text =
    Reads failure enough old new text ⊎ ((skips_zero options ≡ true) × (text ≡ []) × IfSome old HasZero)
