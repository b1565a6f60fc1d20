-- The text that is read, and the output for its lines.
use Rattle.std.specs.Prelude.{◌≡◌, ◌≤◌, ◌<◌, ◌⊎◌, ◌||◌, ℕ, ◌+◌, ◌-◌, ◌^◌, ◌++◌, Bool, true, false, List, [], ◌∷◌}
use Rattle.std.specs.Prelude.{length, replicate}
use Rattle.std.specs.Prelude.{Option, Some, None, ⊤, codes, if◌then◌else◌, nat_lt, not, take, unwrap_or, ◌&&◌}
use Rattle.std.specs.Fmt.{decimal}
use Rattle.std.specs.Io.KnownBytes.{Consumes}
use Rattle.std.specs.List.{count_by, flat_map, repeat, slice_range}
use Rattle.literal_base.specs.MatchValue.{MatchValue}
use Rattle.literal_search.specs.SearchValue.{SearchValue}
use Rattle.std.specs.declared.io.ErrorKind.{ErrorKind}
use Rattle.std.specs.declared.io.ErrorKind.TheVariants as kind
use Rattle.litscan.specs.Asked.{AreMatches, one_asked}
use Rattle.litscan.specs.Fault.{IsReadFault, IsWriteFault}
use Rattle.litscan.specs.Lines.{with_end, with_feed}
use Rattle.litscan.specs.Options.{is_colored, is_enough, is_marked, limit_of}
use Rattle.litscan.specs.declared.fault.Fault.{Fault}
use Rattle.litscan.specs.declared.fault.Fault.TheVariants.{OutOfMemory}
use Rattle.litscan.specs.declared.options.Options.{Options}
use Rattle.litscan.specs.declared.options.Shown.{Shown}
use Rattle.litscan.specs.declared.options.Shown.TheVariants as shown
use Rattle.litscan.specs.declared.selected.Scanned.{Scanned}

-- the known bytes left to read were this text, and none is left
abbrev pub ReadsAll : Option (List ℕ) → Option (List ℕ) → List ℕ → Type 0
ReadsAll None new text = ⊤
ReadsAll (Some bytes) new text = (bytes ≡ text) × (new ≡ Some [])

-- known bytes of a reader were read, at least 2^64 - 2 of them
abbrev pub ReadsTooMany : Option (List ℕ) → Option (List ℕ) → Type 0
ReadsTooMany old new = (text : List ℕ) × Consumes old new text × (2 ^ 64 ≤ length text + 2)

-- the known bytes left to read begin with this text
abbrev pub BeginsWith : Option (List ℕ) → List ℕ → Type 0
BeginsWith None text = ⊤
BeginsWith (Some bytes) text = (rest : List ℕ) × (bytes ≡ text ++ rest)

-- the text read from known bytes. After an error, the bytes begin with it. If enough lines are selected, it was read
-- and nothing more. Otherwise it is all of the bytes, and none is left
abbrev pub Reads : Option ErrorKind → Bool → Option (List ℕ) → Option (List ℕ) → List ℕ → Type 0
Reads (Some error) enough old new text = BeginsWith old text
Reads None true old new text = Consumes old new text
Reads None false old new text = ReadsAll old new text

-- whether enough lines are selected
abbrev pub are_enough : Options → Scanned → Bool
are_enough options scanned = is_enough (limit_of options) scanned.count

-- no lines follow the one with which enough are selected: fewer lines, from the first on, are not enough
abbrev pub StopsAtEnough : Option ℕ → (List ℕ → Bool) → List (List ℕ) → Type 0
StopsAtEnough limit test lines =
    (n : ℕ) → n < length lines → is_enough limit (count_by test (take n lines)) ≡ false

-- the reason, if any, why a text was not read on: a read failed with this error, or the text is too long
abbrev pub CannotRead : Option ErrorKind → Type 0 → Option ErrorKind → Type 0
CannotRead failure IsTooLong None = ⊤
CannotRead failure IsTooLong (Some error) = (failure ≡ Some error) ⊎ (IsTooLong × (error ≡ kind.FileTooLarge))

-- the fault is a reason why a scan fails: there was no memory for a line, or a write failed
abbrev pub StopsScan : Option ErrorKind → Option ErrorKind → Fault → Type 0
StopsScan read_failure write_failure fault =
    (IsReadFault read_failure fault × (fault ≡ OutOfMemory)) ⊎ IsWriteFault write_failure fault

-- whether a line is selected: a pattern has an allowed occurrence in it, or with `-v` none does
abbrev pub counts : SearchValue → Options → List ℕ → Bool
counts search options line =
    if options.others then not (one_asked search options line) else one_asked search options line

-- the bytes that turn on the colour with this code, if colours are requested
abbrev pub color_on : Options → List ℕ → List ℕ
color_on options color =
    if is_colored options then 27 ∷ codes "[" ++ color ++ codes "m" ++ 27 ∷ codes "[K" else []

-- the bytes that turn the colour off, if colours are requested
abbrev pub color_off : Options → List ℕ
color_off options = if is_colored options then 27 ∷ codes "[m" ++ 27 ∷ codes "[K" else []

-- bytes printed in a colour, if colours are requested
abbrev pub in_color : Options → List ℕ → List ℕ → List ℕ
in_color options color bytes = color_on options color ++ bytes ++ color_off options

-- a colon, or for a context line a dash, in cyan
abbrev pub printed_colon : Options → List ℕ
printed_colon options = in_color options (codes "36") (if options.dashed then codes "-" else codes ":")

-- what is printed for a match in a line: the match, a byte for each of its bytes, or the number of its word, from 1
abbrev pub shown_match : Shown → List ℕ → MatchValue → List ℕ
shown_match shown.Match line found = slice_range line found.start found.end
shown_match (shown.Mask byte) line found = replicate (found.end - found.start) byte
shown_match shown.Number line found = decimal (found.pattern + 1)

-- the same, in bold red
abbrev pub printed_match : Options → List ℕ → MatchValue → List ℕ
printed_match options line found = in_color options (codes "01;31") (shown_match options.shown line found)

-- a number, with spaces before it up to this width
abbrev pub padded_number : ℕ → ℕ → List ℕ
padded_number width number = repeat (width - length (decimal number)) (codes " ") ++ decimal number

-- a number, in green, and a colon
abbrev pub printed_number : Options → ℕ → List ℕ
printed_number options number =
    in_color options (codes "32") (padded_number options.width number) ++ printed_colon options

-- the prefix with the name of a file: the name, in magenta, and a colon, or with `-Z` a zero byte. It is empty if names
-- are not requested
abbrev pub printed_name : Options → List ℕ → List ℕ
printed_name options name =
    if unwrap_or options.named false then
    in_color options (codes "35") name ++ (if options.zero then 0 ∷ [] else printed_colon options)
    else []

-- a name on a line of its own, in magenta. With `-Z` a zero byte replaces the line feed
abbrev pub printed_name_alone : Options → List ℕ → List ℕ
printed_name_alone options name = in_color options (codes "35") name ++ (if options.zero then 0 ∷ [] else 10 ∷ [])

-- whether the file name, the line number or the offset is requested
abbrev pub has_head : Options → Bool
has_head options = unwrap_or options.named false || options.numbers || options.offsets

-- with `-T`, a tab before a line or match that is not empty, if any of these is requested
abbrev pub printed_tab : Options → List ℕ → List ℕ
printed_tab options bytes =
    if options.tab && has_head options && nat_lt 0 (length bytes) then codes "\t" else []

-- what is before the tab: file name, line number and offset in the text, in bytes, each if requested, and each with a
-- colon after it
abbrev pub printed_front : Options → List ℕ → ℕ → ℕ → List ℕ
printed_front options name number offset =
    printed_name options name ++ (if options.numbers then printed_number options number else [])
    ++ (if options.offsets then printed_number options offset else [])

-- the prefix of a line or match with these bytes, also with the tab
abbrev pub printed_head : Options → List ℕ → ℕ → ℕ → List ℕ → List ℕ
printed_head options name number offset bytes = printed_front options name number offset ++ printed_tab options bytes

-- a line or match with these bytes, as it is printed: the prefix, the bytes as they are shown, and the byte that
-- ends lines
abbrev pub printed_part : Options → List ℕ → ℕ → ℕ → List ℕ → List ℕ → List ℕ
printed_part options name number offset bytes shown =
    printed_head options name number offset bytes ++ with_end options.line_end shown

-- the matches in a line of this number, which begins at this offset of the text, as they are printed
abbrev pub printed_matches : Options → List ℕ → ℕ → ℕ → List ℕ → List MatchValue → List ℕ
printed_matches options name number offset line all =
    flat_map
    (λ found. printed_part options name number (offset + found.start) (slice_range line found.start found.end)
    (printed_match options line found))
    all

-- a line from an offset on, with these matches as they are printed
abbrev pub marked_from : Options → List ℕ → ℕ → List MatchValue → List ℕ
marked_from options line at [] = slice_range line at (length line)
marked_from options line at (found ∷ more) = slice_range line at found.start
    ++ printed_match options line found ++ marked_from options line found.end more

-- the output for a whole line: as it is, or with its matches as they are printed
abbrev pub PrintsWhole : Bool → SearchValue → Options → List ℕ → ℕ → ℕ → List ℕ → List ℕ → Type 0
PrintsWhole false search options name number offset line out = out ≡ printed_part options name number offset line line
PrintsWhole true search options name number offset line out = (all : List MatchValue)
    × AreMatches search options line 0 all
    × (out ≡ printed_part options name number offset line (marked_from options line 0 all))

-- the output for a selected line: the whole line, or its matches
abbrev pub PrintsFound : Bool → SearchValue → Options → List ℕ → ℕ → ℕ → List ℕ → List ℕ → Type 0
PrintsFound false search options name number offset line out =
    PrintsWhole (is_marked options) search options name number offset line out
PrintsFound true search options name number offset line out = (all : List MatchValue)
    × AreMatches search options line 0 all
    × (out ≡ printed_matches options name number offset line all)

-- the output for a line, by whether it is selected
abbrev pub PrintsLine : Bool → SearchValue → Options → List ℕ → ℕ → ℕ → List ℕ → List ℕ → Type 0
PrintsLine false search options name number offset line out = out ≡ []
PrintsLine true search options name number offset line out =
    PrintsFound options.only search options name number offset line out

-- the output for consecutive lines. The first has this number and begins at this offset
abbrev pub PrintsLines : SearchValue → Options → List ℕ → ℕ → ℕ → List (List ℕ) → List ℕ → Type 0
PrintsLines search options name number offset [] out = out ≡ []
PrintsLines search options name number offset (line ∷ more) out = (first rest : List ℕ)
    × PrintsLine (counts search options line) search options name number offset line first
    × PrintsLines search options name (number + 1) (offset + length line + 1) more rest × (out ≡ first ++ rest)

-- the output for consecutive lines; nothing if only their number, file names, or nothing is requested
abbrev pub PrintsUnlessSilent : Bool → SearchValue → Options → List ℕ → ℕ → ℕ → List (List ℕ) → List ℕ → Type 0
PrintsUnlessSilent true search options name number offset lines out = out ≡ []
PrintsUnlessSilent false search options name number offset lines out =
    PrintsLines search options name number offset lines out

-- a file name on a line: with `-l` if a line of the file is selected, with `-L` if none is
abbrev pub printed_listed : Bool → Options → List ℕ → ℕ → List ℕ
printed_listed true options name count =
    if nat_lt 0 count then printed_name_alone options name else []
printed_listed false options name count =
    if nat_lt 0 count then [] else printed_name_alone options name

-- the output after the lines of a file in which this many are selected: nothing, the file name, or this number
abbrev pub printed_behind : Option Bool → Options → List ℕ → ℕ → List ℕ
printed_behind (Some found) options name count = if options.quiet then [] else printed_listed found options name count
printed_behind None options name count =
    if options.count && not options.quiet then printed_name options name ++ with_feed (decimal count) else []
