-- The lines around selected lines, and how both are printed in groups.
use Rattle.std.specs.Prelude.{◌≡◌, ℕ, ◌+◌, ◌-◌, ◌++◌, ◌&&◌, ◌||◌, Bool, true, false, List, [], ◌∷◌, codes, length, map}
use Rattle.std.specs.Prelude.{if◌then◌else◌, not, slice_index_or, unwrap_or}
use Rattle.std.specs.List.{list_any, range_with_len, slice_range}
use Rattle.std.specs.Option.{is_some}
use Rattle.literal_search.specs.SearchValue.{SearchValue}
use Rattle.litscan.specs.Lines.{with_feed}
use Rattle.litscan.specs.Options.{is_enough, is_replaced, is_silent, limit_of}
use Rattle.litscan.specs.Printed.{PrintsFound, PrintsWhole, in_color}
use Rattle.litscan.specs.declared.options.Options.{Options}

-- whether lines around selected lines are requested, and lines are printed
abbrev pub has_context : Options → Bool
has_context options =
    not (is_silent options) && (is_some options.before || is_some options.after || is_some options.around)

-- how many lines are printed before a selected line
abbrev pub lines_before : Options → ℕ
lines_before options = unwrap_or options.before (unwrap_or options.around 0)

-- how many lines are printed after a selected line; 0 if none may be selected
abbrev pub lines_after : Options → ℕ
lines_after options =
    if is_enough (limit_of options) 0 then 0 else unwrap_or options.after (unwrap_or options.around 0)

-- how many lines are read at most after the line with which enough are selected
abbrev pub lines_behind : Options → ℕ
lines_behind options = if has_context options then lines_after options else 0

-- how a line is printed: as a selected one, as one near such a line, or not at all
pub data Mark : Type 0 where
  counted : Mark
  near : Mark
  left_out : Mark

-- the mark of a line, by whether it is selected, and whether it is near a selected line
abbrev pub mark_by : Bool → Bool → Mark
mark_by true is_near = counted
mark_by false true = near
mark_by false false = left_out

-- the mark of the line at an index, by which lines are selected: it is near a selected line if one is among the `after`
-- lines before it or the `before` lines after it
abbrev pub mark_at : ℕ → ℕ → List Bool → ℕ → Mark
mark_at before after counting at =
    mark_by (slice_index_or counting at false)
    (list_any (λ counts. counts) (slice_range counting (at - after) (at + before + 1)))

-- the marks of all lines
abbrev pub marks_of : ℕ → ℕ → List Bool → List Mark
marks_of before after counting = map (mark_at before after counting) (range_with_len 0 (length counting))

-- whether a line with this mark is printed
abbrev pub is_printed : Mark → Bool
is_printed left_out = false
is_printed _ = true

-- the options for a context line: a dash instead of each colon
abbrev pub as_context : Options → Options
as_context options = record options { dashed = true }

-- the output for a line near a selected one, if the lines with a word are selected: nothing with `-o`, or else the
-- line, in which matches are masked too
abbrev pub PrintsBeside : Bool → SearchValue → Options → List ℕ → ℕ → ℕ → List ℕ → List ℕ → Type 0
PrintsBeside true search options name number offset line out = out ≡ []
PrintsBeside false search options name number offset line out =
    PrintsWhole (is_replaced options.shown) search (as_context options) name number offset line out

-- the output for a line near a selected one. With `-o` it has matches to print only if the lines without a word are
-- selected
abbrev pub PrintsNear : Bool → SearchValue → Options → List ℕ → ℕ → ℕ → List ℕ → List ℕ → Type 0
PrintsNear true search options name number offset line out =
    PrintsFound options.only search (as_context options) name number offset line out
PrintsNear false search options name number offset line out =
    PrintsBeside options.only search options name number offset line out

-- the output for a line with a mark
abbrev pub PrintsMarked : Mark → SearchValue → Options → List ℕ → ℕ → ℕ → List ℕ → List ℕ → Type 0
PrintsMarked counted search options name number offset line out =
    PrintsFound options.only search options name number offset line out
PrintsMarked near search options name number offset line out =
    PrintsNear options.others search options name number offset line out
PrintsMarked left_out search options name number offset line out = out ≡ []

-- a group separator on a line of its own, in cyan; nothing if separators are off
abbrev pub printed_separator : Options → List ℕ → List ℕ
printed_separator options separator =
    if options.separated then with_feed (in_color options (codes "36") separator) else []

-- the output before a line with this mark: a separator if the line is printed, the line before it was not, or is in
-- another file, and any line was printed before
abbrev pub printed_between : Options → List ℕ → Bool → Bool → Mark → List ℕ
printed_between options separator any apart left_out = []
printed_between options separator any apart _ = if any && apart then printed_separator options separator else []

-- the output for consecutive lines with these marks. The first has this number and begins at this offset. `any` says
-- whether any line was printed before, and `apart` whether the line before the first was not
abbrev pub PrintsGroups : SearchValue → Options → List ℕ → List ℕ → Bool → Bool → ℕ → ℕ → List (List ℕ)
    → List Mark → List ℕ → Type 0
PrintsGroups search options separator name any apart number offset [] marks out = out ≡ []
PrintsGroups search options separator name any apart number offset (line ∷ more) [] out = ⊥
PrintsGroups search options separator name any apart number offset (line ∷ more) (mark ∷ marks) out =
    (first rest : List ℕ) × PrintsMarked mark search options name number offset line first
    × PrintsGroups search options separator name (any || is_printed mark) (not (is_printed mark)) (number + 1)
    (offset + length line + 1) more marks rest
    × (out ≡ printed_between options separator any apart mark ++ (first ++ rest))
