-- The state of a scan between two lines, from which groups of lines are printed.
use Rattle.std.specs.Prelude.{◌≡◌, ◌≤◌, ◌<◌, ℕ, ◌+◌, ◌-◌, ◌^◌, ◌++◌, ◌||◌, Bool, true, false, List, [], ◌∷◌, length}
use Rattle.std.specs.Prelude.{map}
use Rattle.std.specs.Prelude.{if◌then◌else◌, nat_lt, take}
use Rattle.std.specs.List.{flat_map, list_any}
use Rattle.literal_search.specs.SearchValue.{SearchValue}
use Rattle.litscan.specs.Context.{Mark, PrintsGroups, lines_after, lines_before, mark_by}
use Rattle.litscan.specs.Inside.Passed.{ArePassed}
use Rattle.litscan.specs.Lines.{with_end, with_feed}
use Rattle.litscan.specs.declared.context.Context.{Context}
use Rattle.litscan.specs.declared.options.Options.{Options}
use Rattle.litscan.specs.declared.passed.Passed.{Passed}

-- the held lines
abbrev pub held_of : Context → List (List ℕ)
held_of context = map (λ line. line.items) context.held.items

-- for each line, that it is not selected
abbrev pub none_count : List (List ℕ) → List Bool
none_count lines = map (λ line. false) lines

-- the marks of lines by whether each is selected, if the first `due` lines are near a line before them
abbrev pub marks_from : ℕ → ℕ → ℕ → List Bool → List Mark
marks_from before after due [] = []
marks_from before after due (counts ∷ more) =
    mark_by counts (nat_lt 0 due || list_any (λ one. one) (take before more))
    ∷ marks_from before after (if counts then after else due - 1) more

-- the output for the held lines and more lines
abbrev pub PrintsFrom : SearchValue → Options → List ℕ → List ℕ → Context → List (List ℕ) → List Bool → List ℕ
    → Type 0
PrintsFrom search options separator name context lines counting out =
    PrintsGroups search options separator name context.any context.apart context.number context.offset
    (held_of context ++ lines)
    (marks_from (lines_before options) (lines_after options) context.due (none_count (held_of context) ++ counting)) out

-- the output from the old state on, with one more line, is `out` and then the output from the new state on
abbrev pub GoesOn : SearchValue → Options → List ℕ → List ℕ → Context → Context → List ℕ → Bool → List ℕ → Type 0
GoesOn search options separator name old new line counts out =
    (lines : List (List ℕ)) (counting : List Bool) (rest : List ℕ)
    → PrintsFrom search options separator name new lines counting rest
    → PrintsFrom search options separator name old (line ∷ lines) (counts ∷ counting) (out ++ rest)

-- the number of the next line
abbrev pub next_number : Context → ℕ
next_number context = context.number + length (held_of context)

-- the offset of the next line
abbrev pub next_offset : Context → ℕ
next_offset context = context.offset + length (flat_map with_feed (held_of context))

-- at most the lines that may be printed are held, and none if the next line is printed in any case
pub record IsWell (options : Options) (context : Context) : Type 0 where
  pub few : length (held_of context) ≤ lines_before options
  pub none : 0 < context.due → held_of context ≡ []
  pub any : 0 < context.due → context.any ≡ true
  pub together : 0 < context.due → context.apart ≡ false

-- the new state is that after one more line
pub record Follows (options : Options) (old new : Context) (line : List ℕ) : Type 0 where
  pub well : IsWell options new
  pub number_is : next_number new ≡ next_number old + 1
  pub offset_is : next_offset new ≡ next_offset old + length line + 1

-- lines that are not selected were passed over: the output from the old state on, with these lines, is that from the
-- new state on
pub record PassesOver (options : Options) (old new : Context) (lines : List (List ℕ)) : Type 0 where
  pub goes_on : (search : SearchValue) (separator name : List ℕ) (more : List (List ℕ)) (counting : List Bool)
      (rest : List ℕ) → PrintsFrom search options separator name new more counting rest
      → PrintsFrom search options separator name old (lines ++ more) (none_count lines ++ counting) rest
  pub well : IsWell options new
  pub number_is : next_number new ≡ next_number old + length lines
  pub offset_is : next_offset new ≡ next_offset old + length (flat_map with_feed lines)
  pub due_is : new.due ≡ old.due

-- lines without a word were passed over, which begin at this offset of the text and have so many bytes. If there are
-- any, such lines are not selected, and none is due
pub record PassesAhead (search : SearchValue) (options : Options) (offset : ℕ) (old new : Context) (passed : Passed)
    (lines : List (List ℕ)) : Type 0 where
  pub are : ArePassed options.line_end search options lines
  pub bytes : passed.bytes ≡ length (flat_map (with_end options.line_end) lines)
  pub small : offset + passed.bytes < 2 ^ 64
  pub unselected : 0 < length lines → (options.others ≡ false) × (old.due ≡ 0)
  pub over : PassesOver options old new lines
