-- The output for files, and the messages for those that cannot be read.
use Rattle.std.specs.Prelude.{◌≡◌, ◌≢◌, ◌⊎◌, ℕ, ◌==◌, ◌&&◌, ◌||◌, ◌++◌, Bool, List, [], ◌∷◌, Option, Some, None, codes}
use Rattle.std.specs.Prelude.{true, ⊤, false, if◌then◌else◌, length, map, nat_lt, not, slice_index}
use Rattle.std.specs.List.{list_any}
use Rattle.std.specs.Option.{IsSome, is_some}
use Rattle.std.specs.declared.io.ErrorKind.{ErrorKind}
use Rattle.std.specs.declared.io.ErrorKind.TheVariants as kind
use Rattle.literal_search.specs.SearchValue.{SearchValue}
use Rattle.litscan.specs.Options.{AreForFile}
use Rattle.litscan.specs.Scans.{Scans}
use Rattle.litscan.specs.declared.files.Found.{Found}
use Rattle.litscan.specs.declared.input.FileId.{FileId}
use Rattle.litscan.specs.declared.options.Options.{Options}
use Rattle.litscan.specs.declared.selected.Scanned.{Scanned}

-- whether this is the name of standard input, a dash
abbrev pub is_input : List ℕ → Bool
is_input name = (length name == 1) && (slice_index name 0 == 45)

-- the name of a file as it is printed: for standard input, this label
abbrev pub input_name : List ℕ → List ℕ → List ℕ
input_name label name = if is_input name then label else name

-- the output for a file of this name, with the text read from it, if it was searched, and the result of its scan. The
-- output uses this file's own options (the width of numbers).
-- Standard input needs no opening: it is searched unless there is an output file, and the failure says that this is it
abbrev pub PrintsFile : SearchValue → Options → List ℕ → List ℕ → Bool → Option FileId → List ℕ → Option (List ℕ)
    → Scanned → List ℕ → Type 0
PrintsFile search options separator label any output name None scanned out =
    ((is_input name ≡ false) ⊎ (IsSome output × (scanned.failure ≡ Some kind.Deadlock))) × (out ≡ [])
    × (scanned.count ≡ 0) × IsSome scanned.failure
PrintsFile search options separator label any output name (Some text) scanned out =
    (own : Options) × AreForFile options own × Scans search own separator any (input_name label name) text scanned out

-- a requested file: its name, the text read from it if it was searched, the result of its scan, and the output
pub record Searched : Type 0 where
  pub name : List ℕ
  pub text : Option (List ℕ)
  pub scanned : Scanned
  pub out : List ℕ

-- the output for files in turn, by whether a line of an earlier file is selected
abbrev pub PrintsFiles : SearchValue → Options → List ℕ → List ℕ → Option FileId → Bool → List Searched → Type 0
PrintsFiles search options separator label output any [] = ⊤
PrintsFiles search options separator label output any (one ∷ more) =
    PrintsFile search options separator label any output one.name one.text one.scanned one.out
    × PrintsFiles search options separator label output (any || nat_lt 0 one.scanned.count) more

-- these files, the first ones of these names, were searched in turn, with this result. Names are left only if one file
-- was enough
pub record AreSearched (search : SearchValue) (options : Options) (separator label : List ℕ) (output : Option FileId)
    (names : List (List ℕ)) (found : Found) (all : List Searched) : Type 0 where
  pub others : List (List ℕ)
  pub names_are : names ≡ map (λ one. one.name) all ++ others
  pub enough : others ≢ [] → (options.quiet && found.any) ≡ true
  pub each : PrintsFiles search options separator label output false all
  pub any : found.any ≡ list_any (λ one. nat_lt 0 one.scanned.count) all
  pub failed : found.failed ≡ list_any (λ one. is_some one.scanned.failure) all

-- the exit status: 0 if a line is selected, 1 if none is, and 2 if a file could not be read. With `quiet`, a selected
-- line gives 0 even then
abbrev pub status_for : Bool → Found → ℕ
status_for quiet found =
    if found.any && (quiet || not found.failed) then 0 else if found.failed then 2 else 1

-- the message for an error of this kind
abbrev pub cause_text : ErrorKind → List ℕ
cause_text kind.NotFound = codes "No such file or directory"
cause_text kind.PermissionDenied = codes "Permission denied"
cause_text kind.IsADirectory = codes "Is a directory"
cause_text kind.NotADirectory = codes "Not a directory"
cause_text kind.InvalidFilename = codes "File name too long"
cause_text kind.FilesystemLoop = codes "Too many levels of symbolic links"
cause_text kind.FileTooLarge = codes "File too large"
cause_text kind.InvalidData = codes "the name is not UTF-8"
cause_text kind.Deadlock = codes "input file is also the output"
cause_text _ = codes "cannot be read"
