-- The choice of the files to search.
use Rattle.std.specs.Prelude.{◌≡◌, ◌||◌, ⊤, Bool, List, [], ◌∷◌, Option, Some, false, length, nat_lt, not, true}
use Rattle.std.specs.List.{All}
use Rattle.litscan.specs.declared.names.Rule.{Rule}
use Rattle.litscan.specs.declared.names.Rule.TheVariants.{Exclude, ExcludeFrom}
use Rattle.litscan.specs.declared.options.Folders.{Folders}
use Rattle.litscan.specs.declared.options.Folders.TheVariants as folders
use Rattle.litscan.specs.declared.options.Options.{Options}
use Rattle.litscan.specs.Request.{ChoiceValue}

-- whether directories are read as files
abbrev pub are_read : Folders → Bool
are_read folders.Read = true
are_read _ = false

-- whether devices are skipped
abbrev pub are_skipped : Option Bool → Bool
are_skipped (Some false) = true
are_skipped _ = false

-- whether the files to search may differ from the named ones
abbrev pub are_chosen : Options → List ChoiceValue → Bool
are_chosen options choices =
    not (are_read options.folders) || are_skipped options.devices || nat_lt 0 (length choices)

-- whether an option is `--exclude-from`, which names a file of patterns
abbrev pub is_from : Rule → Bool
is_from ExcludeFrom = true
is_from _ = false

-- a choice is by `--exclude`
abbrev pub Excludes : ChoiceValue → Type 0
Excludes choice = choice.rule ≡ Exclude

-- an `--exclude-from` becomes any number of `--exclude`; every other choice is kept
abbrev pub IsReplaced : Bool → ChoiceValue → List ChoiceValue → Type 0
IsReplaced true choice part = All Excludes part
IsReplaced false choice part = part ≡ choice ∷ []

-- each choice is replaced by one of these parts
abbrev pub AreReplaced : List ChoiceValue → List (List ChoiceValue) → Type 0
AreReplaced [] [] = ⊤
AreReplaced (choice ∷ others) (part ∷ more) = IsReplaced (is_from choice.rule) choice part × AreReplaced others more
AreReplaced _ _ = ⊥
