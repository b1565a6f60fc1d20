-- The long names of options, which may be shortened.
use Rattle.std.specs.Prelude.{ℕ, ◌&&◌, ◌||◌, Bool, true, false, List, [], ◌∷◌, Option, Some, None, Result, Ok, Err}
use Rattle.std.specs.Prelude.{codes, if◌then◌else◌, length, nat_le, take}
use Rattle.std.specs.Str.{bytes_eq}
use denote.Bor.{Bor}
use Rattle.litscan.specs.declared.fault.Fault.{Fault}
use Rattle.litscan.specs.declared.fault.Fault.TheVariants.{Ambiguous, UnknownName}
use Rattle.litscan.specs.declared.names.Long.{Long}
use Rattle.litscan.specs.declared.names.Long.TheVariants as long
use Rattle.litscan.specs.declared.names.Rule.TheVariants.{Exclude, ExcludeFolder, ExcludeFrom, Include}
use Rattle.litscan.specs.declared.names.Setting.TheVariants.{BinaryFiles, Label, Mask, Rule, Separator}
use Rattle.litscan.specs.declared.names.Switch.TheVariants.{Crlf, LineBuffered, MindCase, NoSeparator}
use Rattle.litscan.specs.declared.names.Switch.TheVariants.{SkipBlank, WhichWord}

-- a long name and its option, as contracts see them
pub record NamedValue : Type 0 where
  pub name : List ℕ
  pub option : Long

-- an entry of the table of names, as contracts see it
abbrev pub value_of_named : Bor (List ℕ) × Long → NamedValue
value_of_named named = record { name = named.0.now; option = named.1 }

-- the long names, in the order in which a message lists them
unfoldable pub long_names : List NamedValue
long_names =
    record { name = codes "--fixed-strings"; option = long.Letter 70 }
    ∷ record { name = codes "--after-context"; option = long.Letter 65 }
    ∷ record { name = codes "--before-context"; option = long.Letter 66 }
    ∷ record { name = codes "--binary-files"; option = long.Setting BinaryFiles }
    ∷ record { name = codes "--byte-offset"; option = long.Letter 98 }
    ∷ record { name = codes "--context"; option = long.Letter 67 }
    ∷ record { name = codes "--color"; option = long.Color }
    ∷ record { name = codes "--colour"; option = long.Color }
    ∷ record { name = codes "--count"; option = long.Letter 99 }
    ∷ record { name = codes "--crlf"; option = long.Switch Crlf }
    ∷ record { name = codes "--devices"; option = long.Letter 68 }
    ∷ record { name = codes "--directories"; option = long.Letter 100 }
    ∷ record { name = codes "--exclude"; option = long.Setting (Rule Exclude) }
    ∷ record { name = codes "--exclude-from"; option = long.Setting (Rule ExcludeFrom) }
    ∷ record { name = codes "--exclude-dir"; option = long.Setting (Rule ExcludeFolder) }
    ∷ record { name = codes "--file"; option = long.Letter 102 }
    ∷ record { name = codes "--files-with-matches"; option = long.Letter 108 }
    ∷ record { name = codes "--files-without-match"; option = long.Letter 76 }
    ∷ record { name = codes "--group-separator"; option = long.Setting Separator }
    ∷ record { name = codes "--help"; option = long.Letter 63 }
    ∷ record { name = codes "--include"; option = long.Setting (Rule Include) }
    ∷ record { name = codes "--ignore-case"; option = long.Letter 105 }
    ∷ record { name = codes "--no-ignore-case"; option = long.Switch MindCase }
    ∷ record { name = codes "--initial-tab"; option = long.Letter 84 }
    ∷ record { name = codes "--label"; option = long.Setting Label }
    ∷ record { name = codes "--line-buffered"; option = long.Switch LineBuffered }
    ∷ record { name = codes "--line-number"; option = long.Letter 110 }
    ∷ record { name = codes "--line-regexp"; option = long.Letter 120 }
    ∷ record { name = codes "--mask"; option = long.Setting Mask }
    ∷ record { name = codes "--max-count"; option = long.Letter 109 }
    ∷ record { name = codes "--no-filename"; option = long.Letter 104 }
    ∷ record { name = codes "--no-group-separator"; option = long.Switch NoSeparator }
    ∷ record { name = codes "--no-messages"; option = long.Letter 115 }
    ∷ record { name = codes "--null"; option = long.Letter 90 }
    ∷ record { name = codes "--null-data"; option = long.Letter 122 }
    ∷ record { name = codes "--only-matching"; option = long.Letter 111 }
    ∷ record { name = codes "--quiet"; option = long.Letter 113 }
    ∷ record { name = codes "--recursive"; option = long.Letter 114 }
    ∷ record { name = codes "--dereference-recursive"; option = long.Letter 82 }
    ∷ record { name = codes "--regexp"; option = long.Letter 101 }
    ∷ record { name = codes "--invert-match"; option = long.Letter 118 }
    ∷ record { name = codes "--silent"; option = long.Letter 113 }
    ∷ record { name = codes "--skip-blank"; option = long.Switch SkipBlank }
    ∷ record { name = codes "--text"; option = long.Letter 97 }
    ∷ record { name = codes "--binary"; option = long.Letter 85 }
    ∷ record { name = codes "--unix-byte-offsets"; option = long.Letter 117 }
    ∷ record { name = codes "--version"; option = long.Letter 86 }
    ∷ record { name = codes "--which-word"; option = long.Switch WhichWord }
    ∷ record { name = codes "--with-filename"; option = long.Letter 72 }
    ∷ record { name = codes "--word-regexp"; option = long.Letter 119 }
    ∷ []

-- whether a name begins with these bytes
abbrev pub begins : List ℕ → List ℕ → Bool
begins name start = nat_le (length start) (length name) && bytes_eq (take (length start) name) start

-- the option in a table with exactly this name
abbrev pub named_in : List NamedValue → List ℕ → Option Long
named_in [] name = None
named_in (entry ∷ more) name = if bytes_eq entry.name name then Some entry.option else named_in more name

-- whether the options of two names differ. Of names that begin alike, only those for colours have one option
abbrev pub is_other : Long → Long → Bool
is_other long.Color long.Color = false
is_other _ _ = true

-- whether a name in a table that begins with these bytes has another option
abbrev pub one_differs : Long → List ℕ → List NamedValue → Bool
one_differs option start [] = false
one_differs option start (entry ∷ more) =
    (begins entry.name start && is_other option entry.option) || one_differs option start more

-- the option in a table of the names that begin with these bytes, which need to have one option. The fault has the
-- index of the argument
abbrev pub shortened_in : ℕ → List ℕ → List NamedValue → Result Long Fault
shortened_in at start [] = Err (UnknownName at)
shortened_in at start (entry ∷ more) =
    if begins entry.name start then
    (if one_differs entry.option start more then Err (Ambiguous at) else Ok entry.option)
    else shortened_in at start more

-- the option with exactly a long name, or else that of the names which it begins
abbrev pub option_or_shortened : Option Long → ℕ → List ℕ → Result Long Fault
option_or_shortened (Some option) at name = Ok option
option_or_shortened None at name = shortened_in at name long_names

-- the option of a long name, which may be shortened
abbrev pub option_named : ℕ → List ℕ → Result Long Fault
option_named at name = option_or_shortened (named_in long_names name) at name
