-- Requests, as the arguments of a command line give them.
use Rattle.std.specs.Prelude.{◌≡◌, ◌⊎◌, ◌<◌, ℕ, ◌+◌, ◌==◌, ◌&&◌, ◌||◌, Bool, List, [], ◌∷◌, ◌++◌, drop, length}
use Rattle.std.specs.Prelude.{Option, Some, None, Result, Ok, Err, codes, if◌then◌else◌, map, nat_lt, slice_index}
use Rattle.std.specs.Prelude.{false, take, true, unwrap_or}
use Rattle.std.specs.List.{position}
use Rattle.std.specs.Option.{ok_or, option_map}
use Rattle.std.specs.Result.{IsOk}
use Rattle.std.specs.Str.{bytes_eq}
use Rattle.litscan.specs.declared.fault.Fault.{Fault}
use Rattle.litscan.specs.declared.fault.Fault.TheVariants.{OutOfMemory, UnknownLetter, Usage}
use Rattle.litscan.specs.declared.names.Long.{Long}
use Rattle.litscan.specs.declared.names.Long.TheVariants as long
use Rattle.litscan.specs.declared.options.Color.{Color}
use Rattle.litscan.specs.declared.options.Color.TheVariants.{Auto}
use Rattle.litscan.specs.declared.options.Options.{Options}
use Rattle.litscan.specs.declared.request.Next.{Next}
use Rattle.litscan.specs.declared.request.Next.TheVariants.{Any, Argument}
use Rattle.litscan.specs.declared.request.Next.TheVariants as next
use Rattle.litscan.specs.declared.request.Request.{Request}
use Rattle.litscan.specs.declared.request.Source.{Source}
use Rattle.litscan.specs.declared.request.Source.TheVariants as source
use Rattle.litscan.specs.declared.names.Rule.{Rule}
use Rattle.litscan.specs.declared.names.Setting.{Setting}
use Rattle.litscan.specs.declared.names.Setting.TheVariants as setting
use Rattle.litscan.specs.declared.request.Choice.{Choice}
use Rattle.litscan.specs.Names.{option_named}
use Rattle.litscan.specs.Options.{behind_number, color_named, is_walking, no_options, number_of}
use Rattle.litscan.specs.Options.{takes_action, takes_argument, takes_number, with_action}
use Rattle.litscan.specs.Options.{with_binary_files, with_letter, with_mask, with_number, with_switch}

-- a source of words, as contracts see it: the lines of some bytes, or of a file of this name
pub data SourceValue : Type 0 where
  words_in : List ℕ → SourceValue
  words_of_file : List ℕ → SourceValue

-- a source, as contracts see it
abbrev pub value_of_source : Source → SourceValue
value_of_source (source.Words bytes) = words_in bytes.items
value_of_source (source.File name) = words_of_file name.items

-- a choice of files or directories, as contracts see it: the option, and the pattern for the names
pub record ChoiceValue : Type 0 where
  pub rule : Rule
  pub glob : List ℕ

-- a choice, as contracts see it
abbrev pub value_of_choice : Choice → ChoiceValue
value_of_choice choice = record { rule = choice.rule; glob = choice.glob.items }

-- a `Request` as contracts see it: the options, the sources of words, the file names as bytes, the choices of files,
-- the separator of groups, the name of standard input, the kind of the next argument, and the index of the argument
-- being read
pub record RequestValue : Type 0 where
  pub options : Options
  pub sources : List SourceValue
  pub files : List (List ℕ)
  pub choices : List ChoiceValue
  pub separator : Option (List ℕ)
  pub label : Option (List ℕ)
  pub next : Next
  pub at : ℕ

-- a request, as contracts see it
abbrev pub value_of_request : Request → RequestValue
value_of_request request = record {
  options = request.options;
  sources = map value_of_source request.sources.items;
  files = map (λ name. name.items) request.files.items;
  choices = map value_of_choice request.choices.items;
  separator = option_map (λ separator. separator.items) request.separator;
  label = option_map (λ label. label.items) request.label;
  next = request.next;
  at = request.at;
}

-- the request without any argument
abbrev pub no_request : RequestValue
no_request = record {
  options = no_options;
  sources = [];
  files = [];
  choices = [];
  separator = None;
  label = None;
  next = Any;
  at = 0;
}

-- the request with one more source of words
abbrev pub with_source : SourceValue → RequestValue → RequestValue
with_source source request = record request { sources = request.sources ++ source ∷ [] }

-- the request with one more file
abbrev pub with_file : List ℕ → RequestValue → RequestValue
with_file name request = record request { files = request.files ++ name ∷ [] }

-- the request with one more choice of files
abbrev pub with_choice : ChoiceValue → RequestValue → RequestValue
with_choice choice request = record request { choices = request.choices ++ choice ∷ [] }

-- a request, or the fault of the arguments
abbrev pub Asked : Type 0
Asked = Result RequestValue Fault

-- the next step for a value, or the fault before it
abbrev pub result_and_then : {T : Type 0} → (T → Asked) → Result T Fault → Asked
result_and_then next (Ok value) = next value
result_and_then next (Err fault) = Err fault

-- the request with the option of this letter set to a number
abbrev pub with_number_of : ℕ → RequestValue → ℕ → Asked
with_number_of letter request number = Ok (record request { options = with_number letter request.options number })

-- the request with these options, which are None if the argument of an option is wrong
abbrev pub with_checked : RequestValue → Option Options → Asked
with_checked request options =
    result_and_then (λ options. Ok (record request { options = options })) (ok_or options Usage)

-- the request with the argument of the option of this letter: a number of lines, an action, for `e` words, or for `f`
-- the name of a file of words. The number and the action have to be valid
abbrev pub with_argument : ℕ → List ℕ → RequestValue → Asked
with_argument letter argument request =
    if takes_number letter then result_and_then (with_number_of letter request) (ok_or (number_of argument) Usage)
    else if takes_action letter then with_checked request (with_action letter request.options argument)
    else if letter == 101 then Ok (with_source (words_in argument) request)
    else Ok (with_source (words_of_file argument) request)

-- the request with an option of this letter, followed by these bytes: its argument, or if there are none, its argument
-- is the next one of the command line
abbrev pub with_behind : ℕ → List ℕ → RequestValue → Asked
with_behind letter [] request = Ok (record request { next = Argument letter })
with_behind letter (byte ∷ more) request = with_argument letter (byte ∷ more) request

-- the request with the options of these letters. Each has to be an option. The first that takes an argument is the last
-- letter
abbrev pub with_letters : List ℕ → RequestValue → Asked
with_letters [] request = Ok request
with_letters (letter ∷ more) request =
    if takes_argument letter then with_behind letter more request
    else result_and_then (λ options. with_letters more (record request { options = options }))
    (ok_or (with_letter request.options letter) (UnknownLetter letter))

-- an equals sign
abbrev pub is_equals : ℕ → Bool
is_equals byte = byte == 61

-- the request with this value of the colour option
abbrev pub with_color : Color → RequestValue → RequestValue
with_color color request = record request { options = record request.options { color = color } }

-- the request with this separator between groups of lines
abbrev pub with_separator : List ℕ → RequestValue → RequestValue
with_separator separator request =
    record request { options = record request.options { separated = true }; separator = Some separator }

-- the request with this name of standard input
abbrev pub with_label : List ℕ → RequestValue → RequestValue
with_label label request = record request { label = Some label }

-- the request with the argument of an option without a letter: how files that are not text are handled, which has to be
-- valid, the name of standard input, the byte that masks matches, the separator of groups, or a choice of files
abbrev pub with_setting : Setting → List ℕ → RequestValue → Asked
with_setting setting.BinaryFiles kind request = with_checked request (with_binary_files request.options kind)
with_setting setting.Label label request = Ok (with_label label request)
with_setting setting.Mask mask request = with_checked request (with_mask request.options mask)
with_setting setting.Separator separator request = Ok (with_separator separator request)
with_setting (setting.Rule rule) glob request =
    Ok (with_choice (record { rule = rule; glob = glob }) request)

-- the request with these options
abbrev pub with_options : RequestValue → Options → RequestValue
with_options request options = record request { options = options }

-- the request with a long option that has no argument after an equals sign. If it takes one and has no letter, the
-- next argument is its own
abbrev pub with_option : Long → RequestValue → Asked
with_option long.Color request = Ok (with_color Auto request)
with_option (long.Letter letter) request = with_letters (letter ∷ []) request
with_option (long.Setting setting) request = Ok (record request { next = next.Setting setting })
with_option (long.Switch switch) request = Ok (with_options request (with_switch switch request.options))

-- the request with a long option and its argument. It has to take one
abbrev pub with_option_set : Long → List ℕ → RequestValue → Asked
with_option_set long.Color argument request =
    result_and_then (λ color. Ok (with_color color request)) (ok_or (color_named argument) Usage)
with_option_set (long.Letter letter) argument request =
    if takes_argument letter then with_argument letter argument request else Err Usage
with_option_set (long.Setting setting) argument request = with_setting setting argument request
with_option_set (long.Switch switch) argument request = Err Usage

-- the request with the option of a long name, without an argument after an equals sign
abbrev pub with_name : List ℕ → RequestValue → Asked
with_name name request = result_and_then (λ option. with_option option request) (option_named request.at name)

-- the request with the option of a long name, and its argument
abbrev pub with_named : List ℕ → List ℕ → RequestValue → Asked
with_named name argument request =
    result_and_then (λ option. with_option_set option argument request) (option_named request.at name)

-- the request with a long option, and if there is an equals sign, at this index, its argument after it
abbrev pub with_split : Option ℕ → List ℕ → RequestValue → Asked
with_split None word request = with_name word request
with_split (Some at) word request = with_named (take at word) (drop (at + 1) word) request

-- the request with a long option, with or without an equals sign and its argument
abbrev pub with_long : List ℕ → RequestValue → Asked
with_long word request = with_split (position is_equals word) word request

-- whether an argument is an option: a dash, and at least one byte after it
abbrev pub is_option : List ℕ → Bool
is_option word = nat_lt 1 (length word) && (slice_index word 0 == 45)

-- whether an argument is a long option: it begins with two dashes
abbrev pub is_long : List ℕ → Bool
is_long word = nat_lt 1 (length word) && (slice_index word 0 == 45) && (slice_index word 1 == 45)

-- the request at the front of an argument, before any digit of it was read
abbrev pub at_front : RequestValue → RequestValue
at_front request = record request { options = behind_number request.options }

-- the request with an argument that may be an option or a file name; after two dashes there are only file names
abbrev pub with_any : List ℕ → RequestValue → Asked
with_any word request =
    if bytes_eq word (codes "--") then Ok (record request { next = next.File })
    else if is_long word then with_long word request
    else if is_option word then with_letters (drop 1 word) (at_front request)
    else Ok (with_file word request)

-- the request with one more argument, by its kind
abbrev pub with_next : Next → List ℕ → RequestValue → Asked
with_next Any word request = with_any word request
with_next (Argument letter) word request = with_argument letter word (record request { next = Any })
with_next (next.Setting setting) word request = with_setting setting word (record request { next = Any })
with_next next.File word request = Ok (with_file word request)

-- the request with one more argument
abbrev pub with_word : List ℕ → RequestValue → Asked
with_word word request = with_next request.next word request

-- the request with more arguments, of which the first has this index
abbrev pub asked_from : ℕ → List (List ℕ) → RequestValue → Asked
asked_from at [] request = Ok request
asked_from at (word ∷ more) request =
    result_and_then (asked_from (at + 1) more) (with_word word (record request { at = at }))

-- the request with words to search for: if no option gives any, the first file name does, and there has to be one
abbrev pub words_from : List SourceValue → List (List ℕ) → RequestValue → Asked
words_from [] [] request = Err Usage
words_from [] (first ∷ more) request = Ok (record request { sources = words_in first ∷ []; files = more })
words_from (source ∷ others) files request = Ok request

-- the request with words to search for, by its own sources and files
abbrev pub with_words : RequestValue → Asked
with_words request = words_from request.sources request.files request

-- the name of standard input, as it is printed
abbrev pub label_of : RequestValue → List ℕ
label_of request = unwrap_or request.label (codes "(standard input)")

-- the separator between groups of lines: by default, two dashes
abbrev pub separator_of : RequestValue → List ℕ
separator_of request = unwrap_or request.separator (codes "--")

-- the files, or standard input if there is none, unless directories are searched
abbrev pub or_input : Bool → List (List ℕ) → List (List ℕ)
or_input false [] = codes "-" ∷ []
or_input _ files = files

-- the request with files to search. By default, file names are printed if there are several
abbrev pub with_files : RequestValue → RequestValue
with_files request =
    let several = nat_lt 1 (length request.files) in
    let named = if several then Some (unwrap_or request.options.named true) else request.options.named in
    record request {
      options = record request.options { named = named };
      files = or_input (is_walking request.options.folders) request.files;
    }

-- the request after the last argument, by the kind of the next one, which may not be the argument of an option. There
-- have to be words to search for, unless only help or the version is requested
abbrev pub completed_at : Next → RequestValue → Asked
completed_at (Argument letter) request = Err Usage
completed_at (next.Setting setting) request = Err Usage
completed_at _ request =
    if request.options.help || request.options.version then Ok request
    else result_and_then (λ found. Ok (with_files found)) (with_words request)

-- the request after the last argument
abbrev pub completed : RequestValue → Asked
completed request = completed_at request.next request

-- the request of the arguments of a command line, or their fault
abbrev pub request_of : List (List ℕ) → Asked
request_of words = result_and_then completed (asked_from 0 words no_request)

-- the request becomes the expected one, or the answer is the expected fault. If none is expected, memory may be refused
abbrev pub Becomes : {T : Type 0} → Result T Fault → Asked → RequestValue → Type 0
Becomes (Ok done) asked new = asked ≡ Ok new
Becomes (Err fault) asked new = (asked ≡ Err fault) ⊎ ((fault ≡ OutOfMemory) × IsOk asked)

-- some of these arguments, from the first on and at least one, have no fault
abbrev pub SomeAreRight : List (List ℕ) → RequestValue → Type 0
SomeAreRight words request =
    (n : ℕ) × (n < length words) × IsOk (asked_from 0 (take (n + 1) words) request)

-- the request is updated by these arguments, or the answer is their fault. If some of them, from the first on, have no
-- fault, memory may be refused
abbrev pub BecomesBy : {T : Type 0} → Result T Fault → List (List ℕ) → RequestValue → RequestValue → Type 0
BecomesBy (Ok done) words old new = asked_from 0 words old ≡ Ok new
BecomesBy (Err fault) words old new =
    (asked_from 0 words old ≡ Err fault) ⊎ ((fault ≡ OutOfMemory) × SomeAreRight words old)
