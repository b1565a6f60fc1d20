-- The options that letters, long names and numbers set.
use Rattle.std.specs.Prelude.{◌≡◌, ℕ, ◌+◌, ◌-◌, ◌*◌, ◌^◌, ◌==◌, ◌&&◌, ◌||◌, Bool, true, false, List, [], ◌∷◌, Option}
use Rattle.std.specs.Prelude.{Some}
use Rattle.std.specs.Prelude.{None, codes, if◌then◌else◌, min, nat_lt, not, option_and_then, unwrap_or}
use Rattle.std.specs.Char.{is_ascii_digit}
use Rattle.std.specs.Str.{bytes_eq}
use Rattle.std.specs.Option.{is_some, option_map}
use Rattle.litscan.specs.declared.options.Color.{Color}
use Rattle.litscan.specs.declared.options.Color.TheVariants.{Always, Auto, Never}
use Rattle.litscan.specs.declared.options.Folders.{Folders}
use Rattle.litscan.specs.declared.options.Folders.TheVariants as folders
use Rattle.litscan.specs.declared.options.Options.{Options}
use Rattle.litscan.specs.declared.options.Shown.{Shown}
use Rattle.litscan.specs.declared.options.Shown.TheVariants as shown
use Rattle.litscan.specs.declared.names.Switch.{Switch}
use Rattle.litscan.specs.declared.names.Switch.TheVariants.{Crlf, LineBuffered, MindCase, NoSeparator}
use Rattle.litscan.specs.declared.names.Switch.TheVariants.{SkipBlank, WhichWord}

-- the options if none is given
abbrev pub no_options : Options
no_options = record {
  ignore_case = false;
  others = false;
  count = false;
  numbers = false;
  offsets = false;
  only = false;
  alone = false;
  whole = false;
  named = None;
  folders = folders.Read;
  follows = false;
  devices = None;
  text_only = false;
  line_end = 10;
  zero = false;
  tab = false;
  width = 0;
  listed = None;
  color = Never;
  shown = shown.Match;
  line_buffered = false;
  quiet = false;
  untold = false;
  most = None;
  before = None;
  after = None;
  around = None;
  in_number = false;
  separated = true;
  dashed = false;
  crlf = false;
  skip_blank = false;
  help = false;
  version = false;
}

-- the options with a digit of `-NUM`, appended to the digits right before it. A number of 2^64 or more becomes 2^64 - 1
abbrev pub with_digit_of_lines : Options → ℕ → Options
with_digit_of_lines options digit =
    let number = if options.in_number then unwrap_or options.around 0 else 0 in
    record options { around = Some (min (number * 10 + (digit - 48)) (2 ^ 64 - 1)); in_number = true }

-- the options after an option letter, and None if it is not an option without argument. The letters are in turn: b, c,
-- h, H, i and y, l, L, I, n, o, q, r, R, s, T, v, V, w, x, z, Z, ?, a, and F, u and U, which change nothing
abbrev pub with_plain_letter : Options → ℕ → Option Options
with_plain_letter options letter =
    if letter == 98 then Some (record options { offsets = true })
    else if letter == 99 then Some (record options { count = true })
    else if letter == 104 then Some (record options { named = Some false })
    else if letter == 72 then Some (record options { named = Some true })
    else if letter == 105 || letter == 121 then Some (record options { ignore_case = true })
    else if letter == 108 then Some (record options { listed = Some true })
    else if letter == 76 then Some (record options { listed = Some false })
    else if letter == 73 then Some (record options { text_only = true })
    else if letter == 110 then Some (record options { numbers = true })
    else if letter == 111 then Some (record options { only = true })
    else if letter == 113 then Some (record options { quiet = true })
    else if letter == 114 then Some (record options { folders = folders.Walk })
    else if letter == 82 then Some (record options { folders = folders.Walk; follows = true })
    else if letter == 115 then Some (record options { untold = true })
    else if letter == 84 then Some (record options { tab = true })
    else if letter == 118 then Some (record options { others = true })
    else if letter == 86 then Some (record options { version = true })
    else if letter == 119 then Some (record options { alone = true })
    else if letter == 120 then Some (record options { whole = true })
    else if letter == 122 then Some (record options { line_end = 0 })
    else if letter == 90 then Some (record options { zero = true })
    else if letter == 63 then Some (record options { help = true })
    else if letter == 97 then Some (record options { text_only = false })
    else if letter == 70 || letter == 117 || letter == 85 then Some options
    else None

-- the options after a letter: the next digit begins a new number
abbrev pub behind_number : Options → Options
behind_number options = record options { in_number = false }

-- the options after a letter or digit
abbrev pub with_letter : Options → ℕ → Option Options
with_letter options letter =
    if is_ascii_digit letter then Some (with_digit_of_lines options letter)
    else option_map behind_number (with_plain_letter options letter)

-- the options with an option that has neither a letter nor an argument
abbrev pub with_switch : Switch → Options → Options
with_switch LineBuffered options = record options { line_buffered = true }
with_switch MindCase options = record options { ignore_case = false }
with_switch NoSeparator options = record options { separated = false }
with_switch Crlf options = record options { crlf = true }
with_switch SkipBlank options = record options { skip_blank = true }
with_switch WhichWord options = record options { only = true; shown = shown.Number }

-- the options with the one of this letter, D or d, set to an action, and None if it has no such action
abbrev pub with_action : ℕ → Options → List ℕ → Option Options
with_action letter options action =
    if letter == 68 && bytes_eq action (codes "read") then Some (record options { devices = Some true })
    else if letter == 68 && bytes_eq action (codes "skip") then Some (record options { devices = Some false })
    else if letter == 100 && bytes_eq action (codes "read") then Some (record options { folders = folders.Read })
    else if letter == 100 && bytes_eq action (codes "skip") then Some (record options { folders = folders.Skip })
    else if letter == 100 && bytes_eq action (codes "recurse") then Some (record options { folders = folders.Walk })
    else None

-- the options for the argument of `--binary-files`: `text` means the same as `-a`, and `without-match` as `-I`
abbrev pub with_binary_files : Options → List ℕ → Option Options
with_binary_files options kind =
    if bytes_eq kind (codes "text") then with_letter options 97
    else if bytes_eq kind (codes "without-match") then with_letter options 73
    else None

-- the options with a byte that is printed for each byte of a match, and None if the argument is not one byte
abbrev pub with_mask : Options → List ℕ → Option Options
with_mask options (byte ∷ []) = Some (record options { shown = shown.Mask byte })
with_mask options _ = None

-- whether directories are searched
abbrev pub is_walking : Folders → Bool
is_walking folders.Walk = true
is_walking _ = false

-- when output is coloured, given whether standard output is a terminal
abbrev pub color_for : Bool → Color → Color
color_for is_terminal Auto = if is_terminal then Always else Never
color_for is_terminal color = color

-- the options, given whether standard output is a terminal. On a terminal each line is written at once
abbrev pub on_output : Bool → Options → Options
on_output is_terminal options =
    record options { color = color_for is_terminal options.color; line_buffered = options.line_buffered || is_terminal }

-- whether output is always coloured
abbrev pub is_always : Color → Bool
is_always Always = true
is_always _ = false

-- whether output is coloured
abbrev pub is_colored : Options → Bool
is_colored options = is_always options.color

-- whether anything else than a match is printed for it
abbrev pub is_replaced : Shown → Bool
is_replaced shown.Match = false
is_replaced _ = true

-- whether a line is printed otherwise than it is if it has a match
abbrev pub is_marked : Options → Bool
is_marked options = is_colored options || is_replaced options.shown

-- whether no line is printed: only the number of lines, file names, or nothing is requested
abbrev pub is_silent : Options → Bool
is_silent options = options.count || options.quiet || is_some options.listed

-- the number of lines of a file that have to be selected before reading stops, if there is a limit: the argument of
-- `-m`, and at most 1 if only the existence of such a line matters
abbrev pub limit_of : Options → Option ℕ
limit_of options =
    if options.quiet || is_some options.listed then Some (min (unwrap_or options.most 1) 1) else options.most

-- whether this many lines reach the limit
abbrev pub is_enough : Option ℕ → ℕ → Bool
is_enough None count = false
is_enough (Some most) count = count == most

-- whether an option of this letter takes a number: A, B, C and m do
abbrev pub takes_number : ℕ → Bool
takes_number letter = letter == 65 || letter == 66 || letter == 67 || letter == 109

-- the options with the one of this letter, A, B, C or m, set to its number
abbrev pub with_number : ℕ → Options → ℕ → Options
with_number letter options number =
    if letter == 65 then record options { after = Some number }
    else if letter == 66 then record options { before = Some number }
    else if letter == 67 then record options { around = Some number }
    else record options { most = Some number }

-- whether an option of this letter takes the name of an action: d and D do
abbrev pub takes_action : ℕ → Bool
takes_action letter = letter == 100 || letter == 68

-- whether an option of this letter takes an argument: e and f do, and those that take a number or an action
abbrev pub takes_argument : ℕ → Bool
takes_argument letter = letter == 101 || letter == 102 || takes_number letter || takes_action letter

-- the value of the colour option for this argument, if it is valid
abbrev pub color_named : List ℕ → Option Color
color_named name =
    if bytes_eq name (codes "always") || bytes_eq name (codes "yes") || bytes_eq name (codes "force") then Some Always
    else if bytes_eq name (codes "never") || bytes_eq name (codes "no") || bytes_eq name (codes "none") then Some Never
    else if bytes_eq name (codes "auto") || bytes_eq name (codes "tty") || bytes_eq name (codes "if-tty") then Some Auto
    else None

-- the number with one more digit, and None if it is not a digit, or the number reaches 2^64
abbrev pub with_digit : ℕ → ℕ → Option ℕ
with_digit number digit =
    let next = number * 10 + (digit - 48) in
    if is_ascii_digit digit && nat_lt next (2 ^ 64) then Some next else None

-- the number with these digits appended
abbrev pub number_from : ℕ → List ℕ → Option ℕ
number_from number [] = Some number
number_from number (digit ∷ more) = option_and_then (λ next. number_from next more) (with_digit number digit)

-- the number that these digits write, if there is a digit, and the number is below 2^64
abbrev pub number_of : List ℕ → Option ℕ
number_of [] = None
number_of (digit ∷ more) = number_from 0 (digit ∷ more)

-- whether files with a zero byte are searched as if they were empty: with `-I`, unless a zero byte ends lines
abbrev pub skips_zero : Options → Bool
skips_zero options = options.text_only && not (options.line_end == 0)

-- the options for one file: with `-T`, numbers and offsets have some least width
pub record AreForFile (options own : Options) : Type 0 where
  pub same : own ≡ record options { width = own.width }
  pub none : options.tab ≡ false → own ≡ options
