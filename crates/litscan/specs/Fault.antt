-- The faults of failed calls, and the messages of faults.
use Rattle.std.specs.Prelude.{◌≡◌, ◌<◌, ◌⊎◌, ◌==◌, ◌||◌, ℕ, Bool, List, [], ◌++◌, Option, Some, codes, length, take}
use Rattle.std.specs.Prelude.{if◌then◌else◌}
use Rattle.std.specs.Char.{encode_utf8, is_ascii_graphic}
use Rattle.std.specs.Fmt.{decimal}
use Rattle.std.specs.Option.{option_map}
use Rattle.std.specs.declared.io.ErrorKind.{ErrorKind}
use Rattle.std.specs.declared.io.ErrorKind.TheVariants as kind
use Rattle.literal_base.specs.Occurs.{NoneIsEmpty, pattern_at}
use Rattle.literal_ids.specs.declared.primitives.pattern_id.TheConstants.PatternID
use Rattle.literal_search.specs.SearchValue.{NeedTooManyReversed}
use Rattle.literal_search.specs.declared.BuildError.{BuildError}
use Rattle.literal_search.specs.declared.BuildError.TheVariants as build
use Rattle.litscan.specs.declared.fault.Fault.{Fault}
use Rattle.litscan.specs.declared.fault.Fault.TheVariants.{Ambiguous, EmptyWord, OutOfMemory, ReadFailed}
use Rattle.litscan.specs.declared.fault.Fault.TheVariants.{Told, TooManyWords, UnknownLetter, UnknownName, Unread}
use Rattle.litscan.specs.declared.fault.Fault.TheVariants.{Usage, WriteFailed}

-- the fault of a read that ends with an error of this kind
abbrev pub read_fault : ErrorKind → Fault
read_fault kind.OutOfMemory = OutOfMemory
read_fault _ = ReadFailed

-- the fault of a write that ends with an error of this kind. A pipe that nobody reads has a fault of its own
abbrev pub write_fault : ErrorKind → Fault
write_fault kind.BrokenPipe = Unread
write_fault _ = WriteFailed

-- the fault of words for which no search is built, because of this error
abbrev pub build_fault : BuildError → Fault
build_fault (build.EmptyPattern number) = EmptyWord number
build_fault build.OutOfMemory = OutOfMemory
build_fault build.TooManyPatterns = TooManyWords
build_fault build.TooManyStates = TooManyWords

-- a read failed with this error, which gives this fault
abbrev pub IsReadFault : Option ErrorKind → Fault → Type 0
IsReadFault failure fault = option_map read_fault failure ≡ Some fault

-- a write failed with this error, which gives this fault
abbrev pub IsWriteFault : Option ErrorKind → Fault → Type 0
IsWriteFault failure fault = option_map write_fault failure ≡ Some fault

-- the fault is a reason why a line is not read: the read failed, or a write before it
abbrev pub StopsRead : Option ErrorKind → Option ErrorKind → Fault → Type 0
StopsRead read_failure write_failure fault = IsReadFault read_failure fault ⊎ IsWriteFault write_failure fault

-- the fault is a reason why no search is built for the words: it names the first empty word; memory is refused, if
-- there is a word; or there are more words than identifiers, or their automaton needs too many states
abbrev pub RefusesWords : Bool → List (List ℕ) → Fault → Type 0
RefusesWords ignore_case words (EmptyWord number) =
    (number < length words) × (pattern_at words number ≡ []) × NoneIsEmpty (take number words)
RefusesWords ignore_case words OutOfMemory = 0 < length words
RefusesWords ignore_case words TooManyWords =
    (PatternID.LIMIT < length words) ⊎ NeedTooManyReversed ignore_case words
RefusesWords ignore_case words _ = ⊥

-- the letter of an option in a message: a question mark if the letter is not printable
abbrev pub shown_letter : ℕ → ℕ
shown_letter letter = if is_ascii_graphic letter then letter else 63

-- whether this is the letter of an option of `grep` that selects another kind of patterns: E, G or P
abbrev pub asks_for_patterns : ℕ → Bool
asks_for_patterns letter = letter == 69 || letter == 71 || letter == 80

-- the reason why an option of this letter is unknown, or nothing
abbrev pub why_unknown : ℕ → List ℕ
why_unknown letter = if asks_for_patterns letter then codes ", since litscan finds literals" else codes ""

-- the message of a fault, without a line feed
abbrev pub fault_text : Fault → List ℕ
fault_text Usage = codes "usage: litscan [OPTION...] WORDS [FILE...]"
fault_text (UnknownLetter letter) =
    codes "litscan: unknown option -" ++ encode_utf8 (shown_letter letter) ++ why_unknown letter
    ++ codes "; litscan --help lists the options"
fault_text (UnknownName number) =
    codes "litscan: unknown option in argument " ++ decimal number ++ codes "; litscan --help lists the options"
fault_text (Ambiguous number) =
    codes "litscan: ambiguous option in argument " ++ decimal number ++ codes "; litscan --help lists the options"
fault_text (EmptyWord number) = codes "litscan: word " ++ decimal number ++ codes " is empty"
fault_text TooManyWords = codes "litscan: too many words"
fault_text OutOfMemory = codes "litscan: out of memory"
fault_text ReadFailed = codes "litscan: read failed"
fault_text Told = codes "litscan: no words"
fault_text Unread = codes "litscan: nobody reads"
fault_text WriteFailed = codes "litscan: write failed"
