-- The messages of errors.
use Rattle.std.specs.Prelude.{ℕ, List, ◌++◌, codes}
use Rattle.std.specs.Fmt.{decimal}
use Rattle.literal_search.specs.declared.BuildError.{BuildError}
use Rattle.literal_search.specs.declared.BuildError.TheVariants.{EmptyPattern, OutOfMemory, TooManyPatterns}
use Rattle.literal_search.specs.declared.BuildError.TheVariants.{TooManyStates}
use Rattle.literal_search.specs.declared.replace.ReplaceError.{ReplaceError}
use Rattle.literal_search.specs.declared.replace.ReplaceError.TheVariants as replace
pub use Rattle.literal_pieces.specs.ErrorText.{replace_stream_error_text}
pub use Rattle.literal_rows.specs.ErrorText.{array_too_short_text}

-- the message that says why there is no automaton
abbrev pub build_error_text : BuildError → List ℕ
build_error_text (EmptyPattern number) = codes "pattern " ++ decimal number ++ codes " is empty"
build_error_text OutOfMemory = codes "out of memory"
build_error_text TooManyPatterns = codes "too many patterns"
build_error_text TooManyStates = codes "the patterns need too many states"

-- the message that says why matches are not replaced
abbrev pub replace_error_text : ReplaceError → List ℕ
replace_error_text replace.NotOneForEach = codes "there is not one replacement for each pattern"
replace_error_text replace.OutOfMemory = codes "out of memory"
