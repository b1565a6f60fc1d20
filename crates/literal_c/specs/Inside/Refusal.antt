-- Why there is no search.
use Rattle.std.specs.Prelude.{ℕ, ℤ, ◌<◌, List, length}
use Rattle.literal_search.specs.SearchValue.{CanBeKept}
use Rattle.literal_c.specs.declared.TheConstants.{LITERAL_BAD_ARGUMENTS, LITERAL_NO_SEARCHER, LITERAL_OUT_OF_MEMORY}
use Rattle.literal_c.specs.declared.TheConstants.{LITERAL_TOO_LARGE}
use Rattle.literal_c.specs.declared.arguments.Refusal.{Refusal}
use Rattle.literal_c.specs.declared.arguments.Refusal.TheVariants.{BadArguments, NoSearcher, OutOfMemory, TooLarge}

-- the meaning of an error: the arguments are not valid; or they are, and the patterns can't be searched for; or they
-- can, and there is a pattern and no memory, or they need too many states
abbrev pub IsRefused : Type 0 → List (List ℕ) → Type 0 → Refusal → Type 0
IsRefused agree patterns need_too_many BadArguments = ¬ agree
IsRefused agree patterns need_too_many NoSearcher = agree × ¬ CanBeKept patterns
IsRefused agree patterns need_too_many OutOfMemory = agree × CanBeKept patterns × (0 < length patterns)
IsRefused agree patterns need_too_many TooLarge = agree × CanBeKept patterns × need_too_many

-- the status of an error
abbrev pub status_of : Refusal → ℤ
status_of BadArguments = LITERAL_BAD_ARGUMENTS
status_of NoSearcher = LITERAL_NO_SEARCHER
status_of OutOfMemory = LITERAL_OUT_OF_MEMORY
status_of TooLarge = LITERAL_TOO_LARGE
