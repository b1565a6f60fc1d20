-- The query for the longest of some words.
use Rattle.std.specs.Prelude.{ℕ, List}
use Rattle.literal_base.specs.Query.{Query}
use Rattle.literal_base.specs.declared.packed.MatchKind.TheVariants.{LeftmostLongest}

-- the query for the longest of the words that begin at one offset
abbrev pub longest_of_words : List (List ℕ) → Query
longest_of_words words = record { kind = LeftmostLongest; patterns = words }
