-- Definitions for private functions of the engine.
use Rattle.std.specs.Prelude.{ℕ, List, Option}
use Rattle.litfind.specs.Lines.{AreLines}
use Rattle.litfind.specs.Query.{Task, all_matches, leftmost_match}
use Rattle.litfind.specs.Run.{ReadsToEnd}
use Rattle.litfind.specs.declared.engine.Mode.{Mode}
use Rattle.litfind.specs.declared.engine.Mode.TheVariants as mode
use Rattle.litfind.specs.declared.engine.ModeSearcher.{ModeSearcher}
use Rattle.litfind.specs.declared.engine.ModeSearcher.TheVariants as searcher

-- the task of a mode with some patterns
abbrev pub asked_of : List (List ℕ) → Mode → Task
asked_of patterns (mode.All kind) = all_matches (record { kind = kind; patterns = patterns })
asked_of patterns (mode.Leftmost kind ignore_case) =
    leftmost_match (record { kind = kind; patterns = patterns }) ignore_case

-- the task of the searcher of a mode
abbrev pub searches_for : ModeSearcher → Task
searches_for (searcher.All packed) = all_matches packed
searches_for (searcher.Leftmost search) = leftmost_match search.query search.ignore_case

-- the input was read to its end, and the text consists of its lines
pub record ReadsLines (words : List (List ℕ)) (had has : Option (List ℕ)) (text : List ℕ) : Type 0 where
  pub input : List ℕ
  pub read : ReadsToEnd had has input
  pub lines : AreLines words input text
