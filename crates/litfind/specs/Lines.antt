-- The output of a run.
use Rattle.std.specs.Prelude.{◌≡◌, ℕ, Bool, List, ◌++◌, Option, Some, false, codes}
use Rattle.std.specs.List.{flat_map}
use Rattle.std.specs.Fmt.{decimal}
use Rattle.std.specs.Option.{option_to_list}
use Rattle.literal_base.specs.MatchValue.{MatchValue}
use Rattle.literal_base.specs.Greedy.{IsGreedy}
use Rattle.literal_base.specs.Leftmost.{IsLeftmost}
use Rattle.literal_base.specs.Occurs.{whole_of}
use Rattle.literal_base.specs.Query.{Query}
use Rattle.litfind.specs.Query.{Task, all_matches, leftmost_match, words_ask}

-- the list has the leftmost match of the whole input, and is empty if nothing occurs in it
pub record IsLeftmostList (query : Query) (ignore_case : Bool) (input : List ℕ) (matches : List MatchValue) : Type 0
  where
    pub found : Option MatchValue
    pub leftmost : IsLeftmost query ignore_case input (whole_of input) found
    pub is_list : matches ≡ option_to_list found

-- the printed matches: the greedy list of the whole input, or its leftmost match
abbrev pub ArePrinted : Task → List ℕ → List MatchValue → Type 0
ArePrinted (all_matches query) input matches = IsGreedy query false input 0 matches
ArePrinted (leftmost_match query ignore_case) input matches = IsLeftmostList query ignore_case input matches

-- the line of a match: the identifier of its pattern, and its start and end offset, in decimal with one space between,
-- and a line feed
abbrev pub line_of : MatchValue → List ℕ
line_of found = decimal found.pattern ++ codes " " ++ decimal found.start ++ codes " " ++ decimal found.end ++ codes
    "\n"

-- the text consists of a line for each match of the input, for this task
pub record AreMatchLines (asked : Task) (input text : List ℕ) : Type 0 where
  pub matches : List MatchValue
  pub found : ArePrinted asked input matches
  pub lines : text ≡ flat_map line_of matches

-- the text consists of a line for each match of the input that the arguments request
pub record AreLines (words : List (List ℕ)) (input text : List ℕ) : Type 0 where
  pub asked : Task
  pub ask : words_ask words ≡ Some asked
  pub lines : AreMatchLines asked input text
