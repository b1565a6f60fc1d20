-- Texts of which only a beginning is known.
use Rattle.std.proofs.lemmas.Grind.{common_steps}
use Rattle.std.proofs.Common.{◌≡◌, ℕ, ◌+◌, ◌≤◌, ◌++◌, List}
use Rattle.std.proofs.Common.{length, arith}
use Rattle.std.proofs.Common.{Bool}
use Rattle.std.proofs.lemmas.List.{drop-append-le, length-drop}
use Rattle.std.proofs.lemmas.List.{take-append-le}
use Rattle.std.specs.List.{slice_range}
use Rattle.literal_base.specs.Leftmost.{IsLeftmostMatch}
use Rattle.literal_base.specs.MatchValue.{MatchValue}
use Rattle.literal_base.specs.Occurs.{Occurs, rest_from, between, pattern_at}
use Rattle.literal_base.specs.Query.{Query}
use Rattle.literal_rows.proofs.lemmas.Longest.{longest_is}
use Rattle.literal_leftmost.specs.SearchValue.{longest_of}

module _ (patterns : List (List ℕ)) (ignore_case : Bool) (text more : List ℕ) where
  -- a part of a text is the same part of a longer one
  same_prefix : (p n : ℕ) → p + n ≤ length text → slice_range (text ++ more) p (p + n) ≡ slice_range text p (p + n)
  same_prefix p n inside = grind (arith, length-drop, drop-append-le, take-append-le)

  -- and what lies whole in it occurs in it
  pub occurs_prefix : (at i p : ℕ) → p + length (pattern_at patterns i) ≤ length text
      → Occurs patterns ignore_case (text ++ more) (rest_from (text ++ more) at) i p
      → Occurs patterns ignore_case text (between at (length text)) i p
  occurs_prefix at i p inside occurs = grind (arith, same_prefix)

-- a match behind whose start the longest pattern would fit is the leftmost one of a longer text too
pub leftmost_longer : (query : Query) (ignore_case : Bool) (text more : List ℕ) (at : ℕ) (found : MatchValue)
    → found.start + longest_of query.patterns ≤ length text
    → IsLeftmostMatch query ignore_case text (between at (length text)) found
    → IsLeftmostMatch query ignore_case (text ++ more) (rest_from (text ++ more) at) found
leftmost_longer query ignore_case text more at found room first = grind (arith, common_steps, longest_is)
