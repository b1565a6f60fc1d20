-- All matches of a haystack that do not overlap, from the left.
use Rattle.std.specs.Prelude.{ℕ, ◌<◌, ◌&&◌, Bool, List, [], ◌∷◌, ◌++◌, length, nat_le, nat_lt}
use Rattle.std.specs.Prelude.{Option, Some, None}
use Rattle.std.specs.List.{list_any}
use Rattle.literal_base.specs.MatchValue.{MatchValue}
use Rattle.literal_base.specs.Query.{Query}
use Rattle.literal_base.specs.Occurs.{NothingOccurs, between, rest_from}
use Rattle.literal_base.specs.declared.search.Span.{Span}
use Rattle.literal_base.specs.Leftmost.{IsLeftmostMatch}

-- all matches of a span that do not overlap, from the left: its leftmost match, followed by those of the rest of the
-- span after that match. The list is empty exactly if no pattern occurs in the span
abbrev pub IsGreedyIn : Query → Bool → List ℕ → Span → List MatchValue → Type 0
IsGreedyIn query ignore_case haystack span [] = NothingOccurs query.patterns ignore_case haystack span
IsGreedyIn query ignore_case haystack span (found ∷ more) =
    IsLeftmostMatch query ignore_case haystack span found
    × IsGreedyIn query ignore_case haystack (between found.end span.end) more

-- the same for the haystack from an offset on
abbrev pub IsGreedy : Query → Bool → List ℕ → ℕ → List MatchValue → Type 0
IsGreedy query ignore_case haystack at all = IsGreedyIn query ignore_case haystack (rest_from haystack at) all

-- the offset where the search continues: the end of the match, or the end of the haystack if there is none
abbrev pub place_after : List ℕ → Option MatchValue → ℕ
place_after haystack None = length haystack
place_after haystack (Some found) = found.end

-- memory was refused for the list of all matches: there was no room for the last match that was found. The matches so
-- far were counted like this
pub record RefusesList (query : Query) (ignore_case : Bool) (haystack : List ℕ) (Counted : List MatchValue → Type 0)
    : Type 0 where
  pub found : List MatchValue
  pub more : List MatchValue
  pub some : 0 < length found
  pub are_first : IsGreedy query ignore_case haystack 0 (found ++ more)
  pub counted : Counted found

-- whether an offset is in one of the matches
abbrev pub lies_in_one : List MatchValue → ℕ → Bool
lies_in_one all at = list_any (λ found. nat_le found.start at && nat_lt at found.end) all
