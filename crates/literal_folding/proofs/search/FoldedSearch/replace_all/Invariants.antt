use Rattle.std.proofs.Common.{◌≡◌, ◌++◌, List, length, map}
use Rattle.literal_base.specs.MatchValue.{MatchValue}
use Rattle.literal_search.specs.Replaced.{replaced}
use Rattle.literal_search.proofs.lemmas.Callers.{AreMatchesFrom}
use Rattle.literal_folding.specs.FoldedSearchValue.{kept_case}
use Rattle.literal_folding.specs.Folding.{folded}
use Rattle.literal_folding.proofs.search.FoldedSearch.replace_all.Given as goal

-- whatever matches are still to come, the answer so far goes on as it has to
abbrev pub invariant-loop-found : goal.invariant-loop-found
invariant-loop-found l = record {
  from : AreMatchesFrom (kept_case l.self) (folded l.text) l.at l.found-iterator;
  len : length (folded l.text) ≡ length l.text;
  goes_on : (more : List MatchValue) → l.answer.items ++ replaced l.text (map (λ r. r.now) l.replacements) l.at more
      ≡ replaced l.text (map (λ r. r.now) l.replacements) 0 (l.yielded ++ more);
}
