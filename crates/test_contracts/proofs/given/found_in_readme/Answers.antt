use Rattle.std.proofs.Common.{[], ◌∷◌, List, ℕ, false, refl}
use Rattle.std.specs.Prelude.{codes}
use Rattle.literal_base.specs.declared.packed.MatchKind.TheVariants.{LeftmostFirst}
use Rattle.literal_base.proofs.lemmas.Callers.{array_gives}
use Rattle.literal_search.proofs.lemmas.Callers.{search_is_for}
use Rattle.literal_base.proofs.lemmas.Tested.{greedy_if_tested}
use Rattle.test_contracts.proofs.given.found_in_readme.Goals as goal

words : List (List ℕ)
words = codes "apple" ∷ codes "maple" ∷ codes "Snapple" ∷ []

-- its list of matches is greedy, and there is one such list
pub returns : goal.returns
unfolding words
returns c =
    let same = rw c.as_slice.ensures at
    (search_is_for (array_gives _) LeftmostFirst false _ c.in_ok-search.ensures.ok) in
    let haystack = codes "Nobody likes maple in their apple flavored Snapple." in
    c.greedy_is_unique.ensures (record { kind = LeftmostFirst; patterns = words }) false haystack 0 _ _
    (rw same at c.in_ok-all.ensures.greedy)
    (greedy_if_tested words haystack 0
    (record { pattern = 1; start = 13; end = 18 } ∷ record { pattern = 0; start = 28; end = 33 }
    ∷ record { pattern = 2; start = 43; end = 50 } ∷ []) refl)
