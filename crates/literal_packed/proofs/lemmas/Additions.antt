-- What a new builder builds from the items of an iterator, and where it is refused memory.
-- For `Searcher::new`.
use Rattle.std.proofs.Common.{◌≡◌, ℕ, List, [], map, Option}
use Rattle.std.proofs.Common.{Result, Ok, Err, IsOk, IfOk, OnErr, ◌⊎◌, inl, inr, subst, ap, ◌∙◌}
use Rattle.std.specs.Borrow.{Bor}
use Rattle.literal_base.specs.Query.{Query}
use Rattle.literal_packed.specs.ConfigValue.{default_config}
use Rattle.literal_packed.specs.Lending.{HoldsAll, RefusesSearcher}
use Rattle.literal_packed.specs.BuilderValue.{BuilderValue, BuildsSearcher, IsBuildable, builder_of}
use Rattle.literal_packed.specs.BuilderValue.{searcher_of, with_added}
use Rattle.literal_packed.proofs.lemmas.Callers.{added_more}

-- what a new builder builds from all items of an iterator
pub builds_items : {U T E : Type 0} (becomes : U → T → Type 0) (steps : T → Option (Bor (List ℕ)) → T → Type 0)
    (patterns : U)
    (start new : BuilderValue) (built : Result (Option Query) E) → start ≡ builder_of default_config []
    → HoldsAll becomes steps patterns start new → IfOk built (λ b. b ≡ searcher_of new)
    → IfOk built (BuildsSearcher becomes steps patterns)
builds_items becomes steps patterns start new (Ok answer) starts (it, items, is_iterator, adds, drains) is =
    let all : new ≡ builder_of default_config (map (λ p. p.now) items) =
    adds ∙ (ap (λ b. with_added b (map (λ p. p.now) items)) starts
    ∙ added_more default_config [] (map (λ p. p.now) items)) in
    (it, items, is_iterator, drains, is ∙ ap searcher_of all)
builds_items becomes steps patterns start new (Err error) starts holds is = tt

-- and where that is refused memory
pub refuses_items : {U T A E : Type 0} (becomes : U → T → Type 0) (steps : T → Option (Bor (List ℕ)) → T → Type 0)
    (patterns : U) (start new : BuilderValue) (built : Result A E) → start ≡ builder_of default_config []
    → HoldsAll becomes steps patterns start new → IsOk built ⊎ IsBuildable new
    → OnErr built (RefusesSearcher becomes steps patterns)
refuses_items becomes steps patterns start new (Ok answer) starts holds why = tt
refuses_items becomes steps patterns start new (Err error) starts holds why =
    let all = subst (λ b. HoldsAll becomes steps patterns b new) starts holds in
    elim why [ inl succeeded ↦ cc | inr able ↦ record { builder = new; why = inr (all, able) } ]
