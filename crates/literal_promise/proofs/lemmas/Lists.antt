-- The lists of patterns for which there is a searcher, and what it searches for.
-- For `build`.
use Rattle.std.proofs.Common.{◌≡◌, ℕ, ◌↔◌, ◌<◌, nat_lt, Bool, true, false, cond, List, length, Option, Some, None}
use Rattle.std.proofs.Common.{Result, Ok, Err, IfOk, IfSome, IsSome, is_some, unwrap_or, refl, sym, ap, ◌∙◌}
use Rattle.std.proofs.lemmas.Bool.{ltb-true}
use Rattle.literal_base.specs.Query.{Query}
use Rattle.literal_packed.specs.BuilderValue.{BuilderValue, AreBuildable, IsBuildable, builder_of, searcher_of}
use Rattle.literal_packed.specs.ConfigValue.{ConfigValue}
use Rattle.literal_packed.specs.State.{kept_of}

-- what the law `lists_up_to_the_limit_build` says
abbrev pub Builds : Type 0
Builds =
    (config : ConfigValue) (added : List (List ℕ)) → AreBuildable config.pattern_limit added
    → searcher_of (builder_of config added) ≡ Some (record { kind = config.kind; patterns = added })

abbrev pub BuildsNoOthers : Type 0
BuildsNoOthers =
    (config : ConfigValue) (added : List (List ℕ)) → IsBuildable (builder_of config added)
    → AreBuildable config.pattern_limit added

buildable : (b : BuilderValue) → is_some (searcher_of b) ≡ true → IsBuildable b
buildable b = from (nat_lt 0 (length (kept_of b.state))) refl
  where
    from : (may : Bool) → nat_lt 0 (length (kept_of b.state)) ≡ may
        → is_some {T = Query} (cond may (Some (record { kind = b.config.kind; patterns = kept_of b.state })) None)
        ≡ true
        → 0 < length (kept_of b.state)
    from true is some = ltb-true 0 (length (kept_of b.state)) is
    from false is some = cc

searched_for : Builds → BuildsNoOthers → (config : ConfigValue) (added : List (List ℕ)) (built : Option Query)
    → built ≡ searcher_of (builder_of config added) → is_some built ≡ true ↔ AreBuildable config.pattern_limit added
searched_for builds no_others config added built is = (
  λ some. no_others config added (buildable (builder_of config added) (sym (ap is_some is) ∙ some)),
  λ have. ap is_some (is ∙ builds config added have),
)

searcher_is : Builds → BuildsNoOthers → (config : ConfigValue) (added : List (List ℕ)) (built : Option Query)
    → built ≡ searcher_of (builder_of config added)
    → IfSome built (λ query. query ≡ record { kind = config.kind; patterns = added })
searcher_is builds no_others config added None is = tt
searcher_is builds no_others config added (Some query) is =
    let have = (searched_for builds no_others config added (Some query) is).0 refl in
    ap (λ o. unwrap_or o query) (is ∙ builds config added have)

-- the answer of a build
module _ {E : Type 0} (builds : Builds) (no_others : BuildsNoOthers) (config : ConfigValue) (added : List (List ℕ))
    (builder : BuilderValue) (added_all : builder ≡ builder_of config added) where
  pub builds_exactly : (built : Result (Option Query) E) → IfOk built (λ answer. answer ≡ searcher_of builder)
      → IfOk built (λ answer. IsSome answer ↔ AreBuildable config.pattern_limit added)
  builds_exactly (Ok answer) is = searched_for builds no_others config added answer (is ∙ ap searcher_of added_all)
  builds_exactly (Err error) is = tt

  pub builds_searcher : (built : Result (Option Query) E) → IfOk built (λ answer. answer ≡ searcher_of builder)
      → IfOk built (λ answer. IfSome answer (λ query. query ≡ record { kind = config.kind; patterns = added }))
  builds_searcher (Ok answer) is = searcher_is builds no_others config added answer (is ∙ ap searcher_of added_all)
  builds_searcher (Err error) is = tt
