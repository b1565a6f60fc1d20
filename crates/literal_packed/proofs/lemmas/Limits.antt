-- The lists of patterns of which a searcher can be built.
-- For the law `lists_up_to_the_limit_build`.
use Rattle.std.proofs.Common.{◌≡◌, ℕ, ◌<◌, ◌≤◌, nat_lt, Bool, true, false, cond, List, length, Some, None, get_or}
use Rattle.std.proofs.Common.{refl, arith}
use Rattle.std.proofs.lemmas.Bool.{and_parts, ltb-true, lt-ltb, leb-true, le-leb}
use Rattle.std.proofs.lemmas.List.Sums.{AllPass-from_list_all, list_all-from_AllPass}
use Rattle.literal_base.specs.Occurs.{NoneIsEmpty}
use Rattle.literal_packed.specs.State.{kept_of, may_keep}
use Rattle.literal_packed.specs.ConfigValue.{ConfigValue}
use Rattle.literal_packed.specs.BuilderValue.{AreBuildable, IsBuildable, builder_of, searcher_of}

-- what may be kept
pub may_keep_if : (limit : ℕ) (added : List (List ℕ)) → NoneIsEmpty added → length added ≤ limit
    → may_keep limit added ≡ true
may_keep_if limit added not_empty few =
    let each = list_all-from_AllPass (λ bytes. nat_lt 0 (length bytes)) added
    (λ k d below. lt-ltb 0 (length (get_or added k d)) (not_empty k d below)) in
    rw (each, le-leb (length added) limit few) refl

pub builds_if : (config : ConfigValue) (added : List (List ℕ)) → AreBuildable config.pattern_limit added
    → searcher_of (builder_of config added) ≡ Some (record { kind = config.kind; patterns = added })
builds_if config added have =
    rw (may_keep_if config.pattern_limit added have.not_empty have.few, lt-ltb 0 (length added) have.some) refl

-- what is kept
pub builds_only_if : (config : ConfigValue) (added : List (List ℕ)) → IsBuildable (builder_of config added)
    → AreBuildable config.pattern_limit added
builds_only_if config added = from (may_keep config.pattern_limit added) refl
  where
    from : (may : Bool) → may_keep config.pattern_limit added ≡ may → 0 < length (kept_of (cond may (Some added) None))
        → AreBuildable config.pattern_limit added
    from true is some =
        let parts = and_parts _ _ is in
        let each = AllPass-from_list_all (λ bytes. nat_lt 0 (length bytes)) added parts.0 in
        record {
          some = some;
          few = leb-true (length added) config.pattern_limit parts.1;
          not_empty = λ k d below. ltb-true 0 (length (get_or added k d)) (each k d below);
        }
    from false is some = absurd (omega arith)
