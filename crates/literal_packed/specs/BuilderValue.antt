-- A builder as contracts see it, and the searcher that it builds.
use Rattle.std.specs.Prelude.{◌≡◌, ℕ, ◌<◌, ◌≤◌, List, length, Option, Some, None, nat_lt, if◌then◌else◌, map}
use Rattle.std.specs.Borrow.{Bor}
use Rattle.std.specs.Iterator.{Drains}
use Rattle.literal_base.specs.Occurs.{NoneIsEmpty}
use Rattle.literal_base.specs.Query.{Query}
use Rattle.literal_packed.specs.ConfigValue.{ConfigValue, default_config, max_pattern_limit}
use Rattle.literal_packed.specs.State.{kept_of, state_of, state_after}

-- a `Builder` as contracts see it: its configuration and its state
pub record BuilderValue : Type 0 where
  pub config : ConfigValue
  pub state : Option (List (List ℕ))

-- the builder with a configuration, after these patterns were added
abbrev pub builder_of : ConfigValue → List (List ℕ) → BuilderValue
builder_of config added = record { config = config; state = state_of config.pattern_limit added }

-- the builder after more patterns were added
abbrev pub with_added : BuilderValue → List (List ℕ) → BuilderValue
with_added b more = record { config = b.config; state = state_after b.config.pattern_limit b.state more }

-- a searcher can be built: the builder has a pattern
abbrev pub IsBuildable : BuilderValue → Type 0
IsBuildable b = 0 < length (kept_of b.state)

-- the searcher for the builder's match kind and patterns, or None if none can be built
abbrev pub searcher_of : BuilderValue → Option Query
searcher_of b =
    if nat_lt 0 (length (kept_of b.state)) then Some
    (record { kind = b.config.kind; patterns = kept_of b.state }) else None

-- patterns for which a searcher can be built: at least one, at most the limit, and none of them empty
pub record AreBuildable (limit : ℕ) (patterns : List (List ℕ)) : Type 0 where
  pub some : 0 < length patterns
  pub few : length patterns ≤ limit
  pub not_empty : NoneIsEmpty patterns

-- a query for which a searcher can be built: at least one pattern, at most the largest limit, and none of them empty
abbrev pub IsBuildableQuery : Query → Type 0
IsBuildableQuery query = AreBuildable max_pattern_limit query.patterns

-- the builder after patterns were added, given by references
abbrev pub AddsAll : BuilderValue → List (Bor (List ℕ)) → BuilderValue → Type 0
AddsAll old more new = new ≡ with_added old (map (λ p. p.now) more)

-- the answer is the searcher that a new builder builds from all patterns that an iterator gives
abbrev pub BuildsSearcher : {U T : Type 0} → (U → T → Type 0) → (T → Option (Bor (List ℕ)) → T → Type 0) → U
    → Option Query → Type 0
BuildsSearcher {U} {T} becomes steps patterns answer =
    (it : T) × (items : List (Bor (List ℕ))) × becomes patterns it × Drains steps it items
    × (answer ≡ searcher_of (builder_of default_config (map (λ p. p.now) items)))
