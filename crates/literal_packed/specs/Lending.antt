-- A builder that is lent to a call, which returns it on success.
use Rattle.std.specs.Prelude.{ℕ, ◌⊎◌, List, [], Option, Some, Result}
use Rattle.std.specs.Borrow.{Bor, MutBor, Fml, RestsIfErr}
use Rattle.std.specs.Iterator.{Drains, Yields}
use Rattle.literal_packed.specs.BuilderValue.{AddsAll, BuilderValue, IsBuildable, builder_of}
use Rattle.literal_packed.specs.ConfigValue.{default_config}
use Rattle.literal_packed.specs.State.{WouldKeep}
use Rattle.literal_packed.specs.declared.api.LentBuilder.{LentBuilder}
use Rattle.literal_packed.specs.contracts.api.Builder.{the_row}

-- if the call with the lent builder b does not return it, P holds for the builder (`RestsIfErr`)
abbrev pub HoldsAfterErr : {E : Type 0} → (BuilderValue → Type 0) → MutBor BuilderValue → Result (MutBor BuilderValue) E
    → Fml
HoldsAfterErr P b r = RestsIfErr the_row b (λ (x : MutBor BuilderValue). x.ghost_name) r P

-- the same if the answer has the builder in a struct
abbrev pub LentHoldsAfterErr : {E : Type 0} → (BuilderValue → Type 0) → MutBor BuilderValue → Result LentBuilder E → Fml
LentHoldsAfterErr P b r = RestsIfErr the_row b (λ (l : LentBuilder). l.builder.ghost_name) r P

module _ {U T : Type 0} (becomes : U → T → Type 0) (steps : T → Option (Bor (List ℕ)) → T → Type 0) (patterns : U)
    (old new : BuilderValue) where
  -- all items of the iterator were added, in their order
  abbrev pub HoldsAll : Type 0
  HoldsAll = (it : T) × (xs : List (Bor (List ℕ))) × becomes patterns it × AddsAll old xs new × Drains steps it xs

  -- the items before the refused one were added, in their order, and the builder would have kept the refused one. This
  -- is for a builder that is still in use; `WouldKeepItem` of literal_prefilters is for one that is gone
  pub record HoldsTaken : Type 0 where
    pub iterator : T
    pub items : List (Bor (List ℕ))
    pub refused : Bor (List ℕ)
    pub before : T
    pub after : T
    pub is_iterator : becomes patterns iterator
    pub gave : Yields steps iterator items before
    pub gives : steps before (Some refused) after
    pub adds : AddsAll old items new
    pub would_keep : WouldKeep new.config.pattern_limit new.state refused.now

module _ {U T : Type 0} (becomes : U → T → Type 0) (steps : T → Option (Bor (List ℕ)) → T → Type 0) (patterns : U) where
  -- memory was refused while a new builder builds a searcher from an iterator: for an item that it would keep, or after
  -- all items, if a searcher can be built
  pub record RefusesSearcher : Type 0 where
    pub builder : BuilderValue
    pub why : HoldsTaken becomes steps patterns (builder_of default_config []) builder
        ⊎ (HoldsAll becomes steps patterns (builder_of default_config []) builder × IsBuildable builder)
