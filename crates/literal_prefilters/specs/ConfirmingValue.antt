-- A confirming search as contracts see it, and how it is built.
use Rattle.std.specs.Prelude.{◌≡◌, ◌⊎◌, ℕ, Bool, List, Option, Some, IsTrue, is_some, map}
use Rattle.std.specs.Prelude.{option_map}
use Rattle.std.specs.Borrow.{Bor}
use Rattle.std.specs.Iterator.{Drains, Yields}
use Rattle.literal_base.specs.declared.packed.MatchKind.{MatchKind}
use Rattle.literal_base.specs.Kinds.{root_kind_of}
use Rattle.literal_base.specs.Query.{Query}
use Rattle.literal_packed.specs.State.{WouldKeep, kept_of, state_of}
use Rattle.literal_prefilters.specs.Choice.{pick}
use Rattle.literal_prefilters.specs.PrefilterBuilderValue.{PrefilterBuilderValue, prefilter_limit}
use Rattle.literal_prefilters.specs.PrefilterValue.{PrefilterValue}

-- a `ConfirmingSearch` as contracts see it: the match kind and the patterns, whether case is ignored, and the prefilter
pub record ConfirmingValue : Type 0 where
  pub query : Query
  pub ignore_case : Bool
  pub prefilter : PrefilterValue

-- the prefilter builder for a leftmost match kind, after these patterns were added
abbrev pub prefilter_builder : MatchKind → Bool → List (List ℕ) → PrefilterBuilderValue
prefilter_builder kind ignore_case added =
    record { kind = root_kind_of kind; ignore_case = ignore_case; state = state_of prefilter_limit added }

-- the confirming search for a builder's patterns with this prefilter
abbrev pub confirming_by : MatchKind → PrefilterBuilderValue → PrefilterValue → ConfirmingValue
confirming_by kind b prefilter = record {
  query = record { kind = kind; patterns = kept_of b.state };
  ignore_case = b.ignore_case;
  prefilter = prefilter;
}

-- the confirming search for a builder's patterns, if there is a prefilter for them
abbrev pub confirming_of : MatchKind → PrefilterBuilderValue → Option ConfirmingValue
confirming_of kind b = option_map (confirming_by kind b) (pick b)

-- the answer is the confirming search for all patterns that an iterator gives
abbrev pub BuildsConfirming : {U T : Type 0} → (U → T → Type 0) → (T → Option (Bor (List ℕ)) → T → Type 0) → MatchKind
    → Bool → U → Option ConfirmingValue → Type 0
BuildsConfirming {U} {T} becomes steps kind ignore_case patterns answer =
    (it : T) × (items : List (Bor (List ℕ))) × becomes patterns it × Drains steps it items
    × (answer ≡ confirming_of kind (prefilter_builder kind ignore_case (map (λ p. p.now) items)))

module _ (limit : ℕ) {U T : Type 0} (becomes : U → T → Type 0) (steps : T → Option (Bor (List ℕ)) → T → Type 0)
    (patterns : U) where
  -- an item of the iterator would be kept, after those before it and within a limit. This is for a builder that is
  -- gone; `HoldsTaken` of literal_packed is for one that is still in use
  pub record WouldKeepItem : Type 0 where
    pub iterator : T
    pub items : List (Bor (List ℕ))
    pub refused : Bor (List ℕ)
    pub before : T
    pub after : T
    pub is_iterator : becomes patterns iterator
    pub gave : Yields steps iterator items before
    pub gives : steps before (Some refused) after
    pub would_keep : WouldKeep limit (state_of limit (map (λ p. p.now) items)) refused.now

-- memory was refused: for an item that is kept, or after all items, if there is a prefilter for them
abbrev pub RefusesConfirming : {U T : Type 0} → (U → T → Type 0) → (T → Option (Bor (List ℕ)) → T → Type 0) → MatchKind
    → Bool → U → Type 0
RefusesConfirming {U} {T} becomes steps kind ignore_case patterns = WouldKeepItem prefilter_limit becomes steps patterns
    ⊎ ((it : T) × (items : List (Bor (List ℕ))) × becomes patterns it × Drains steps it items
    × IsTrue (is_some (pick (prefilter_builder kind ignore_case (map (λ p. p.now) items)))))
