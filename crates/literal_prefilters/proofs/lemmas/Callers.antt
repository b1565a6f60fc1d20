-- What a confirming search searches for, and the first place of a table in a span.
-- For callers: their proofs cite this file, and no other of this crate's proofs.
use Rattle.std.proofs.Common.{◌≡◌, ◌↔◌, ℕ, ◌+◌, ◌-◌, ◌<◌, ◌≤◌, Bool, false, List, length, get_or, map, Option, Some}
use Rattle.std.proofs.Common.{None, IfSome, is_some, option_map, position, slice_range, slice_index, refl, sym, ap}
use Rattle.std.proofs.Common.{◌∙◌, ◌==◌, true, if◌then◌else◌, subst, ⊎_elim, take, inl, inr, arith}
use Rattle.std.proofs.lemmas.Iterator.{YieldsList, items_from_drains}
use Rattle.std.proofs.lemmas.Iterator.Consumers.{YieldsList-so_far, YieldsList-turn}
use Rattle.std.specs.Borrow.{Bor}
use Rattle.std.proofs.lemmas.Bool.{cases_Bool, cond-true, cond-false}
use Rattle.std.proofs.lemmas.List.{get_or_default, map-id}
use Rattle.std.proofs.lemmas.List.Edits.{length-between, get_or-between}
use Rattle.std.proofs.lemmas.List.Quantifiers.{position-Some}
use Rattle.literal_base.specs.declared.packed.MatchKind.{MatchKind}
use Rattle.literal_base.specs.declared.search.MatchKind.{MatchKind as RootKind}
use Rattle.literal_base.specs.declared.search.Span.{Span}
use Rattle.literal_base.specs.Bytes.{AreBytes}
use Rattle.literal_base.specs.Kinds.{root_kind_of}
use Rattle.literal_base.specs.Occurs.{IsValidSpan, pattern_at}
use Rattle.literal_packed.specs.State.{WouldKeep, kept_of, may_keep, state_of}
use Rattle.literal_base.proofs.lemmas.Callers.{GivesList, items_are}
use Rattle.literal_packed.proofs.lemmas.Callers.{first_if_keeps, first_if_some}
use Rattle.literal_prefilters.specs.Choice.{pick}
use Rattle.literal_prefilters.specs.ConfirmingValue.{BuildsConfirming, ConfirmingValue, confirming_of}
use Rattle.literal_prefilters.specs.ConfirmingValue.{RefusesConfirming, prefilter_builder}
use Rattle.literal_prefilters.specs.PrefilterBuilderValue.{PrefilterBuilderValue, prefilter_limit}
use Rattle.literal_prefilters.specs.PrefilterValue.{PrefilterValue}
use Rattle.literal_prefilters.specs.Table.{IsFirst, is_in, first_place, proposed_place, step_back}
use Rattle.literal_prefilters.proofs.lemmas.Lists.{position_is, position_none, position-None}

-- a confirming search that is built is for the patterns that were added, with their kind and case
module _ (kind : MatchKind) (ignore_case : Bool) (added : List (List ℕ)) where
  abbrev IsForAdded : Option ConfirmingValue → Type 0
  IsForAdded built =
      IfSome built (λ search. (search.query ≡ record { kind = kind; patterns = added })
      × (search.ignore_case ≡ ignore_case))

  abbrev at_state : Option (List (List ℕ)) → PrefilterBuilderValue
  at_state state = record { kind = root_kind_of kind; ignore_case = ignore_case; state = state }

  abbrev IsForState : Option (List (List ℕ)) → Type 0
  IsForState state = IsForAdded (confirming_of kind (at_state state))

  some_search : (picked : Option PrefilterValue)
      → IsForAdded (option_map
      (λ prefilter. record {
        query = record { kind = kind; patterns = added };
        ignore_case = ignore_case;
        prefilter = prefilter;
      })
      picked)
  some_search None = tt
  some_search (Some prefilter) = (refl, refl)

  pub confirms_for : (built : Option ConfirmingValue)
      → built ≡ confirming_of kind (prefilter_builder kind ignore_case added)
      → IfSome built (λ search. (search.query ≡ record { kind = kind; patterns = added })
      × (search.ignore_case ≡ ignore_case))
  confirms_for built is =
      let may = may_keep prefilter_limit added in
      subst IsForAdded (sym is) (⊎_elim
      (λ kept. subst IsForState (sym (cond-true may (Some added) None kept))
      (some_search (pick (at_state (Some added)))))
      (λ refused. subst IsForState (sym (cond-false may (Some added) None refused)) tt)
      (cases_Bool may))

is_some-option_map : {A B : Type 0} (f : A → B) (o : Option A) → is_some (option_map f o) ≡ is_some o
is_some-option_map f None = refl
is_some-option_map f (Some x) = refl

-- there is a confirming search exactly where there is a prefilter
pub confirms_where_picked : (kind : MatchKind) (builder : PrefilterBuilderValue)
    → is_some (confirming_of kind builder) ≡ is_some (pick builder)
confirms_where_picked kind builder =
    is_some-option_map
    (λ prefilter. record {
      query = record { kind = kind; patterns = kept_of builder.state };
      ignore_case = builder.ignore_case;
      prefilter = prefilter;
    })
    (pick builder)

kept_going : {T : Type 0} (none : Bool) (rest : Option T) → is_some (if none then None else rest) ≡ true → none ≡ false
kept_going true rest some = absurd cc
kept_going false rest some = refl

kept_if_picked : (builder : PrefilterBuilderValue) → is_some (pick builder) ≡ true → 0 < length (kept_of builder.state)
kept_if_picked builder some =
    let not_empty : (length (kept_of builder.state) == 0) ≡ false = kept_going _ _ some in
    grind (arith, not_empty)

-- and a prefilter only where the first pattern is not empty
pub first_if_picked : (kind : RootKind) (ignore_case : Bool) (added : List (List ℕ))
    → is_some (pick (record { kind = kind; ignore_case = ignore_case; state = state_of prefilter_limit added })) ≡ true
    → 0 < length (pattern_at added 0)
first_if_picked kind ignore_case added some =
    first_if_some prefilter_limit added (kept_if_picked
    (record { kind = kind; ignore_case = ignore_case; state = state_of prefilter_limit added }) some)

module _ {U T : Type 0} {becomes : U → T → Type 0} {steps : T → Option (Bor (List ℕ)) → T → Type 0} {given : U}
    {list : List (Bor (List ℕ))} (gives : GivesList becomes steps given list) (kind : MatchKind) (ignore_case : Bool)
  where
    -- `ConfirmingSearch::build` builds what is built for the list that is given, as by `array_gives`
    pub confirming_built_of : (built : Option ConfirmingValue)
        → BuildsConfirming becomes steps kind ignore_case given built
        → built ≡ confirming_of kind (prefilter_builder kind ignore_case (map (λ p. p.now) list))
    confirming_built_of built (it, items, is_iterator, drains, is) =
        is ∙ ap (λ (all : List (Bor (List ℕ))). confirming_of kind
        (prefilter_builder kind ignore_case (map (λ p. p.now) all))) (items_are gives it items is_iterator drains)

    -- so a search that it builds is for the list
    pub confirming_searches_for : (built : Option ConfirmingValue)
        → BuildsConfirming becomes steps kind ignore_case given built
        → IfSome built (λ search. (search.query ≡ record { kind = kind; patterns = map (λ p. p.now) list })
        × (search.ignore_case ≡ ignore_case))
    confirming_searches_for built builds =
        confirms_for kind ignore_case (map (λ p. p.now) list) built (confirming_built_of built builds)

-- where that is refused memory for a list that an iterator gives, the first pattern is not empty
module _ {U T : Type 0} {becomes : U → T → Type 0} {steps : T → Option (Bor (List ℕ)) → T → Type 0} {given : U}
    {all : List (List ℕ)} (gives : (it : T) → becomes given it → YieldsList steps (λ r. r.now) it all)
    (kind : MatchKind) (ignore_case : Bool) where
  pub first_if_refuses_confirming : RefusesConfirming becomes steps kind ignore_case given
      → 0 < length (pattern_at all 0)
  first_if_refuses_confirming (inl kept) =
      let each = gives kept.iterator kept.is_iterator in
      let so_far = YieldsList-so_far each kept.items kept.before kept.gave in
      let turn = YieldsList-turn each kept.items kept.before kept.gave (Some kept.refused) kept.after kept.refused refl
      kept.gives in
      let n = length kept.items in
      let state = state_of prefilter_limit (map (λ p. p) (take n all)) in
      let before = subst (λ taken. WouldKeep prefilter_limit (state_of prefilter_limit taken) kept.refused.now)
      (so_far ∙ sym (map-id (take n all))) kept.would_keep in
      let keeps = subst (λ bytes. WouldKeep prefilter_limit state bytes) turn.1 before in
      subst (λ list. 0 < length (pattern_at list 0)) (map-id all)
      (first_if_keeps prefilter_limit (λ p. p) all n kept.refused.now turn.0 keeps)
  first_if_refuses_confirming (inr (it, items, is_iterator, drains, some)) =
      subst (λ list. 0 < length (pattern_at list 0))
      (items_from_drains items (drains.1.0, drains.1.1, λ _. (drains.0, drains.1.2)) (gives it is_iterator))
      (first_if_picked (root_kind_of kind) ignore_case (map (λ p. p.now) items) some)

-- what a slice of `u8` holds is bytes
pub are_bytes : (bytes : List ℕ) → ((k : ℕ) → get_or bytes k 0 < 256) → AreBytes bytes
are_bytes bytes each k d below =
    let P : ℕ → Type 0 = λ b. b < 256 in subst P (get_or_default bytes k 0 d below) (each k)

-- no byte of the span is in the table
pub record IsFree (table : List (Option ℕ)) (haystack : List ℕ) (start end : ℕ) : Type 0 where
  pub none : (k : ℕ) → start ≤ k → k < end → is_in table (slice_index haystack k) ≡ false

module _ (table : List (Option ℕ)) (haystack : List ℕ) (span : Span) (valid : IsValidSpan haystack span) where
  abbrev part : List ℕ
  part = slice_range haystack span.start span.end

  length-part : length part ≡ span.end - span.start
  length-part = length-between haystack span.start span.end valid.in_haystack

  get_or-part : (k : ℕ) → span.start + k < span.end → get_or part k 0 ≡ slice_index haystack (span.start + k)
  get_or-part k below = get_or-between haystack span.start span.end k 0 below

  at_part : (k : ℕ) → span.start ≤ k → k < span.end
      → is_in table (get_or part (k - span.start) 0) ≡ is_in table (slice_index haystack k)
  at_part k after below =
      let e : span.start + (k - span.start) ≡ k = omega arith in
      ap (is_in table) (get_or-part (k - span.start) (omega arith) ∙ ap (slice_index haystack) e)

  -- the first place that has a byte of the table is the answer
  pub first_is : (place : ℕ) → IsFirst table haystack span place → first_place table haystack span ≡ Some place
  first_is place f =
      let e : span.start + (place - span.start) ≡ place = omega (arith, f.after_start) in
      let found : position (is_in table) part ≡ Some (place - span.start) =
      position_is (is_in table) part (place - span.start) (omega (arith, length-part, f.after_start, f.before_end))
      (at_part place f.after_start f.before_end ∙ f.here)
      (λ k below. ap (is_in table) (get_or-part k (omega (arith, f.before_end)))
      ∙ f.none_before (span.start + k) (omega arith) (omega arith))
      in
      ap (option_map (λ k. span.start + k)) found ∙ ap Some e

  -- where there is none the answer is None
  pub first_none : IsFree table haystack span.start span.end → first_place table haystack span ≡ None
  first_none free =
      ap (option_map (λ k. span.start + k)) (position_none (is_in table) part
      (λ k below. let inside : span.start + k < span.end = omega (arith, length-part) in
      ap (is_in table) (get_or-part k inside) ∙ free.none (span.start + k) (omega arith) inside))

  -- and the answer tells that
  pub free_from_first : first_place table haystack span ≡ None → IsFree table haystack span.start span.end
  free_from_first e =
      let none : position (is_in table) part ≡ None = shifted_none (position (is_in table) part) e in
      record {
        none = λ k after below. sym (at_part k after below)
            ∙ position-None (is_in table) part none (k - span.start) (omega (arith, length-part));
      }
    where
      shifted_none : (o : Option ℕ) → option_map (λ k. span.start + k) o ≡ None → o ≡ None
      shifted_none None h = refl
      shifted_none (Some x) h = cc

  pub is_first_from : (place : ℕ) → first_place table haystack span ≡ Some place → IsFirst table haystack span place
  is_first_from place e = from (position (is_in table) part) refl e
    where
      from : (o : Option ℕ) → position (is_in table) part ≡ o → option_map (λ k. span.start + k) o ≡ Some place
          → IsFirst table haystack span place
      from None p h = absurd cc
      from (Some x) p h =
          let at = position-Some (is_in table) part x 0 p in
          let same : span.start + x ≡ place = cc in
          let inside : span.start + x < span.end = omega (arith, length-part, at.0) in
          record {
            after_start = omega arith;
            before_end = omega arith;
            here = ap (λ y. is_in table (slice_index haystack y)) (sym same)
                ∙ (sym (ap (is_in table) (get_or-part x inside)) ∙ at.1);
            none_before = λ k after below. sym (at_part k after (omega arith)) ∙ at.2 (k - span.start) (omega arith);
          }

-- a step proposes nothing exactly if the span is free
pub none-is-free : (table : List (Option ℕ)) (haystack : List ℕ) (span : Span) → IsValidSpan haystack span
    → (proposed_place table haystack span ≡ None) ↔ ((place : ℕ) → span.start ≤ place → place < span.end
    → is_in table (slice_index haystack place) ≡ false)
none-is-free table haystack span valid = (
  λ e. (free_from_first table haystack span valid (stepped_none (first_place table haystack span) e)).none,
  λ free. ap (option_map (step_back table haystack span.start))
      (first_none table haystack span valid (record { none = free })),
)
  where
    stepped_none : (o : Option ℕ) → option_map (step_back table haystack span.start) o ≡ None → o ≡ None
    stepped_none None h = refl
    stepped_none (Some x) h = cc
