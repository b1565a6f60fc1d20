use Rattle.std.proofs.Common.{◌++◌, ℕ, List, false, inl, inr, refl, slice_range, subst, sym, true}
use Rattle.literal_base.specs.Occurs.{between}
use Rattle.literal_search.specs.Automaton.{IsStateAfter}
use Rattle.literal_search.specs.PreparedOverlapping.{IsPreparedOverlapping, tables_in}
use Rattle.literal_search.specs.PreparedStates.{IsWalked}
use Rattle.literal_c.proofs.states.literal_walk_in.Goals as goal

pub returns-then-walked-clause-stopped : goal.returns-then-walked-clause-stopped
returns-then-walked-clause-stopped c = λ search prepared text is _.
    let asked = c.args in
    let of = c.in-Ok-walk.walked in
    let walked = subst (λ (numbers : List ℕ). IsPreparedOverlapping search numbers
    → IsStateAfter (tables_in search numbers) text asked.state
    → IsWalked (tables_in search numbers) text asked.haystack.now (between asked.start asked.end) of)
    c.in-Ok.ensures.0
    (subst (λ (state : ℕ). IsPreparedOverlapping search c.in-Ok.search
    → IsStateAfter (tables_in search c.in-Ok.search) text state
    → IsWalked (tables_in search c.in-Ok.search) text asked.haystack.now (between asked.start asked.end) of)
    c.new-2.ensures (λ array state. c.in-Ok-walk.ensures.prepared search array text state)) prepared is in (
      true,
      record {
        inside = walked.inside;
        state = subst (IsStateAfter (tables_in search asked.prepared.now)
            (text ++ slice_range asked.haystack.now asked.start of.at)) (sym c.as_u32.ensures) walked.state;
        none = walked.none;
        stops = elim walked.stops [
          | inl ends ↦ inl (refl, ends.1, ends.2)
          | inr through ↦ absurd (cc)
        ];
      },
      refl,
    )

pub returns-else-walked-clause-stopped : goal.returns-else-walked-clause-stopped
returns-else-walked-clause-stopped c = λ search prepared text is _.
    let asked = c.args in
    let of = c.in-Ok-walk.walked in
    let walked = subst (λ (numbers : List ℕ). IsPreparedOverlapping search numbers
    → IsStateAfter (tables_in search numbers) text asked.state
    → IsWalked (tables_in search numbers) text asked.haystack.now (between asked.start asked.end) of)
    c.in-Ok.ensures.0
    (subst (λ (state : ℕ). IsPreparedOverlapping search c.in-Ok.search
    → IsStateAfter (tables_in search c.in-Ok.search) text state
    → IsWalked (tables_in search c.in-Ok.search) text asked.haystack.now (between asked.start asked.end) of)
    c.new-2.ensures (λ array state. c.in-Ok-walk.ensures.prepared search array text state)) prepared is in (
      false,
      record {
        inside = walked.inside;
        state = subst (IsStateAfter (tables_in search asked.prepared.now)
            (text ++ slice_range asked.haystack.now asked.start of.at)) (sym c.as_u32.ensures) walked.state;
        none = walked.none;
        stops = elim walked.stops [
          | inl ends ↦ absurd (cc)
          | inr through ↦ inr (refl, through.1, through.2)
        ];
      },
      refl,
    )
