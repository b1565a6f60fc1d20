use Rattle.std.proofs.Common.{◌+◌, arith, inl, inr, length}
use Rattle.std.proofs.lemmas.Bool.{cases_lt}
use Rattle.literal_base.specs.Occurs.{pattern_at}
use Rattle.literal_search.proofs.lemmas.Callers.{part_step, part_tells}
use Rattle.literal_examples.proofs.stepping.first_end.Goals as goal

pub loop-at-preserved : goal.loop-at-preserved
loop-at-preserved c =
    let is_for = c.automaton-automaton.ensures in
    let state = part_step is_for c.args.haystack.now 0 c.loop-at.at (omega arith) c.loop-at.state (omega arith)
    c.loop-at.invariant.state c.next_state-state.result c.next_state-state.ensures in
    let told = part_tells is_for c.args.haystack.now 0 (c.loop-at.at + 1) (omega arith) c.next_state-state.result
    (omega arith) state c.is_match.result c.is_match.ensures in
    record {
      state = state;
      none = λ i place o.
          let before = c.loop-at.invariant.none i place o in
          elim (cases_lt (c.loop-at.at + 1) (place + length (pattern_at c.args.search.now.patterns i))) [
            | inl further ↦ further
            | inr here ↦
                let yes = told.1 (i, place, o, omega arith) in grind arith
          ];
    }

pub returns-then-is_match : goal.returns-then-is_match
returns-then-is_match c =
    let is_for = c.automaton-automaton.ensures in
    let state = part_step is_for c.args.haystack.now 0 c.loop-at.at (omega arith) c.loop-at.state (omega arith)
    c.loop-at.invariant.state c.next_state-state.result c.next_state-state.ensures in
    let told = part_tells is_for c.args.haystack.now 0 (c.loop-at.at + 1) (omega arith) c.next_state-state.result
    (omega arith) state c.is_match.result c.is_match.ensures in
    record {
      occurs = told.0 (grind arith);
      first = λ i place o.
          let before = c.loop-at.invariant.none i place o in
          omega arith;
    }
