use Rattle.std.proofs.Common.{◌≡◌, ◌+◌, ◌++◌, List, ℕ, arith, inl, inr, subst, take}
use Rattle.std.proofs.lemmas.Bool.{cases_lt}
use Rattle.literal_occurrences.specs.Automaton.{EndsText, IsStateAfter}
use Rattle.literal_pieces.proofs.lemmas.OverlappingStreams.{text_more}
use Rattle.literal_pieces.proofs.overlapping_stream.walk.Goals as goal

pub returns-then-is_match-clause-none_before : goal.returns-then-is_match-clause-none_before
returns-then-is_match-clause-none_before c = λ text is k some before.
    c.loop-at.invariant.none_upto text is k some (omega arith)

pub returns-clause-none_before : goal.returns-clause-none_before
returns-clause-none_before c = λ text is k some before.
    c.loop-at.invariant.none_upto text is k some (omega arith)

pub loop-at-preserved : goal.loop-at-preserved
loop-at-preserved c =
    let t = c.args.automaton.now in
    let part = c.args.haystack.now in
    let at = c.loop-at.at in
    let so_far = c.loop-at.invariant in
    let here : (text : List ℕ) → IsStateAfter t text c.args.from
    → IsStateAfter t (text ++ take (at + 1) part) c.next_at-state.result = λ text is.
    subst (λ (l : List ℕ). IsStateAfter t l c.next_at-state.result) (text_more text part at c.loop-at-test.true)
    (c.next_at-state.ensures.state (text ++ take at part) (so_far.leads text is)) in
    record {
      leads = here;
      none_upto = λ text is k some upto i ends. elim (cases_lt at k) [
        | inl last ↦
            let k_is : k ≡ at + 1 = omega arith in
            let matched = (c.is_match.ensures (text ++ take (at + 1) part) (here text is)).1
            (i, subst (λ (n : ℕ). EndsText t (text ++ take n part) i) k_is ends) in
            absurd (grind arith)
        | inr before ↦ so_far.none_upto text is k some before i ends
      ];
      counted = grind arith;
    }
