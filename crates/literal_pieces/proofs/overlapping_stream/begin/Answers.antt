use Rattle.std.proofs.Common.{arith, [], subst, sym, ℕ}
use Rattle.literal_pieces.specs.Inside.OverlappingStream.{IsSoundPlace}
use Rattle.literal_pieces.proofs.overlapping_stream.begin.Goals as goal

pub invariant_of-result : goal.invariant_of-result
invariant_of-result g c = λ is. (
  grind arith,
  subst (λ (n : ℕ). IsSoundPlace c.args.automaton n c.at-place.result) (sym c.in_ok-window.ensures.first)
      (c.at-place.ensures.sound [] c.start_state.ensures),
)

pub returns : goal.returns
returns g c =
    let start = c.start_state.ensures in
    let state_is = c.at-place.ensures.state in
    record {
      search_is = grind arith;
      nothing_read = grind arith;
      begins = grind arith;
    }
