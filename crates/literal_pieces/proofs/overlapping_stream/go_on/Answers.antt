use Rattle.std.proofs.Common.{◌≡◌, ◌++◌, ◌<◌, ◌≤◌, ◌∙◌, [], List, arith, false, length, subst, take, ℕ}
use Rattle.std.proofs.lemmas.Grind.{common_steps}
use Rattle.literal_occurrences.specs.Automaton.{EndsText, IsStateAfter}
use Rattle.literal_pieces.specs.Inside.OverlappingStream.{overlapping_stream}
use Rattle.literal_pieces.specs.Inside.Stream.{held}
use Rattle.literal_pieces.proofs.lemmas.OverlappingStreams.{comes_further, comes_no_further}
use Rattle.literal_pieces.proofs.overlapping_stream.go_on.Goals as goal

pub returns-then-is_empty-clause-come : goal.returns-then-is_empty-clause-come
returns-then-is_empty-clause-come g c =
    let (piece, reads, held_is, needed) = c.hold_some.ensures.read in
    let none : piece ≡ [] = grind (arith, common_steps) in
    comes_no_further
    (overlapping_stream c.args.automaton.now c.args.place.now c.args.window.now c.args.reading.now
    (g.R.Read.remaining c.args.reader.now) false)
    (overlapping_stream c.args.automaton.now c.args.place.now c.hold_some.new.window c.hold_some.new.reading
    (g.R.Read.remaining c.hold_some.new.reader) false) piece reads none (grind (arith, common_steps))

pub returns-clause-come : goal.returns-clause-come
returns-clause-come g c =
    let (piece, reads, held_is, needed) = c.hold_some.ensures.read in
    let t = c.args.automaton.now in
    let from = c.args.place.now.state in
    let count = c.walk-state.result.1 in
    let part = held c.args.window.now ++ piece in
    let part_is : c.held-2.result.now ≡ part = c.held-2.ensures ∙ held_is in
    let state_is = c.at.ensures.state in
    comes_further
    (overlapping_stream t c.args.place.now c.args.window.now c.args.reading.now
    (g.R.Read.remaining c.args.reader.now) false)
    (overlapping_stream t c.at.result c.pass.new.self c.hold_some.new.reading
    (g.R.Read.remaining c.hold_some.new.reader) false)
    piece c.args.place.now.ending.now count reads needed c.walk-state.ensures.further
    (subst (λ (l : List ℕ). count ≤ length l) part_is c.walk-state.ensures.within) (grind arith)
    c.requires.place.ending
    (λ text is. grind arith)
    (subst (λ (l : List ℕ). (text : List ℕ) → IsStateAfter t text from → (k : ℕ) → 0 < k → k < count → (i : ℕ)
    → ¬ EndsText t (text ++ take k l) i) part_is c.walk-state.ensures.none_before)
    (grind arith)
