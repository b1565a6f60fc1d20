use Rattle.std.proofs.Common.{arith, subst, sym}
use Rattle.literal_occurrences.specs.Automaton.{EndsText}
use Rattle.literal_pieces.proofs.overlapping_stream.next_ending.Goals as goal

pub pattern_len-requires : goal.pattern_len-requires
pattern_len-requires c =
    let there = c.in_ok-pattern.ensures.lookup.3 in
    let ends = (c.requires.ending c.requires.text c.requires.after).each c.args.place.now.given 0 there.0 in
    omega (arith, there.1 0, ends.1.is_pattern)

pub overflow_sub-start : goal.overflow_sub-start
overflow_sub-start c =
    let there = c.in_ok-pattern.ensures.lookup.3 in
    let ends = subst (EndsText c.args.automaton.now c.requires.text) (sym (there.1 0))
    ((c.requires.ending c.requires.text c.requires.after).each c.args.place.now.given 0 there.0) in
    omega (arith, ends.2, c.requires.long, c.pattern_len.ensures.len)

pub returns-clause-found : goal.returns-clause-found
returns-clause-found c =
    let there = c.in_ok-pattern.ensures.lookup.3 in
    let ends = subst (EndsText c.args.automaton.now c.requires.text) (sym (there.1 0))
    ((c.requires.ending c.requires.text c.requires.after).each c.args.place.now.given 0 there.0) in
    let start = ends.2 in
    let is = there.1 0 in
    let len = c.pattern_len.ensures.len in
    let long = c.requires.long in
    grind arith
