use Rattle.std.proofs.Common.{◌+◌, ◌∙◌, ℕ, ap, arith, map, min, refl, sym}
use Rattle.std.proofs.lemmas.Bool.{false≢true}
use Rattle.std.proofs.lemmas.List.{length-map}
use Rattle.std.specs.Global.{Vec}
use Rattle.literal_rows.specs.Patterns.{width_for}
use Rattle.literal_rows.proofs.lemmas.Classes.{marked_are, marks_all, none_marked, tells_by}
use Rattle.literal_rows.proofs.classes.classes_for.Goals as goal

pub loop-pattern-init : goal.loop-pattern-init
loop-pattern-init c = record {
  each = refl;
  marks = λ i d none. absurd (omega arith);
  only = λ b marked. absurd (false≢true (sym (none_marked b) ∙ marked));
}

pub returns-clause-tells : goal.returns-clause-tells
returns-clause-tells c =
    tells_by c.args.ignore_case c.loop-pattern.seen c.folded_table.result.table c.args.patterns.now
    c.folded_table.ensures.tells
    (λ i d below. c.loop-pattern.invariant.marks i d (omega (arith, c.loop-pattern-test.false)))

pub returns-clause-last : goal.returns-clause-last
returns-clause-last c = λ few i k is_pattern inside. grind (arith, marks_all)

pub returns-clause-width : goal.returns-clause-width
unfolding width_for
returns-clause-width c =
    let patterns = c.args.patterns.now in
    let lists = map (λ (p : Vec ℕ). p.items) patterns in
    let size = length-map patterns (λ (p : Vec ℕ). p.items) in
    c.folded_table.ensures.width
    ∙ ap (λ n. min (n + 1) 256)
    (c.numbers.ensures.count
    ∙ marked_are c.args.ignore_case c.loop-pattern.seen lists c.loop-pattern.invariant.each
    (marks_all c.args.ignore_case c.loop-pattern.seen patterns
    (λ i d below. c.loop-pattern.invariant.marks i d (omega (arith, c.loop-pattern-test.false))))
    (λ b marked.
    let one = c.loop-pattern.invariant.only b marked in
    (one.0, omega (arith, one.1, size, c.loop-pattern.auto.pattern-index-end), one.2)))
