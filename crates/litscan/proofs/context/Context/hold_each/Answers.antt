use Rattle.std.proofs.Common.{◌≡◌, ◌+◌, ◌-◌, ◌∙◌, ◌++◌, ◌∷◌, [], List, ap, arith, length, refl, rules, slice_range}
use Rattle.std.proofs.Common.{subst, sym, take}
use Rattle.std.proofs.lemmas.List.{length-take-le, take_all}
use Rattle.std.proofs.lemmas.List.Elements.{All-nil}
use Rattle.litscan.specs.Inside.Groups.{PassesOver}
use Rattle.litscan.specs.Lines.{HasNoEnd}
use Rattle.litscan.proofs.lemmas.Over.{passes_more, passes_none, same_length}
use Rattle.litscan.proofs.lemmas.Whole.{Makes, ends_inside, few_lines, makes_behind, makes_lines}
use Rattle.litscan.proofs.context.Context.hold_each.Goals as goal

pub loop-at-init : goal.loop-at-init
loop-at-init c = record {
  seen = [];
  makes = record { whole = All-nil (HasNoEnd c.args.options.line_end); are = refl };
  over = passes_none c.args.options c.args.self.now c.requires.well;
  inside = omega arith;
}

pub hold-requires-clause-due : goal.hold-requires-clause-due
hold-requires-clause-due c = c.loop-at.invariant.over.due_is ∙ c.requires.due

pub hold-requires-clause-well : goal.hold-requires-clause-well
hold-requires-clause-well c = c.loop-at.invariant.over.well

pub hold-requires-clause-number : goal.hold-requires-clause-number
hold-requires-clause-number c =
    let so_far = c.loop-at.invariant in
    omega (
      arith,
      so_far.over.number_is,
      few_lines c.args.options.line_end so_far.makes,
      length-take-le c.loop-at.at c.args.bytes.now so_far.inside,
      c.loop-at-test.true,
      c.requires.number,
    )

pub hold-requires-clause-offset : goal.hold-requires-clause-offset
hold-requires-clause-offset c =
    let so_far = c.loop-at.invariant in
    let line_end = c.args.options.line_end in
    let end = c.first_end-end in
    let inside = ends_inside line_end c.args.bytes.now c.loop-at.at end.result c.requires.whole c.loop-at-test.true
    end.ensures.inside.0 end.ensures.inside.1 end.ensures.none in
    let long : length c.in_ok-line.line.items ≡ end.result - c.loop-at.at = search rules in
    omega (
      arith,
      so_far.over.offset_is,
      same_length line_end so_far.seen,
      ap (λ (l : List _). length l) so_far.makes.are,
      length-take-le c.loop-at.at c.args.bytes.now so_far.inside,
      inside,
      long,
      c.requires.offset,
    )

pub loop-at-preserved : goal.loop-at-preserved
loop-at-preserved c =
    let so_far = c.loop-at.invariant in
    let line_end = c.args.options.line_end in
    let bytes = c.args.bytes.now in
    let end = c.first_end-end in
    let line = c.in_ok-line.line.items in
    let is : line ≡ slice_range bytes c.loop-at.at end.result = search rules in
    let inside = ends_inside line_end bytes c.loop-at.at end.result c.requires.whole c.loop-at-test.true
    end.ensures.inside.0 end.ensures.inside.1 end.ensures.none in
    let done = c.in_ok-hold.ensures in
    record {
      seen = so_far.seen ++ line ∷ [];
      makes = subst (λ l. Makes line_end (take (end.result + 1) bytes) (so_far.seen ++ l ∷ [])) (sym is)
          (makes_behind line_end bytes c.loop-at.at end.result so_far.seen end.ensures.inside.0 inside end.ensures.none
          (end.ensures.feed inside) so_far.makes);
      over = passes_more c.args.options c.args.self.now c.loop-at.self c.hold.new.self so_far.seen line so_far.over
          done.goes_on done.follows (done.due ∙ sym (so_far.over.due_is ∙ c.requires.due));
      inside = omega (arith, inside);
    }

pub returns-clause-over : goal.returns-clause-over
returns-clause-over c =
    let so_far = c.loop-at.invariant in
    let line_end = c.args.options.line_end in
    let all : take c.loop-at.at c.args.bytes.now ≡ c.args.bytes.now =
    take_all c.loop-at.at c.args.bytes.now (omega (arith, c.loop-at-test.false)) in
    subst (PassesOver c.args.options c.args.self.now c.loop-at.self)
    (sym (makes_lines line_end (subst (λ bytes. Makes line_end bytes so_far.seen) all so_far.makes))) so_far.over
