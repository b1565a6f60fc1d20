use Rattle.std.proofs.Common.{◌≡◌, ◌+◌, ◌∙◌, ◌++◌, ◌∷◌, [], ℕ, List, ap, arith, length, refl, slice_range, subst}
use Rattle.std.proofs.Common.{sym}
use Rattle.std.proofs.Common.{take}
use Rattle.std.proofs.KnownBytes.{Appends-nil, Appends-trans}
use Rattle.std.proofs.lemmas.List.{length-take-le, length_push, take_all}
use Rattle.std.proofs.lemmas.List.Elements.{All-nil}
use Rattle.std.specs.Io.KnownBytes.{Appends}
use Rattle.litscan.specs.Inside.Passed.{printed_each}
use Rattle.litscan.specs.Lines.{HasNoEnd}
use Rattle.litscan.specs.Printed.{printed_part}
use Rattle.litscan.proofs.lemmas.Others.{each_more}
use Rattle.litscan.proofs.lemmas.Whole.{Makes, ends_inside, few_lines, makes_behind, makes_lines}
use Rattle.litscan.proofs.buffered.print_each.Goals as goal

pub loop-at-init : goal.loop-at-init
loop-at-init g c = record {
  seen = [];
  makes = record { whole = All-nil (HasNoEnd c.args.options.line_end); are = refl };
  written = Appends-nil _;
  next_is = omega arith;
  inside = omega arith;
}

pub overflow_add-next : goal.overflow_add-next
overflow_add-next g c =
    let so_far = c.loop-at.invariant in
    omega (
      arith,
      so_far.next_is,
      few_lines c.args.options.line_end so_far.makes,
      length-take-le c.loop-at.at c.args.bytes.now so_far.inside,
      c.loop-at-test.true,
      c.requires.number,
    )

pub loop-at-preserved : goal.loop-at-preserved
loop-at-preserved g c =
    let so_far = c.loop-at.invariant in
    let options = c.args.options in
    let name = c.args.name.now in
    let line_end = options.line_end in
    let bytes = c.args.bytes.now in
    let at = c.loop-at.at in
    let end = c.first_end-end in
    let line = slice_range bytes at end.result in
    let inside = ends_inside line_end bytes at end.result c.requires.whole c.loop-at-test.true end.ensures.inside.0
    end.ensures.inside.1 end.ensures.none in
    let behind : c.args.offset + at ≡ c.args.offset + length (take at bytes) =
    omega (arith, length-take-le at bytes so_far.inside) in
    let part = printed_part options name c.loop-at.next (c.args.offset + at) line line in
    record {
      seen = so_far.seen ++ line ∷ [];
      makes =
          makes_behind line_end bytes at end.result so_far.seen end.ensures.inside.0 inside end.ensures.none
          (end.ensures.feed inside) so_far.makes;
      written =
          subst (Appends _ _)
          (sym (each_more options name c.args.number c.args.offset c.loop-at.next (c.args.offset + at) so_far.seen line
          so_far.next_is (behind ∙ ap (λ (l : List ℕ). c.args.offset + length l) so_far.makes.are)))
          (Appends-trans _ _ _ (printed_each options name c.args.number c.args.offset so_far.seen) part so_far.written
          c.in_ok-print_part.ensures.printed);
      next_is = omega (arith, so_far.next_is, length_push so_far.seen line);
      inside = omega (arith, inside);
    }

pub returns-clause-written : goal.returns-clause-written
returns-clause-written g c =
    let so_far = c.loop-at.invariant in
    let line_end = c.args.options.line_end in
    let all : take c.loop-at.at c.args.bytes.now ≡ c.args.bytes.now =
    take_all c.loop-at.at c.args.bytes.now (omega (arith, c.loop-at-test.false)) in
    let lines = makes_lines line_end (subst (λ bytes. Makes line_end bytes so_far.seen) all so_far.makes) in
    subst (Appends _ _)
    (ap (printed_each c.args.options c.args.name.now c.args.number c.args.offset) (sym lines)) so_far.written
