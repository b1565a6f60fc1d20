use Rattle.std.proofs.Common.{◌≡◌, ◌-◌, ◌<◌, ◌++◌, ◌∷◌, [], arith, drop, length, refl, slice_range}
use Rattle.std.proofs.lemmas.List.{length-drop, length-take-le, length_push}
use Rattle.std.proofs.lemmas.List.Elements.{All-nil, All-push}
use Rattle.litscan.specs.Inside.Passed.{HasNoMatch}
use Rattle.litscan.specs.Lines.{HasNoEnd}
use Rattle.litscan.proofs.lemmas.Long.{passes_to, too_long}
use Rattle.litscan.proofs.lemmas.Whole.{few_lines, makes_behind}
use Rattle.litscan.proofs.passed.look_for_len.Goals as goal

pub loop-at-init : goal.loop-at-init
loop-at-init c = record {
  seen = [];
  makes = record { whole = All-nil (HasNoEnd c.args.options.line_end); are = refl };
  none = All-nil (HasNoMatch c.args.search.now c.args.options);
  count = refl;
  inside = omega arith;
}

pub returns-then-saturating_sub-most : goal.returns-then-saturating_sub-most
returns-then-saturating_sub-most c =
    let so_far = c.loop-at.invariant in
    let end = c.first_end-end.ensures in
    let inside : c.first_end-end.result < length c.args.bytes.now = omega (arith, end.inside, c.if-end-bytes.false) in
    passes_to c.args.search.now c.args.options c.requires c.args.bytes.now c.loop-at.at c.loop-at.lines so_far.seen
    so_far.makes so_far.none so_far.count so_far.inside c.first_end-end.result end.inside.0 inside end.none
    (end.feed inside)

pub overflow_add-lines : goal.overflow_add-lines
overflow_add-lines c =
    let so_far = c.loop-at.invariant in
    omega (
      arith,
      so_far.count,
      few_lines c.args.options.line_end so_far.makes,
      length-take-le c.loop-at.at c.args.bytes.now so_far.inside,
      c.loop-at-test.true,
      c.loop-at.auto.at-fits,
    )

pub loop-at-preserved : goal.loop-at-preserved
loop-at-preserved c =
    let so_far = c.loop-at.invariant in
    let options = c.args.options in
    let bytes = c.args.bytes.now in
    let at = c.loop-at.at in
    let end = c.first_end-end in
    let line = slice_range bytes at end.result in
    let inside : end.result < length bytes = omega (arith, end.ensures.inside, c.if-end-bytes.false) in
    let size : length line ≡ end.result - at =
    length-take-le (end.result - at) (drop at bytes) (omega (arith, length-drop at bytes, inside)) in
    record {
      seen = so_far.seen ++ line ∷ [];
      makes = makes_behind options.line_end bytes at end.result so_far.seen end.ensures.inside.0 inside end.ensures.none
          (end.ensures.feed inside) so_far.makes;
      none = All-push (HasNoMatch c.args.search.now options) so_far.seen line so_far.none
          (too_long c.args.search.now options c.requires line
          (omega (
            arith,
            size,
            c.if-saturating_sub-most.false,
            c.saturating_sub.ensures,
            c.max_pattern_len-most.ensures,
          )));
      count = omega (arith, so_far.count, length_push so_far.seen line);
      inside = omega (arith, inside);
    }
