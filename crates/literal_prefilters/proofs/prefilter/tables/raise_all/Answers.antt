use Rattle.std.proofs.Common.{◌==◌, ◌||◌, max, cond, slice_index, sym, ap, ◌∙◌}
use Rattle.literal_prefilters.proofs.lemmas.Case.{same_byte-ignored, same_byte-kept}
use Rattle.literal_prefilters.proofs.lemmas.Offsets.{offset_below-more, raised_twice}
use Rattle.literal_prefilters.proofs.prefilter.tables.raise_all.Goals as goal
use Rattle.literal_prefilters.proofs.prefilter.tables.raise_all.Goals.{then-ignore_case, else-ignore_case}

pub loop-offset-preserved : goal.loop-offset-preserved
loop-offset-preserved c = λ b.
    let p = c.args.pattern.now in
    let n = c.loop-offset.offset in
    let x = slice_index p n in
    let start = slice_index c.args.offsets.now b in
    let old = slice_index c.loop-offset.offsets b in
    let one = slice_index c.raise.new.offsets b in
    let new = slice_index c.if-ignore_case.offsets b in
    elim c.if-ignore_case.branch [
      | then-ignore_case w ↦
          offset_below-more c.args.ignore_case b p n start old new (c.loop-offset.invariant b)
          (ap (λ os. slice_index os b) w.offsets-is
          ∙ (raised_twice (b == x) (b == w.opposite_ascii_case.result) n old one _ (c.raise.ensures b)
          (w.raise-then-ignore_case.ensures b)
          ∙ ap (λ t. cond t (max old n) old)
          (ap (λ y. b == x || b == y) w.opposite_ascii_case.ensures
          ∙ sym (same_byte-ignored c.args.ignore_case b x w.if-ignore_case.true))))
      | else-ignore_case w ↦
          offset_below-more c.args.ignore_case b p n start old new (c.loop-offset.invariant b)
          (ap (λ os. slice_index os b) w.offsets-is
          ∙ (c.raise.ensures b ∙ ap (λ t. cond t (max old n) old)
          (sym (same_byte-kept c.args.ignore_case b x w.if-ignore_case.false))))
    ]
