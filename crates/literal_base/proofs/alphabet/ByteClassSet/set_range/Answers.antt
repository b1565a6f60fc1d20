use Rattle.std.proofs.Common.{◌≡◌, ◌+◌, ◌-◌, ◌==◌, ◌||◌, ℕ, length, length-set, ap, ◌∙◌, arith}
use Rattle.literal_base.specs.Bytes.{contains}
use Rattle.literal_base.proofs.lemmas.Marks.{with_range_marked_is, before_start, before_zero}
use Rattle.literal_base.proofs.alphabet.ByteClassSet.set_range.Goals.{then-start-gt0, else-start-gt0}
use Rattle.literal_base.proofs.alphabet.ByteClassSet.set_range.Goals as goal

pub returns : goal.returns
returns c =
    let old = c.args.self.now in
    let mid = c.if-start-gt0.self-inside.marked in
    let start = c.args.start in
    let mid_whole : length mid ≡ 256 = elim c.if-start-gt0.branch [
      | then-start-gt0 w ↦ ap (λ i. length i.marked) w.self-inside-is
          ∙ (ap length w.add.ensures.all ∙ (length-set _ _ _ ∙ c.self.invariant))
      | else-start-gt0 w ↦ ap (λ i. length i.marked) w.self-inside-is ∙ c.self.invariant
    ] in
    let before : (b : ℕ) → contains mid b ≡ (contains old b || b + 1 == start) = elim c.if-start-gt0.branch [
      | then-start-gt0 w ↦ λ b. ap (λ i. contains i.marked b) w.self-inside-is
          ∙ (w.add.ensures.each b
          ∙ (ap (λ set. contains set b || b == start - 1) c.self.view_is
          ∙ ap (λ t. contains old b || t) (before_start start b w.if-start-gt0.true)))
      | else-start-gt0 w ↦ λ b. ap (λ i. contains i.marked b) w.self-inside-is
          ∙ (ap (λ set. contains set b) c.self.view_is
          ∙ before_zero old start b (omega arith))
    ] in
    with_range_marked_is old mid c.add-2.new.self start c.args.end
    (ap length c.add-2.ensures.all ∙ (length-set _ _ _ ∙ mid_whole)) before c.add-2.ensures.each
