use Rattle.std.proofs.Common.{◌≡◌, ◌+◌, ◌-◌, ◌*◌, ◌≤◌, ◌^◌, ◌∙◌, ℕ, ap, arith, subst, sym}
use Rattle.std.proofs.lemmas.Bool.{false≢true}
use Rattle.literal_base.specs.Counts.{Counts}
use Rattle.literal_leftmost.specs.Inside.Backward.{AreBackFor, back_tables_by}
use Rattle.literal_leftmost.specs.Inside.Leftmost.{AreLanes, NoneAfter}
use Rattle.literal_leftmost.specs.SearchValue.{SearchValue}
use Rattle.literal_leftmost.specs.declared.lanes.Lanes.{Lanes}
use Rattle.literal_leftmost.proofs.lemmas.Leftmost.{lanes_on, none_on_four, one_more, rows_if_none, steps_in_four}
use Rattle.literal_leftmost.proofs.backward.Backward.pass_in_four.Goals as goal

pub returns-then-not-are_rows : goal.returns-then-not-are_rows
returns-then-not-are_rows c =
    let part = c.args.part in
    let step = c.loop-step.step in
    let left = part - step - 1 in
    let codes : Lanes = record {
      first = c.next_at-first.result;
      second = c.next_at-second.result;
      third = c.next_at-third.result;
      fourth = c.next_at-fourth.result;
    } in
    let tables = λ (search : SearchValue). back_tables_by search c.args.self.now in
    let steps = λ (search : SearchValue) (is : AreBackFor search c.args.self.now)
    (lanes : AreLanes (tables search) c.args.haystack.now c.args.span c.args.at part part c.args.lanes).
    let now = c.loop-step.invariant.lanes search is lanes in
    steps_in_four (tables search) is.tables c.args.haystack.now (λ i. omega (arith, c.type_inv.haystack i))
    c.args.span c.requires.valid.in_haystack c.args.at part (part - step) left (c.args.at + left) c.loop-step.now codes
    (omega arith) (omega arith) now (c.next_at-first.ensures.number is.tables.classes now.first.stands.fits)
    (c.next_at-second.ensures.number is.tables.classes now.second.stands.fits)
    (c.next_at-third.ensures.number is.tables.classes now.third.stands.fits)
    (c.next_at-fourth.ensures.number is.tables.classes now.fourth.stands.fits) in
    let sum : c.args.tally.now.scanned + 4 * step + 1 + 1 + 1 + 1
    ≡ c.args.tally.now.scanned + 4 * (part - (part - step - 1)) = omega arith in
    record {
      left = omega arith;
      steps = λ _ search is lanes. steps search is lanes;
      fits = λ _. record {
        first = c.next_at-first.ensures.fits;
        second = c.next_at-second.ensures.fits;
        third = c.next_at-third.ensures.fits;
        fourth = c.next_at-fourth.ensures.fits;
      };
      none = c.loop-step.invariant.none;
      some = λ _ search is lanes none.
          let lead_on = rows_if_none c.args.self.now search is c.args.haystack.now c.args.span c.args.at part left
          c.args.limit codes c.requires.limit (omega arith) (steps search is lanes) none in
          absurd (false≢true (sym c.if-not-are_rows.true ∙ c.are_rows.ensures.1 lead_on));
      counted = c.next_at-fourth.ensures.ticks
          ∙ (one_more _ _ (c.next_at-third.ensures.ticks
          ∙ one_more _ _ (c.next_at-second.ensures.ticks
          ∙ one_more _ _ (c.next_at-first.ensures.ticks ∙ one_more _ _ c.loop-step.invariant.counted)))
          ∙ ap (λ (n : ℕ). let n' : Counts = record c.args.tally.now { scanned = n } in n') sum);
    }

pub loop-step-preserved : goal.loop-step-preserved
loop-step-preserved c =
    let part = c.args.part in
    let step = c.loop-step.step in
    let left = part - step - 1 in
    let same : left ≡ part - (step + 1) = omega arith in
    let so_far = c.loop-step.invariant in
    let lead_on = c.are_rows.ensures.0 c.if-not-are_rows.false in
    let small : c.args.limit ≤ 2 ^ 31 = omega (arith, c.requires.limit.is) in
    let codes : Lanes = record {
      first = c.next_at-first.result;
      second = c.next_at-second.result;
      third = c.next_at-third.result;
      fourth = c.next_at-fourth.result;
    } in
    let tables = λ (search : SearchValue). back_tables_by search c.args.self.now in
    let steps = λ (search : SearchValue) (is : AreBackFor search c.args.self.now)
    (lanes : AreLanes (tables search) c.args.haystack.now c.args.span c.args.at part part c.args.lanes).
    let now = so_far.lanes search is lanes in
    steps_in_four (tables search) is.tables c.args.haystack.now (λ i. omega (arith, c.type_inv.haystack i))
    c.args.span c.requires.valid.in_haystack c.args.at part (part - step) left (c.args.at + left) c.loop-step.now codes
    (omega arith) (omega arith) now (c.next_at-first.ensures.number is.tables.classes now.first.stands.fits)
    (c.next_at-second.ensures.number is.tables.classes now.second.stands.fits)
    (c.next_at-third.ensures.number is.tables.classes now.third.stands.fits)
    (c.next_at-fourth.ensures.number is.tables.classes now.fourth.stands.fits) in
    let sum : c.args.tally.now.scanned + 4 * step + 1 + 1 + 1 + 1 ≡ c.args.tally.now.scanned + 4 * (step + 1) =
    omega arith in
    record {
      rows = lead_on;
      lanes = λ search is lanes. subst
          (λ n. AreLanes (tables search) c.args.haystack.now c.args.span c.args.at part n codes) same
          (lanes_on (tables search) c.args.haystack.now c.args.span c.args.at part left c.args.limit codes small lead_on
          (steps search is lanes));
      none = λ search is lanes. subst
          (λ n. NoneAfter (tables search) c.args.haystack.now c.args.span.end c.args.at part n) same
          (none_on_four (tables search) c.args.haystack.now c.args.span c.args.at part left c.args.limit codes small
          lead_on (steps search is lanes) (part - step) (omega arith) (omega arith) (so_far.none search is lanes));
      counted = c.next_at-fourth.ensures.ticks
          ∙ (one_more _ _ (c.next_at-third.ensures.ticks
          ∙ one_more _ _ (c.next_at-second.ensures.ticks
          ∙ one_more _ _ (c.next_at-first.ensures.ticks ∙ one_more _ _ so_far.counted)))
          ∙ ap (λ (n : ℕ). let n' : Counts = record c.args.tally.now { scanned = n } in n') sum);
    }
