use Rattle.std.proofs.Common.{◌≡◌, ◌+◌, ◌-◌, ◌*◌, ◌∙◌, ℕ, ap, arith, subst, sym}
use Rattle.std.proofs.lemmas.Bool.{false≢true}
use Rattle.literal_base.specs.Counts.{Counts}
use Rattle.literal_leftmost.specs.Inside.Backward.{AreBackFor, back_tables_by}
use Rattle.literal_leftmost.specs.Inside.Leftmost.{AreLanes, AreSteps, HaveRows}
use Rattle.literal_leftmost.specs.Inside.Trail.{HaveCrossed}
use Rattle.literal_leftmost.specs.SearchValue.{SearchValue}
use Rattle.literal_leftmost.specs.declared.lanes.Lanes.{Lanes}
use Rattle.literal_leftmost.proofs.lemmas.Leftmost.{one_more, rows_of_steps, steps_in_four}
use Rattle.literal_leftmost.proofs.lemmas.TrailInFour.{four_crossed}
use Rattle.literal_leftmost.proofs.backward.Backward.cross_in_four.Goals as goal

pub returns-then-not-are_rows-clause-lanes : goal.returns-then-not-are_rows-clause-lanes
returns-then-not-are_rows-clause-lanes c = λ search is lanes.
    let step = c.loop-step.step - 1 in
    let tables = back_tables_by search c.args.self.now in
    let codes : Lanes = record {
      first = c.next_at-first.result;
      second = c.next_at-second.result;
      third = c.next_at-third.result;
      fourth = c.next_at-fourth.result;
    } in
    let now = c.loop-step.invariant.lanes search is lanes in
    let steps = steps_in_four tables is.tables c.args.haystack.now (λ i. omega (arith, c.type_inv.haystack i))
    c.args.span c.requires.valid.in_haystack c.args.at c.args.part c.loop-step.step step (c.args.at + step)
    c.loop-step.now codes (omega arith) (omega arith) now
    (c.next_at-first.ensures.number is.tables.classes now.first.stands.fits)
    (c.next_at-second.ensures.number is.tables.classes now.second.stands.fits)
    (c.next_at-third.ensures.number is.tables.classes now.third.stands.fits)
    (c.next_at-fourth.ensures.number is.tables.classes now.fourth.stands.fits) in
    let rows = rows_of_steps c.args.self.now search c.args.haystack.now c.args.span c.args.at c.args.part step
    c.args.limit codes c.requires.limit steps in
    false≢true (sym c.if-not-are_rows.true
    ∙ c.are_rows.ensures.1 (subst (HaveRows c.args.limit) (sym c.rows-now.ensures) rows))

pub loop-step-preserved : goal.loop-step-preserved
loop-step-preserved c =
    let haystack = c.args.haystack.now in
    let span = c.args.span in
    let at = c.args.at in
    let part = c.args.part in
    let left = c.args.left in
    let next = c.loop-step.step in
    let step = next - 1 in
    let so_far = c.loop-step.invariant in
    let before = so_far.before in
    let codes : Lanes = record {
      first = c.next_at-first.result;
      second = c.next_at-second.result;
      third = c.next_at-third.result;
      fourth = c.next_at-fourth.result;
    } in
    let tables = λ (search : SearchValue). back_tables_by search c.args.self.now in
    let steps : (search : SearchValue) → AreBackFor search c.args.self.now
    → AreLanes (tables search) haystack span at part left c.args.lanes
    → AreSteps (tables search) haystack span at part step codes = λ search is lanes.
    let now = so_far.lanes search is lanes in
    steps_in_four (tables search) is.tables haystack (λ i. omega (arith, c.type_inv.haystack i)) span
    c.requires.valid.in_haystack at part next step (at + step) c.loop-step.now codes (omega arith) (omega arith) now
    (c.next_at-first.ensures.number is.tables.classes now.first.stands.fits)
    (c.next_at-second.ensures.number is.tables.classes now.second.stands.fits)
    (c.next_at-third.ensures.number is.tables.classes now.third.stands.fits)
    (c.next_at-fourth.ensures.number is.tables.classes now.fourth.stands.fits) in
    let sum : c.args.tally.now.scanned + 4 * (left - next) + 1 + 1 + 1 + 1
    ≡ c.args.tally.now.scanned + 4 * (left - step) = omega (arith, before) in
    record {
      after = omega arith;
      before = omega (arith, before);
      rows = c.are_rows.ensures.0 c.if-not-are_rows.false;
      lanes = λ search is lanes.
          let four = steps search is lanes in
          subst (AreLanes (tables search) haystack span at part step) (sym c.rows-now.ensures) (record {
            first = four.first.lane;
            second = four.second.lane;
            third = four.third.lane;
            fourth = four.fourth.lane;
          });
      none = λ search is lanes.
          subst (HaveCrossed (tables search) haystack span.end at part step left) (sym c.joined-read.ensures)
          (four_crossed (tables search) haystack span at part step next left c.loop-step.read codes
          (omega (arith, before, c.requires.left)) (omega arith) (steps search is lanes)
          (so_far.none search is lanes));
      counted = c.next_at-fourth.ensures.ticks
          ∙ (one_more _ _ (c.next_at-third.ensures.ticks
          ∙ one_more _ _ (c.next_at-second.ensures.ticks
          ∙ one_more _ _ (c.next_at-first.ensures.ticks ∙ one_more _ _ so_far.counted)))
          ∙ ap (λ (n : ℕ). let n' : Counts = record c.args.tally.now { scanned = n } in n') sum);
    }

pub returns-clause-lanes : goal.returns-clause-lanes
returns-clause-lanes c = λ search is lanes.
    let done : c.loop-step.step ≡ c.args.left - 128 =
    omega (arith, c.loop-step.invariant.after, c.loop-step-test.false) in
    subst (λ n. AreLanes (back_tables_by search c.args.self.now) c.args.haystack.now c.args.span c.args.at c.args.part n
    c.loop-step.now) done (c.loop-step.invariant.lanes search is lanes)

pub returns-clause-none : goal.returns-clause-none
returns-clause-none c = λ search is lanes.
    let done : c.loop-step.step ≡ c.args.left - 128 =
    omega (arith, c.loop-step.invariant.after, c.loop-step-test.false) in
    subst (λ n. HaveCrossed (back_tables_by search c.args.self.now) c.args.haystack.now c.args.span.end c.args.at
    c.args.part n c.args.left c.loop-step.read) done (c.loop-step.invariant.none search is lanes)
