use Rattle.std.proofs.Common.{◌≡◌, ◌+◌, ◌-◌, ◌*◌, ◌≤◌, ◌∙◌, ℕ, ap, arith, length, set, sym}
use Rattle.std.proofs.lemmas.Bool.{false≢true}
use Rattle.std.proofs.lemmas.List.{length-set}
use Rattle.literal_base.specs.Counts.{Counts}
use Rattle.literal_leftmost.specs.Inside.Backward.{AreBackFor, back_tables_by}
use Rattle.literal_leftmost.specs.Inside.Leftmost.{AreLanes, AreSteps}
use Rattle.literal_leftmost.specs.SearchValue.{SearchValue}
use Rattle.literal_leftmost.specs.declared.lanes.Lanes.{Lanes}
use Rattle.literal_leftmost.proofs.lemmas.Leftmost.{held_of_four, marks_in_four, one_more, rows_of_steps, steps_in_four}
use Rattle.literal_leftmost.proofs.backward.Backward.mark_parts.Goals as goal

pub returns-then-not-are_rows-clause-marks : goal.returns-then-not-are_rows-clause-marks
returns-then-not-are_rows-clause-marks c = λ search is lanes marked.
    let step = c.loop-step.step - 1 in
    let tables = back_tables_by search c.args.self.now in
    let codes : Lanes = record {
      first = c.code_by-first.result;
      second = c.code_by-second.result;
      third = c.code_by-third.result;
      fourth = c.code_by-fourth.result;
    } in
    let now = c.loop-step.invariant.lanes search is lanes in
    let steps = steps_in_four tables is.tables c.args.haystack.now (λ i. omega (arith, c.type_inv.haystack i))
    c.args.span c.requires.valid.in_haystack c.args.at c.args.part c.loop-step.step step (c.args.at + step)
    c.loop-step.now codes (omega arith) (omega arith) now
    (c.code_by-first.ensures.number is.tables.classes now.first.stands.fits)
    (c.code_by-second.ensures.number is.tables.classes now.second.stands.fits)
    (c.code_by-third.ensures.number is.tables.classes now.third.stands.fits)
    (c.code_by-fourth.ensures.number is.tables.classes now.fourth.stands.fits) in
    let rows = rows_of_steps c.args.self.now search c.args.haystack.now c.args.span c.args.at c.args.part step
    c.args.limit codes c.requires.limit steps in
    false≢true (sym c.if-not-are_rows.true ∙ c.are_rows.ensures.1 rows)

pub loop-step-preserved : goal.loop-step-preserved
loop-step-preserved c =
    let haystack = c.args.haystack.now in
    let span = c.args.span in
    let at = c.args.at in
    let part = c.args.part in
    let left = c.args.left in
    let next = c.loop-step.step in
    let step = next - 1 in
    let so_far = c.loop-step.invariant in
    let before = so_far.before in
    let room : 4 * part ≤ length c.loop-step.marks = omega (arith, so_far.long, c.requires.room) in
    let codes : Lanes = record {
      first = c.code_by-first.result;
      second = c.code_by-second.result;
      third = c.code_by-third.result;
      fourth = c.code_by-fourth.result;
    } in
    let marks1 = set c.loop-step.marks step codes.first in
    let marks2 = set marks1 (step + part) codes.second in
    let marks3 = set marks2 (step + 2 * part) codes.third in
    let tables = λ (search : SearchValue). back_tables_by search c.args.self.now in
    let steps : (search : SearchValue) → AreBackFor search c.args.self.now
    → AreLanes (tables search) haystack span at part left c.args.lanes
    → AreSteps (tables search) haystack span at part step codes = λ search is lanes.
    let now = so_far.lanes search is lanes in
    steps_in_four (tables search) is.tables haystack (λ i. omega (arith, c.type_inv.haystack i)) span
    c.requires.valid.in_haystack at part next step (at + step) c.loop-step.now codes (omega arith) (omega arith) now
    (c.code_by-first.ensures.number is.tables.classes now.first.stands.fits)
    (c.code_by-second.ensures.number is.tables.classes now.second.stands.fits)
    (c.code_by-third.ensures.number is.tables.classes now.third.stands.fits)
    (c.code_by-fourth.ensures.number is.tables.classes now.fourth.stands.fits) in
    let sum : c.args.tally.now.scanned + 4 * (left - next) + 1 + 1 + 1 + 1
    ≡ c.args.tally.now.scanned + 4 * (left - step) = omega (arith, before) in
    record {
      before = omega (arith, before);
      long = length-set marks3 (step + 3 * part) codes.fourth
          ∙ (length-set marks2 (step + 2 * part) codes.third
          ∙ (length-set marks1 (step + part) codes.second
          ∙ (length-set c.loop-step.marks step codes.first ∙ so_far.long)));
      rows = c.are_rows.ensures.0 c.if-not-are_rows.false;
      lanes = λ search is lanes.
          let four = steps search is lanes in
          record {
            first = four.first.lane;
            second = four.second.lane;
            third = four.third.lane;
            fourth = four.fourth.lane;
          };
      marks = λ search is lanes marked.
          marks_in_four (tables search) haystack span at part step next c.loop-step.marks codes (omega arith)
          (omega (arith, before, c.requires.left)) room (steps search is lanes) (so_far.marks search is lanes marked);
      counted = c.code_by-fourth.ensures.ticks
          ∙ (one_more _ _ (c.code_by-third.ensures.ticks
          ∙ one_more _ _ (c.code_by-second.ensures.ticks
          ∙ one_more _ _ (c.code_by-first.ensures.ticks ∙ one_more _ _ so_far.counted)))
          ∙ ap (λ (n : ℕ). let n' : Counts = record c.args.tally.now { scanned = n } in n') sum);
    }

pub returns-clause-marks : goal.returns-clause-marks
returns-clause-marks c = λ search is lanes marked.
    grind (arith, held_of_four)
