use Rattle.std.proofs.Common.{◌≡◌, ◌+◌, ◌-◌, ◌*◌, ◌∙◌, arith, set, subst}
use Rattle.std.proofs.lemmas.List.{length-set}
use Rattle.literal_leftmost.specs.Inside.Backward.{back_tables_by}
use Rattle.literal_leftmost.specs.Inside.Leftmost.{AreLanes, HoldAfter}
use Rattle.literal_leftmost.specs.Inside.Trail.{IsShortCell}
use Rattle.literal_leftmost.specs.declared.lanes.Lanes.{Lanes}
use Rattle.literal_leftmost.proofs.lemmas.Leftmost.{held_of_four}
use Rattle.literal_leftmost.proofs.lemmas.TrailInFour.{cells_in_four}
use Rattle.literal_leftmost.proofs.backward.Backward.leave_in_four.Goals as goal

pub loop-i-preserved : goal.loop-i-preserved
loop-i-preserved c =
    let i = c.loop-i.i - 1 in
    let steps = c.args.steps in
    let left = 128 * i + 128 in
    let so_far = c.loop-i.invariant in
    let haystack = c.args.haystack.now in
    let at = c.args.at in
    let crossed = c.in_ok-crossed in
    let codes : Lanes = record {
      first = c.cell_of.result;
      second = c.cell_of-in-loop-i.result;
      third = c.cell_of-in-loop-i-2.result;
      fourth = c.cell_of-in-loop-i-3.result;
    } in
    let cells1 = set c.loop-i.cells i codes.first in
    let cells2 = set cells1 (i + steps) codes.second in
    let cells3 = set cells2 (i + 2 * steps) codes.third in
    let whole : 128 * c.loop-i.i ≡ left = omega (arith, c.loop-i-test.true) in
    record {
      before = omega (arith, so_far.before);
      long = length-set cells3 (i + 3 * steps) codes.fourth
          ∙ (length-set cells2 (i + 2 * steps) codes.third
          ∙ (length-set cells1 (i + steps) codes.second
          ∙ (length-set c.loop-i.cells i codes.first ∙ so_far.long)));
      rows = crossed.ensures.rows;
      lanes = λ search is.
          let tables = back_tables_by search c.args.self.now in
          let less : left - 128 ≡ 128 * i = omega arith in
          subst (λ n. AreLanes tables haystack c.args.span at (128 * steps) n crossed.crossed.lanes) less
          (crossed.ensures.lanes search is
          (subst (λ n. AreLanes tables haystack c.args.span at (128 * steps) n c.loop-i.lanes) whole
          (so_far.lanes search is)));
      cells = λ search is.
          let tables = back_tables_by search c.args.self.now in
          let lanes = subst (λ n. AreLanes tables haystack c.args.span at (128 * steps) n c.loop-i.lanes) whole
          (so_far.lanes search is) in
          cells_in_four tables haystack c.args.span at steps i c.loop-i.i (left - 128) left c.loop-i.cells
          c.loop-i.lanes crossed.crossed.read codes (omega (arith, c.loop-i-test.true)) so_far.before (omega arith)
          (omega arith) (omega (arith, so_far.long, c.requires.room)) lanes (crossed.ensures.none search is lanes)
          (c.cell_of.ensures.row, c.cell_of.ensures.none)
          (c.cell_of-in-loop-i.ensures.row, c.cell_of-in-loop-i.ensures.none)
          (c.cell_of-in-loop-i-2.ensures.row, c.cell_of-in-loop-i-2.ensures.none)
          (c.cell_of-in-loop-i-3.ensures.row, c.cell_of-in-loop-i-3.ensures.none) (so_far.cells search is);
      others = grind arith;
      scanned = omega (arith, crossed.ensures.all, so_far.scanned, c.loop-i-test.true);
    }

pub returns-clause-cells : goal.returns-clause-cells
returns-clause-cells c = λ search is i after before.
    let tables = back_tables_by search c.args.self.now in
    let none : c.loop-i.i ≡ 0 = omega (arith, c.loop-i-test.false) in
    held_of_four (IsShortCell tables c.args.haystack.now c.args.span c.args.at) c.loop-i.cells 0 c.args.steps
    (subst (HoldAfter (IsShortCell tables c.args.haystack.now c.args.span c.args.at) c.loop-i.cells 0 c.args.steps) none
    (c.loop-i.invariant.cells search is)) i after (omega (arith, before))
