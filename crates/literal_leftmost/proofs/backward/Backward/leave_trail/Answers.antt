use Rattle.std.proofs.Common.{◌≡◌, ◌+◌, ◌-◌, ◌*◌, ◌^◌, ◌∙◌, arith, subst, sym}
use Rattle.std.proofs.lemmas.Bool.{leb-false}
use Rattle.std.proofs.lemmas.List.{length-set}
use Rattle.literal_leftmost.specs.Inside.Backward.{back_tables_by}
use Rattle.literal_leftmost.specs.Inside.Leftmost.{IsLane}
use Rattle.literal_leftmost.specs.Inside.Trail.{AreCells}
use Rattle.literal_leftmost.proofs.lemmas.Trail.{cells_on}
use Rattle.literal_leftmost.proofs.backward.Backward.leave_trail.Goals as goal

pub loop-i-preserved : goal.loop-i-preserved
loop-i-preserved c =
    let i = c.loop-i.i - 1 in
    let so_far = c.loop-i.invariant in
    let block = c.args.block in
    let next : c.loop-i.i ≡ i + 1 = omega (arith, c.loop-i-test.true) in
    record {
      few = omega (arith, so_far.few, c.loop-i-test.true);
      end = omega (arith, so_far.few, c.loop-i-test.true);
      row = c.in_ok-crossed.ensures.row;
      long = length-set c.loop-i.cells i c.cell_of.result ∙ so_far.long;
      lane = λ search is. c.in_ok-crossed.ensures.lane search is block.end (so_far.lane search is);
      cells = λ search is.
          let p = back_tables_by search c.args.self.now in
          cells_on p c.args.haystack.now c.args.span block c.loop-i.cells i c.loop-i.i c.cell_of.result c.loop-i.end
          next (omega (arith, so_far.few, so_far.long, c.requires.room, c.loop-i-test.true)) so_far.end
          (subst (λ n. IsLane p c.args.haystack.now c.args.span block.end c.loop-i.end n) (sym c.cell_of.ensures.row)
          (so_far.lane search is))
          (λ small. c.in_ok-crossed.ensures.none search is block.end (omega (arith, so_far.end)) (so_far.lane search is)
          (leb-false (2 ^ 31) _ (c.cell_of.ensures.none small)))
          (so_far.cells search is);
      others = grind arith;
      scanned = omega (arith, c.in_ok-crossed.ensures.all, so_far.scanned);
    }

pub returns-clause-cells : goal.returns-clause-cells
returns-clause-cells c = λ search is.
    let start : c.args.block.start + 512 * c.loop-i.i ≡ c.args.block.start = omega (arith, c.loop-i-test.false) in
    subst (λ n. AreCells (back_tables_by search c.args.self.now) c.args.haystack.now c.args.span c.args.block
    c.loop-i.cells n) start (c.loop-i.invariant.cells search is)
