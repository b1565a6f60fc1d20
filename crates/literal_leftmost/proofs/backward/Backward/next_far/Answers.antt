use Rattle.std.proofs.Common.{arith, rules}
use Rattle.literal_leftmost.specs.Inside.Backward.{back_tables_by}
use Rattle.literal_leftmost.proofs.lemmas.Passes.{paid_on}
use Rattle.literal_leftmost.proofs.lemmas.Trail.{trailed_behind, trailed_on}
use Rattle.literal_leftmost.proofs.backward.Backward.next_far.Goals as goal

pub loop-from-preserved : goal.loop-from-preserved
loop-from-preserved c =
    let so_far = c.loop-from.invariant in
    let told = c.in_ok-ahead.ensures in
    record {
      after = omega (arith, so_far.after, told.known);
      inside = told.far.marks.known_inside;
      far = record {
        part = told.far.part;
        cells = told.far.cells;
        whole = told.far.whole;
        begun = omega (arith, told.far.begun, told.later.1);
        marks = record {
          after = omega (arith, told.far.known_after);
          inside = told.far.marks.known_inside;
          first = λ more. absurd (omega (arith, more, told.far.marks.upto_known));
          listed = told.far.marks.listed;
          upto_known = told.far.marks.upto_known;
          known_inside = told.far.marks.known_inside;
        };
        known_after = told.far.known_after;
        known = told.far.known;
        looked = omega (arith, told.far.known, told.far.marks.known_inside);
      };
      trailed = λ search is are. trailed_on (back_tables_by search c.args.self.now) c.args.haystack.now c.args.span
          c.in_ok-ahead.ahead c.look_far.new.marks.known c.look_far.new.trail c.look_far.new.marks told.later.1
          (told.trailed search is (so_far.trailed search is are));
      none = search rules;
      laid = omega (arith, so_far.laid, told.further.0);
      known = omega (arith, so_far.known, told.further.1);
      others = search rules;
      scanned = omega (arith, so_far.scanned, told.most);
      least = omega (arith, so_far.least, told.least);
    }

pub returns-then-is_some-clause-trailed : goal.returns-then-is_some-clause-trailed
returns-then-is_some-clause-trailed c = λ search is are on.
    trailed_behind (back_tables_by search c.args.self.now) c.args.haystack.now c.args.span c.in_ok-ahead.ahead
    c.look_far.new.trail c.look_far.new.marks c.in_ok-ahead.ensures.far.marks.inside
    (c.in_ok-ahead.ensures.trailed search is (c.loop-from.invariant.trailed search is are)) c.args.self.now
    c.in_ok-found.found c.in_ok-found.ensures.lies on

pub returns-clause-all : goal.returns-clause-all
returns-clause-all c =
    let so_far = c.loop-from.invariant in
    omega (
      arith,
      so_far.scanned,
      so_far.far.marks.known_inside,
      so_far.far.part.inside,
      paid_on c.args.self.now.table.longest c.loop-from.trail.block.end c.args.span.end so_far.far.part.inside,
    )
