use Rattle.std.proofs.Common.{◌+◌, ◌-◌, Option, ap, arith, rules, subst}
use Rattle.literal_base.specs.Counts.{Counts}
use Rattle.literal_leftmost.specs.Inside.Backward.{NoneBeginsAt, back_tables_by}
use Rattle.literal_leftmost.specs.Inside.Leftmost.{IsProgress, ReadsFor}
use Rattle.literal_leftmost.specs.declared.backward.PatternStart.{PatternStart}
use Rattle.literal_leftmost.proofs.lemmas.Leftmost.{leftmost_from, none_on, owed_few}
use Rattle.literal_leftmost.proofs.lemmas.ScanIn.{by_pair}
use Rattle.literal_leftmost.proofs.backward.Backward.find_short.Goals as goal

pub loop-progress-init : goal.loop-progress-init
loop-progress-init c = record {
  none = λ search is at later before.
      c.pass_on-progress.ensures.none search is at (omega (arith, later, c.begin_at-begin.ensures.start)) before;
  progress = c.pass_on-progress.ensures.progress c.args.tally.now.scanned
      (c.begin_at-begin.ensures.begins c.args.tally.now.scanned);
  others = c.pass_on-progress.ensures.others;
}

-- what a comparison scans is paid for
compared : (c : goal.After-pass_on-progress-in-loop-progress)
    → IsProgress c.args.self.now c.args.span 0 c.args.tally.now.scanned c.compare_at.new.tally.scanned (record {
      at = c.loop-progress.progress.at + 1;
      credit = c.loop-progress.progress.credit - 16;
      part = c.loop-progress.progress.part;
    })
compared c =
    let progress = c.loop-progress.invariant.progress in
    let scanned = ap (λ (counts : Counts). counts.scanned) c.in_default.ensures.ticks in
    record {
      after = omega (arith, progress.after);
      inside = omega (arith, c.if-span-progress-ge-SHORTEST_REST.true);
      some = progress.some;
      long = progress.long;
      near = λ before. omega (arith, progress.near (omega (arith, before)));
      least = omega (arith, progress.least, scanned);
      most = omega (
        arith,
        progress.most,
        scanned,
        c.loop-progress-test.true,
        owed_few c.pair_scan_in.result,
      );
    }

pub loop-progress-preserved : goal.loop-progress-preserved
loop-progress-preserved c =
    let haystack = c.args.haystack.now in
    let start = c.args.span.start in
    let end = c.args.span.end in
    let at = c.loop-progress.progress.at in
    let passed = c.pass_on-progress-in-loop-progress in
    record {
      none = λ search is.
          let tables = back_tables_by search c.args.self.now in
          let here : NoneBeginsAt tables haystack end at = c.in_default.ensures.leftmost search is in
          none_on tables haystack end start at passed.result.at (c.loop-progress.invariant.none search is)
          (none_on tables haystack end at (at + 1) passed.result.at
          (λ k later before. subst (NoneBeginsAt tables haystack end) (omega (arith, later, before)) here)
          (passed.ensures.none search is));
      progress = passed.ensures.progress c.args.tally.now.scanned (compared c);
      others = search rules;
    }

pub first_after-requires-clause-progress : goal.first_after-requires-clause-progress
first_after-requires-clause-progress c = (
  c.args.tally.now.scanned,
  by_pair c.args.self.now c.args.span _ c.pair_scan_in.result c.pair_scan_in.ensures c.args.tally.now.scanned
      c.loop-progress.tally.scanned c.loop-progress.progress c.loop-progress.invariant.progress,
)

pub returns-in_err-begun-clause-most : goal.returns-in_err-begun-clause-most
returns-in_err-begun-clause-most c =
    omega (
      arith,
      c.first_after.ensures.most c.args.tally.now.scanned
          (by_pair c.args.self.now c.args.span _ c.pair_scan_in.result c.pair_scan_in.ensures c.args.tally.now.scanned
          c.loop-progress.tally.scanned c.loop-progress.progress c.loop-progress.invariant.progress),
    )

pub returns-in_default-2-clause-most : goal.returns-in_default-2-clause-most
returns-in_default-2-clause-most c =
    omega (
      arith,
      c.first_after.ensures.most c.args.tally.now.scanned
          (by_pair c.args.self.now c.args.span _ c.pair_scan_in.result c.pair_scan_in.ensures c.args.tally.now.scanned
          c.loop-progress.tally.scanned c.loop-progress.progress c.loop-progress.invariant.progress),
    )

pub returns-in_default-2-clause-counted : goal.returns-in_default-2-clause-counted
returns-in_default-2-clause-counted c =
    omega (
      arith,
      subst (λ (first : Option PatternStart). ReadsFor c.args.self.now.table.longest c.args.span
          c.args.tally.now.scanned c.first_after.new.tally.scanned first) c.in_default-2.is
          (c.in_ok-begun.ensures.counted c.args.tally.now.scanned
          (by_pair c.args.self.now c.args.span _ c.pair_scan_in.result c.pair_scan_in.ensures c.args.tally.now.scanned
          c.loop-progress.tally.scanned c.loop-progress.progress c.loop-progress.invariant.progress)),
    )

pub returns-in_err-found-clause-most : goal.returns-in_err-found-clause-most
returns-in_err-found-clause-most c =
    omega (
      arith,
      c.first_after.ensures.most c.args.tally.now.scanned
          (by_pair c.args.self.now c.args.span _ c.pair_scan_in.result c.pair_scan_in.ensures c.args.tally.now.scanned
          c.loop-progress.tally.scanned c.loop-progress.progress c.loop-progress.invariant.progress),
    )

pub returns-clause-most : goal.returns-clause-most
returns-clause-most c =
    omega (
      arith,
      c.first_after.ensures.most c.args.tally.now.scanned
          (by_pair c.args.self.now c.args.span _ c.pair_scan_in.result c.pair_scan_in.ensures c.args.tally.now.scanned
          c.loop-progress.tally.scanned c.loop-progress.progress c.loop-progress.invariant.progress),
    )

pub returns-clause-leftmost : goal.returns-clause-leftmost
returns-clause-leftmost c = λ search is. grind (arith, leftmost_from)

pub returns-clause-counted : goal.returns-clause-counted
returns-clause-counted c =
    let reads = subst (λ (first : Option PatternStart). ReadsFor c.args.self.now.table.longest c.args.span
    c.args.tally.now.scanned c.first_after.new.tally.scanned first) c.in-Some-2.is
    (c.in_ok-begun.ensures.counted c.args.tally.now.scanned
    (by_pair c.args.self.now c.args.span _ c.pair_scan_in.result c.pair_scan_in.ensures c.args.tally.now.scanned
    c.loop-progress.tally.scanned c.loop-progress.progress c.loop-progress.invariant.progress)) in
    let lies = c.in_ok-found.ensures.lies in (
      omega (arith, reads.0, lies.short, lies.inside, c.in_ok-found.ensures.here),
      omega (arith, reads.1, c.in_ok-found.ensures.here),
    )
