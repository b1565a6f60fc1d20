use Rattle.literal_leftmost.proofs.lemmas.ScanIn.{by_pair, by_scan}
use Rattle.literal_leftmost.proofs.backward.Backward.pass_first.Goals as goal

pub returns-then-is_some-clause-progress : goal.returns-then-is_some-clause-progress
returns-then-is_some-clause-progress c =
    by_pair c.args.self.now c.args.span _ c.pair_scan_in.result c.pair_scan_in.ensures c.args.tally.now.scanned
    c.pass_on.new.tally.scanned c.pass_on.result
    (c.pass_on.ensures.progress c.args.tally.now.scanned (c.begin_at-begin.ensures.begins c.args.tally.now.scanned))

pub returns-clause-progress : goal.returns-clause-progress
returns-clause-progress c =
    by_scan c.args.self.now c.args.span c.scan_in.result c.scan_in.ensures c.args.tally.now.scanned
    c.pass_on-2.new.tally.scanned c.pass_on-2.result
    (c.pass_on-2.ensures.progress c.args.tally.now.scanned (c.begin_at-begin.ensures.begins c.args.tally.now.scanned))
