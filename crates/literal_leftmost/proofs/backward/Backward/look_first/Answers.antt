use Rattle.std.proofs.Common.{◌+◌, ◌≤◌, ℕ, None, Option, Some, arith}
use Rattle.literal_fingerprints.specs.declared.candidates.CandidateScan.{CandidateScan}
use Rattle.literal_leftmost.specs.Inside.Leftmost.{IsProgress, owed_by}
use Rattle.literal_leftmost.specs.declared.lanes.TheConstants.{OVERLAP}
use Rattle.literal_leftmost.proofs.lemmas.Leftmost.{none_on}
use Rattle.literal_leftmost.proofs.backward.Backward.look_first.Goals as goal

owed_few : (scan : Option CandidateScan) → owed_by scan ≤ OVERLAP
owed_few None = omega arith
owed_few (Some scan) = omega arith

-- the walk through the piece pays for what the scan owes, and for the walk at the candidate
paid : (c : goal.After-pass_on-progress) (base : ℕ)
    → IsProgress c.args.self.now c.args.span (owed_by c.args.scan.now) base c.args.tally.now.scanned c.args.progress
    → IsProgress c.args.self.now c.args.span 0 base c.begun_in.new.tally.scanned (record {
      at = c.args.progress.at + c.min.result;
      credit = c.args.progress.credit;
      part = c.args.progress.part;
    })
paid c base progress = record {
  after = omega (arith, progress.after);
  inside = omega (arith, progress.inside, c.min.ensures);
  some = progress.some;
  long = progress.long;
  near = λ before. omega (arith, progress.near (omega (arith, before)));
  least = omega (
    arith,
    progress.least,
    progress.inside,
    c.in_ok-here.ensures.all,
    c.in_ok-begun.ensures.all,
    c.min.ensures,
  );
  most = omega (
    arith,
    progress.most,
    c.requires.inside,
    c.in_ok-here.ensures.all,
    c.in_ok-begun.ensures.all,
    c.saturating_add-len.ensures,
    c.min.ensures,
    owed_few c.args.scan.now,
  );
}

pub returns-clause-first : goal.returns-clause-first
returns-clause-first c = λ search is. grind (arith, none_on)

pub returns-clause-progress : goal.returns-clause-progress
returns-clause-progress c = λ base progress none. c.pass_on-progress.ensures.progress base (paid c base progress)

pub returns-clause-most : goal.returns-clause-most
returns-clause-most c = λ base progress.
    let passed = c.pass_on-progress.ensures.progress base (paid c base progress) in
    omega (arith, passed.most, passed.inside)
