use Rattle.std.proofs.Common.{◌≡◌, ◌+◌, ◌-◌, ◌*◌, ◌≤◌, ℕ}
use Rattle.literal_leftmost.specs.Inside.Backward.{ForBackward, NoneFrom}
use Rattle.literal_leftmost.specs.Inside.Leftmost.{HasProgress, IsProgress, owed_in}
use Rattle.literal_leftmost.specs.declared.leftmost.TheConstants.{FIRST}
use Rattle.literal_leftmost.proofs.backward.Backward.first_after.Given as goal

abbrev pub invariant-loop-block : goal.invariant-loop-block
invariant-loop-block l = record {
  after : l.fn.span.start ≤ l.progress.at;
  inside : l.progress.at ≤ l.fn.span.end;
  some : FIRST ≤ l.progress.part;
  long : l.fn.self.table.longest + 5 ≤ 2 * l.progress.part;
  any : HasProgress l.fn.self l.fn.span l.owed l.tally.scanned l.progress;
  progress : (base : ℕ)
      → IsProgress l.fn.self l.fn.span (owed_in l.fn.self.prints.now) base l.fn.tally.scanned l.fn.from
      → IsProgress l.fn.self l.fn.span l.owed base l.tally.scanned l.progress;
  none : ForBackward l.fn.self (λ tables.
      NoneFrom tables l.fn.haystack l.fn.span.end l.fn.span.start l.fn.from.at
      → NoneFrom tables l.fn.haystack l.fn.span.end l.fn.span.start l.progress.at);
  others : l.tally ≡ record l.fn.tally { scanned = l.tally.scanned };
}

abbrev pub decreases-loop-block : goal.decreases-loop-block
decreases-loop-block l = l.fn.span.end - l.progress.at
