use Rattle.std.proofs.Common.{◌≡◌, ℕ, ◌+◌, ◌-◌, ◌*◌, ◌≤◌, length}
use Rattle.literal_base.specs.Occurs.{Occurs}
use Rattle.literal_prefilters.specs.Reached.{reached_count}
use Rattle.literal_prefilters.specs.Inside.Confirming.{IsKept, read_to}
use Rattle.literal_prefilters.proofs.prefilter.confirming.confirm_by_table.Given as goal

abbrev pub invariant-loop-found : goal.invariant-loop-found
invariant-loop-found l =
    let span = l.fn.span in
    record {
      kept : IsKept l.table l.haystack span.start l.at span.end l.kept;
      none_before : (i at : ℕ) → Occurs l.patterns.patterns l.ignore_case l.haystack span i at → l.at ≤ at;
      counts : l.tally ≡ record l.initial.tally {
        compared = l.initial.tally.compared + reached_count l.table l.haystack span l.at * length l.patterns.patterns;
        scanned = l.initial.tally.scanned + (read_to span.start l.kept - span.start);
        tried = l.initial.tally.tried + reached_count l.table l.haystack span l.at;
      };
    }

abbrev pub decreases-loop-found : goal.decreases-loop-found
decreases-loop-found l = l.fn.span.end - l.at
