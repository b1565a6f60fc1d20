use Rattle.std.proofs.Common.{◌≡◌, ◌+◌, ◌%◌, false, eqb, take, length}
use Rattle.std.specs.List.{All, count_by}
use Rattle.literal_base.specs.Occurs.{StandsAt, pattern_at}
use Rattle.literal_packed.specs.RabinKarpValue.{bucket_at}
use Rattle.literal_packed.proofs.rabinkarp.RabinKarp.look_up.Given as goal

-- none of the entries so far stands there, and each was read once and compared where its sum is that of the window
abbrev pub invariant-loop-k : goal.invariant-loop-k
invariant-loop-k l =
    let done = take l.k (bucket_at l.self (l.sum % 64)) in
    record {
      none : All (λ e. ¬ StandsAt false (pattern_at l.patterns.patterns e.1) l.haystack l.at) done;
      counted : l.tally ≡ record l.fn.tally {
        entries = l.fn.tally.entries + length done;
        compared = l.fn.tally.compared + count_by (λ e. eqb e.0 l.sum) done;
      };
    }
