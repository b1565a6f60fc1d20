use Rattle.std.proofs.Common.{◌≡◌, ◌≤◌, ◌<◌, ◌+◌, ◌-◌, ℕ, false, length}
use Rattle.std.specs.List.{slice_range}
use Rattle.literal_packed.specs.PatternsValue.{minimum_len_of}
use Rattle.literal_packed.specs.Inside.Place.{NoneStandsAt}
use Rattle.literal_packed.specs.Sum.{sum_of}
use Rattle.literal_packed.specs.Pairs.{window_sum, pairs_between, has_equal_bucket, has_equal_sum}
use Rattle.literal_packed.proofs.rabinkarp.RabinKarp.walk.Given as goal

-- the bytes so far are in the sum
abbrev pub invariant-loop-k : goal.invariant-loop-k
invariant-loop-k g l = record {
  sum : l.rolling.sum ≡ sum_of (slice_range l.haystack l.at l.k);
  window : l.rolling.window ≡ l.minimum_len;
  counted : l.tally ≡ record l.initial.tally { hashed = l.initial.tally.hashed + (l.k - l.at) };
}

-- no pattern stands at a place so far
abbrev pub invariant-loop-place : goal.invariant-loop-place
invariant-loop-place g l =
    let patterns = l.patterns.patterns in
    record {
      sum : l.rolling.sum ≡ window_sum patterns l.haystack l.place;
      window : l.rolling.window ≡ minimum_len_of patterns;
      passed : (s : ℕ) → l.at ≤ s → s < l.place → NoneStandsAt patterns false l.haystack s;
      counted : l.tally ≡ record l.fn.tally {
        hashed = l.fn.tally.hashed + (l.place + minimum_len_of patterns - l.at);
        entries = l.fn.tally.entries + pairs_between (has_equal_bucket patterns l.haystack)
            (length patterns) l.at l.place;
        compared = l.fn.tally.compared + pairs_between (has_equal_sum patterns l.haystack)
            (length patterns) l.at l.place;
      };
    }
