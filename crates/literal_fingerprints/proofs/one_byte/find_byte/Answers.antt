use Rattle.std.proofs.Common.{◌≢◌, ◌+◌, ◌≤◌, ◌<◌, ℕ, List, arith, inl, inr, rules}
use Rattle.std.proofs.lemmas.Bool.{cases_lt}
use Rattle.std.specs.Prelude.{slice_index}
use Rattle.literal_fingerprints.proofs.lemmas.OneByte.{found_at, none_at}
use Rattle.literal_fingerprints.proofs.one_byte.find_byte.Goals as goal

-- none begins before an offset, nor then before one that is not passed
before_both : (byte start from upto : ℕ) (haystack : List ℕ)
    → ((k : ℕ) → start ≤ k → k < from → slice_index haystack k ≢ byte)
    → ((k : ℕ) → from ≤ k → k < upto → slice_index haystack k ≢ byte) → (k : ℕ) → start ≤ k → k < upto
    → slice_index haystack k ≢ byte
before_both byte start from upto haystack none more k after before =
    elim (cases_lt k from) [
      | inl early ↦ none k after early
      | inr late ↦ more k late before
    ]

pub returns-then-passed-lt-WIDE-clause-none : goal.returns-then-passed-lt-WIDE-clause-none
returns-then-passed-lt-WIDE-clause-none c =
    before_both c.args.byte c.args.span.start c.loop-at.at (c.loop-at.at + c.zeros_before_wide-passed.result)
    c.args.haystack.now c.loop-at.invariant.none
    (none_at 32 c.args.byte c.loop-at.at c.args.haystack.now c.load_wide.result c.wanted_wide.result
    c.load_wide.ensures.lanes c.wanted_wide.ensures c.zeros_before_wide-passed.result
    c.zeros_before_wide-passed.ensures.few c.zeros_before_wide-passed.ensures.zero)

pub returns-then-passed-lt-WIDE-clause-found : goal.returns-then-passed-lt-WIDE-clause-found
returns-then-passed-lt-WIDE-clause-found c before =
    found_at 32 c.args.byte c.loop-at.at c.args.haystack.now c.load_wide.result c.wanted_wide.result
    c.load_wide.ensures.lanes c.wanted_wide.ensures c.zeros_before_wide-passed.result c.if-passed-lt-WIDE.true
    (c.zeros_before_wide-passed.ensures.stops c.if-passed-lt-WIDE.true)

pub loop-at-preserved : goal.loop-at-preserved
loop-at-preserved c = record {
  after = search rules;
  inside = search rules;
  none = before_both c.args.byte c.args.span.start c.loop-at.at (c.loop-at.at + 32) c.args.haystack.now
      c.loop-at.invariant.none
      (none_at 32 c.args.byte c.loop-at.at c.args.haystack.now c.load_wide.result c.wanted_wide.result
      c.load_wide.ensures.lanes c.wanted_wide.ensures 32 (omega arith)
      (λ k below. c.zeros_before_wide-passed.ensures.zero k (omega (arith, below, c.if-passed-lt-WIDE.false))));
  ticks = search rules;
}

pub returns-clause-none : goal.returns-clause-none
returns-clause-none c =
    before_both c.args.byte c.args.span.start c.loop-at.at c.find_in_last.result c.args.haystack.now
    c.loop-at.invariant.none c.find_in_last.ensures.none
