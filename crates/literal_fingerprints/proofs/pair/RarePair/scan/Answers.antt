use Rattle.std.proofs.Common.{◌≡◌, ◌+◌, ◌-◌, ◌%◌, ◌≤◌, ◌∙◌, ap, arith, get_or, inl, inr, rules, subst}
use Rattle.std.proofs.lemmas.Bool.{cases_lt}
use Rattle.literal_fingerprints.proofs.lemmas.Hits.{first_vector, has_earlier, has_pair, later_vector, no_pair_begins}
use Rattle.literal_fingerprints.proofs.lemmas.Hits.{none_by, none_more, wide_vector}
use Rattle.literal_fingerprints.specs.RarePairs.{HasPair}
use Rattle.literal_fingerprints.proofs.pair.RarePair.scan.Goals as goal

pub returns-then-passed-lt-LANES-clause-passed : goal.returns-then-passed-lt-LANES-clause-passed
returns-then-passed-lt-LANES-clause-passed c =
    let pair = c.args.self.now in
    let fm = c.args.first_mask in
    let sm = c.args.second_mask in
    let three = c.args.by_three in
    let apart = c.args.apart in
    let offset = c.min.result in
    let haystack = c.args.haystack.now in
    let start = c.args.span.start in
    let lanes = first_vector pair fm sm three apart offset c.requires.first c.requires.second c.requires.three
    c.requires.apart c.min.ensures haystack start c.load-here.result c.pairs-hits.result c.without_first.result
    c.load-here.ensures.lanes c.pairs-hits.ensures c.without_first.ensures in
    let passed = c.zeros_before-passed.result in
    let none = none_more pair fm sm three apart haystack start 16 start
    c.without_first.result lanes.0 (omega arith) passed c.zeros_before-passed.ensures.few
    c.zeros_before-passed.ensures.zero (λ k later below. absurd (omega arith)) in
    no_pair_begins pair fm sm three apart offset c.requires.first c.requires.second c.requires.three
    c.requires.apart c.min.ensures haystack c.args.span c.requires.valid _
    (λ p after before inside. none_by pair fm sm three apart offset c.requires.first c.requires.second c.requires.three
    c.requires.apart c.min.ensures haystack start (start + passed) _
    (λ q above below. omega (arith, c.saturating_sub.ensures)) none p after before)

pub returns-then-passed-lt-LANES-clause-stops : goal.returns-then-passed-lt-LANES-clause-stops
returns-then-passed-lt-LANES-clause-stops c =
    let pair = c.args.self.now in
    let fm = c.args.first_mask in
    let sm = c.args.second_mask in
    let three = c.args.by_three in
    let apart = c.args.apart in
    let offset = c.min.result in
    let haystack = c.args.haystack.now in
    let start = c.args.span.start in
    let lanes = first_vector pair fm sm three apart offset c.requires.first c.requires.second c.requires.three
    c.requires.apart c.min.ensures haystack start c.load-here.result c.pairs-hits.result c.without_first.result
    c.load-here.ensures.lanes c.pairs-hits.ensures c.without_first.ensures in
    let passed = c.zeros_before-passed.result in
    let behind = offset + apart in
    let stops = c.zeros_before-passed.ensures.stops c.if-passed-lt-LANES.true in
    elim (cases_lt passed behind) [
      | inl before ↦ inr (inl (
        omega (arith, c.saturating_sub.ensures),
        has_earlier pair fm sm three apart offset c.requires.first c.requires.second c.requires.three
            c.requires.apart c.min.ensures haystack
            start 16 c.without_first.result lanes.0 passed c.if-passed-lt-LANES.true stops
            (lanes.1 passed c.if-passed-lt-LANES.true stops) before,
      ))
      | inr after ↦
          let place : start + passed - behind ≡ start + c.saturating_sub.result = omega (
            arith,
            c.saturating_sub.ensures,
          ) in
          inl (subst (λ n. HasPair pair haystack n) place
          (has_pair pair fm sm three apart offset c.requires.first c.requires.second c.requires.three
          c.requires.apart c.min.ensures haystack
          start 16 start c.without_first.result lanes.0 (omega arith) passed c.if-passed-lt-LANES.true stops
          (omega arith)))
    ]

pub loop-at-init : goal.loop-at-init
loop-at-init c =
    let pair = c.args.self.now in
    let fm = c.args.first_mask in
    let sm = c.args.second_mask in
    let three = c.args.by_three in
    let apart = c.args.apart in
    let offset = c.min.result in
    let haystack = c.args.haystack.now in
    let start = c.args.span.start in
    let lanes = first_vector pair fm sm three apart offset c.requires.first c.requires.second c.requires.three
    c.requires.apart c.min.ensures haystack start c.load-here.result c.pairs-hits.result c.without_first.result
    c.load-here.ensures.lanes c.pairs-hits.ensures c.without_first.ensures in
    record {
      low = omega arith;
      high = omega (arith, c.if-span-lt-LANES.false);
      before = record {
        long = c.twice-before.ensures.long;
        each = λ k below.
            let same : (16 + k) % 16 ≡ k = omega arith in
            let place : start + k ≡ start + 16 + k - 16 = omega arith in
            c.twice-before.ensures.each (16 + k) (omega arith)
            ∙ (ap (λ j. get_or c.load-here.result j 0) same
            ∙ (c.load-here.ensures.lanes.each k below ∙ ap (λ j. get_or haystack j 0) place));
      };
      none = none_more pair fm sm three apart haystack start 16 start
          c.without_first.result lanes.0 (omega arith) 16 (omega arith)
          (λ k below. c.zeros_before-passed.ensures.zero k (omega (arith, c.if-passed-lt-LANES.false)))
          (λ k later below. absurd (omega arith));
      scanned = search rules;
    }

pub returns-then-stop-lt-WIDE-clause-passed : goal.returns-then-stop-lt-WIDE-clause-passed
returns-then-stop-lt-WIDE-clause-passed c =
    let pair = c.args.self.now in
    let fm = c.args.first_mask in
    let sm = c.args.second_mask in
    let three = c.args.by_three in
    let apart = c.args.apart in
    let offset = c.min.result in
    let haystack = c.args.haystack.now in
    let start = c.args.span.start in
    let at = c.loop-at.at in
    let before = c.loop-at.invariant in
    let after : start ≤ at = omega (arith, before.low) in
    let lanes = wide_vector pair fm sm three apart offset c.requires.first c.requires.second c.requires.three
    c.requires.apart c.min.ensures haystack start at c.loop-at.before c.load_wide-here.result c.pairs_wide-hits.result
    before.low before.before c.load_wide-here.ensures.lanes c.pairs_wide-hits.ensures in
    let passed = c.zeros_before_wide-stop.result in
    let zeros = c.zeros_before_wide-stop.ensures in
    let none = none_more pair fm sm three apart haystack start 32 at
    c.pairs_wide-hits.result lanes after passed zeros.few zeros.zero before.none in
    no_pair_begins pair fm sm three apart offset c.requires.first c.requires.second c.requires.three
    c.requires.apart c.min.ensures haystack c.args.span c.requires.valid _
    (λ p later earlier inside. none_by pair fm sm three apart offset c.requires.first c.requires.second c.requires.three
    c.requires.apart c.min.ensures haystack start (at + passed) _
    (λ q above below. omega arith) none p later earlier)

pub returns-then-stop-lt-WIDE-clause-stops : goal.returns-then-stop-lt-WIDE-clause-stops
returns-then-stop-lt-WIDE-clause-stops c =
    let pair = c.args.self.now in
    let fm = c.args.first_mask in
    let sm = c.args.second_mask in
    let three = c.args.by_three in
    let apart = c.args.apart in
    let offset = c.min.result in
    let haystack = c.args.haystack.now in
    let start = c.args.span.start in
    let at = c.loop-at.at in
    let before = c.loop-at.invariant in
    let after : start ≤ at = omega (arith, before.low) in
    let lanes = wide_vector pair fm sm three apart offset c.requires.first c.requires.second c.requires.three
    c.requires.apart c.min.ensures haystack start at c.loop-at.before c.load_wide-here.result c.pairs_wide-hits.result
    before.low before.before c.load_wide-here.ensures.lanes c.pairs_wide-hits.ensures in
    let passed = c.zeros_before_wide-stop.result in
    let zeros = c.zeros_before_wide-stop.ensures in
    inl (has_pair pair fm sm three apart offset c.requires.first c.requires.second c.requires.three
    c.requires.apart c.min.ensures haystack start 32 at c.pairs_wide-hits.result lanes after passed
    c.if-stop-lt-WIDE.true (zeros.stops c.if-stop-lt-WIDE.true)
    (omega (arith, before.low, c.requires.apart, c.min.ensures)))

pub loop-at-preserved : goal.loop-at-preserved
loop-at-preserved c =
    let pair = c.args.self.now in
    let fm = c.args.first_mask in
    let sm = c.args.second_mask in
    let three = c.args.by_three in
    let apart = c.args.apart in
    let offset = c.min.result in
    let haystack = c.args.haystack.now in
    let start = c.args.span.start in
    let at = c.loop-at.at in
    let before = c.loop-at.invariant in
    let after : start ≤ at = omega (arith, before.low) in
    let lanes = wide_vector pair fm sm three apart offset c.requires.first c.requires.second c.requires.three
    c.requires.apart c.min.ensures haystack start at c.loop-at.before c.load_wide-here.result c.pairs_wide-hits.result
    before.low before.before c.load_wide-here.ensures.lanes c.pairs_wide-hits.ensures in
    let passed = c.zeros_before_wide-stop.result in
    let zeros = c.zeros_before_wide-stop.ensures in
    record {
      low = omega (arith, before.low);
      high = omega (arith, before.high, c.loop-at-test.true, c.saturating_sub-last.ensures);
      before = record {
        long = c.load_wide-here.ensures.lanes.long;
        each = λ k below.
            let place : at + (16 + k) ≡ at + 32 + k - 16 = omega arith in
            c.load_wide-here.ensures.lanes.each (16 + k) (omega arith) ∙ ap (λ j. get_or haystack j 0) place;
      };
      none = none_more pair fm sm three apart haystack start 32 at
          c.pairs_wide-hits.result lanes after 32 (omega arith)
          (λ k below. zeros.zero k (omega (arith, c.if-stop-lt-WIDE.false))) before.none;
      scanned = search rules;
    }

pub returns-then-passed-lt-LANES-2-clause-passed : goal.returns-then-passed-lt-LANES-2-clause-passed
returns-then-passed-lt-LANES-2-clause-passed c =
    let pair = c.args.self.now in
    let fm = c.args.first_mask in
    let sm = c.args.second_mask in
    let three = c.args.by_three in
    let apart = c.args.apart in
    let offset = c.min.result in
    let haystack = c.args.haystack.now in
    let start = c.args.span.start in
    let at = c.loop-at.at in
    let before = c.loop-at.invariant in
    let after : start ≤ at = omega (arith, before.low) in
    let lanes = later_vector pair fm sm three apart offset c.requires.first c.requires.second c.requires.three
    c.requires.apart c.min.ensures haystack start at c.back_half-before.result c.load-here-2.result
    c.pairs-hits-2.result before.low
    (record {
      long = c.back_half-before.ensures.long;
      each = λ k below. c.back_half-before.ensures.each k below ∙ before.before.each k below;
    }) c.load-here-2.ensures.lanes c.pairs-hits-2.ensures in
    let passed = c.zeros_before-passed-2.result in
    let none = none_more pair fm sm three apart haystack start 16 at
    c.pairs-hits-2.result lanes after passed c.zeros_before-passed-2.ensures.few
    c.zeros_before-passed-2.ensures.zero before.none in
    no_pair_begins pair fm sm three apart offset c.requires.first c.requires.second c.requires.three
    c.requires.apart c.min.ensures haystack c.args.span c.requires.valid _
    (λ p later earlier inside. none_by pair fm sm three apart offset c.requires.first c.requires.second c.requires.three
    c.requires.apart c.min.ensures haystack start (at + passed) _
    (λ q above below. omega arith) none p later earlier)

pub returns-then-passed-lt-LANES-2-clause-stops : goal.returns-then-passed-lt-LANES-2-clause-stops
returns-then-passed-lt-LANES-2-clause-stops c =
    let pair = c.args.self.now in
    let fm = c.args.first_mask in
    let sm = c.args.second_mask in
    let three = c.args.by_three in
    let apart = c.args.apart in
    let offset = c.min.result in
    let haystack = c.args.haystack.now in
    let start = c.args.span.start in
    let at = c.loop-at.at in
    let before = c.loop-at.invariant in
    let after : start ≤ at = omega (arith, before.low) in
    let lanes = later_vector pair fm sm three apart offset c.requires.first c.requires.second c.requires.three
    c.requires.apart c.min.ensures haystack start at c.back_half-before.result c.load-here-2.result
    c.pairs-hits-2.result before.low
    (record {
      long = c.back_half-before.ensures.long;
      each = λ k below. c.back_half-before.ensures.each k below ∙ before.before.each k below;
    }) c.load-here-2.ensures.lanes c.pairs-hits-2.ensures in
    let passed = c.zeros_before-passed-2.result in
    inl (has_pair pair fm sm three apart offset c.requires.first c.requires.second c.requires.three
    c.requires.apart c.min.ensures haystack start 16 at
    c.pairs-hits-2.result lanes after passed c.if-passed-lt-LANES-2.true
    (c.zeros_before-passed-2.ensures.stops c.if-passed-lt-LANES-2.true)
    (omega (arith, before.low, c.requires.apart, c.min.ensures)))

pub scan_last-requires-2-clause-none : goal.scan_last-requires-2-clause-none
scan_last-requires-2-clause-none c =
    let pair = c.args.self.now in
    let fm = c.args.first_mask in
    let sm = c.args.second_mask in
    let three = c.args.by_three in
    let apart = c.args.apart in
    let offset = c.min.result in
    let haystack = c.args.haystack.now in
    let start = c.args.span.start in
    let at = c.loop-at.at in
    let before = c.loop-at.invariant in
    let after : start ≤ at = omega (arith, before.low) in
    let lanes = later_vector pair fm sm three apart offset c.requires.first c.requires.second c.requires.three
    c.requires.apart c.min.ensures haystack start at c.back_half-before.result c.load-here-2.result
    c.pairs-hits-2.result before.low
    (record {
      long = c.back_half-before.ensures.long;
      each = λ k below. c.back_half-before.ensures.each k below ∙ before.before.each k below;
    }) c.load-here-2.ensures.lanes c.pairs-hits-2.ensures in
    none_more pair fm sm three apart haystack start 16 at
    c.pairs-hits-2.result lanes after 16 (omega arith)
    (λ k below. c.zeros_before-passed-2.ensures.zero k (omega (arith, c.if-passed-lt-LANES-2.false))) before.none
