use Rattle.std.proofs.Common.{◌≡◌, ◌+◌, ◌-◌, ◌≤◌, arith, rules, subst, take}
use Rattle.literal_fingerprints.specs.Inside.Scan.{IsLookedUp}
use Rattle.literal_fingerprints.proofs.lemmas.Far.{back_of, here_of, lanes_of_half, none_far, passes_far, text}
use Rattle.literal_fingerprints.proofs.lemmas.Lanes.{lanes_upto}
use Rattle.literal_fingerprints.proofs.fingerprints.Fingerprints.pass_by.Goals as goal

pub returns-then-passed-lt-WIDE-clause-passed : goal.returns-then-passed-lt-WIDE-clause-passed
returns-then-passed-lt-WIDE-clause-passed c =
    let f = c.args.self.now in
    let haystack = c.args.haystack.now in
    let start = c.args.span.start in
    let end = c.args.span.end in
    let cut = take end haystack in
    let at = c.loop-at.at in
    let before = c.loop-at.invariant in
    let far : 16 ≤ at = omega (arith, before.low, c.requires.after) in
    let inside : at + 32 ≤ end = omega (
      arith,
      c.loop-at-test.true,
      before.low,
      c.requires.after,
      c.saturating_sub-last.ensures,
    ) in
    let loaded = lanes_upto haystack end at inside c.load_wide-here.result c.load_wide-here.ensures.lanes in
    let here = here_of cut at c.load_wide-here.result loaded far in
    let n = c.zeros_before-passed.result in
    record {
      within = omega (arith, c.if-passed-lt-WIDE.true);
      none = none_far cut at f far start n before.none
          (c.zeros_before-passed.ensures.zero (text cut at) before.before here);
      far = λ less. omega (arith, before.low, c.requires.after);
      stops = λ less. passes_far cut at f far n
          (c.zeros_before-passed.ensures.stops (text cut at) before.before here c.if-passed-lt-WIDE.true);
      looked = λ all. absurd (omega (arith, all, c.if-passed-lt-WIDE.true));
    }

pub loop-at-preserved : goal.loop-at-preserved
loop-at-preserved c =
    let f = c.args.self.now in
    let haystack = c.args.haystack.now in
    let start = c.args.span.start in
    let end = c.args.span.end in
    let cut = take end haystack in
    let at = c.loop-at.at in
    let before = c.loop-at.invariant in
    let far : 16 ≤ at = omega (arith, before.low, c.requires.after) in
    let inside : at + 32 ≤ end = omega (
      arith,
      c.loop-at-test.true,
      before.low,
      c.requires.after,
      c.saturating_sub-last.ensures,
    ) in
    let loaded = lanes_upto haystack end at inside c.load_wide-here.result c.load_wide-here.ensures.lanes in
    let here = here_of cut at c.load_wide-here.result loaded far in
    record {
      low = omega (arith, before.low);
      high = inside;
      before = back_of cut at c.load_wide-here.result loaded;
      none = none_far cut at f far start 32 before.none
          (λ k below. c.zeros_before-passed.ensures.zero (text cut at) before.before here k
          (omega (arith, c.if-passed-lt-WIDE.false)));
      scanned = search rules;
    }

pub returns-clause-passed : goal.returns-clause-passed
returns-clause-passed c =
    let start = c.args.span.start in
    let cut = take c.args.span.end c.args.haystack.now in
    let at = c.loop-at.at in
    let before = c.loop-at.invariant in
    let place : at - 16 + 16 ≡ at = omega (arith, before.low, c.requires.after) in
    let here = lanes_of_half _ _ _ before.before c.back_half-bytes.ensures in
    let far : start ≤ at - 16 = omega (arith, before.low, c.requires.after) in
    let looked = c.look_up.ensures c.args.self.now cut start (at - 16) c.tables.ensures far here in
    record {
      within = omega arith;
      none = before.none;
      far = λ less. absurd (omega (arith, less));
      stops = λ less. absurd (omega (arith, less));
      looked = λ all. subst (λ n. IsLookedUp c.look_up.result c.args.self.now cut start n) place looked;
    }
