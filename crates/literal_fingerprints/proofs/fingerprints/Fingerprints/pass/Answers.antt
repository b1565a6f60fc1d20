use Rattle.std.proofs.Common.{◌≡◌, ◌+◌, ◌-◌, ◌≤◌, arith, get_or, refl, rules, take}
use Rattle.literal_fingerprints.proofs.lemmas.Lanes.{lanes_from, lanes_upto}
use Rattle.literal_fingerprints.proofs.lemmas.Scan.{far, none_shared, passed_more, passes}
use Rattle.literal_fingerprints.proofs.fingerprints.Fingerprints.pass.Goals as goal

pub returns-in-Some-clause-passed : goal.returns-in-Some-clause-passed
returns-in-Some-clause-passed c =
    let f = c.args.self.now in
    let haystack = c.args.haystack.now in
    let start = c.args.span.start in
    let end = c.args.span.end in
    let cut = take end haystack in
    let at = c.loop-at.at in
    let before = c.loop-at.invariant in
    let after : start ≤ at = omega (arith, before.low, c.requires.after) in
    let inside : at + 16 ≤ end = omega (arith, c.loop-at-test.true, before.high, c.requires.inside) in
    let here = c.look_up-here.ensures f cut start at c.requires.tables after
    (lanes_upto haystack end at inside c.load-bytes.result c.load-bytes.ensures.lanes) in
    let lanes = c.shared_after.ensures f cut start at before.looked here in
    let n = c.in-Some.passed in
    let stops = c.in-Some.ensures.stops in
    record {
      within = omega (arith, c.in-Some.ensures.few);
      none = passed_more cut start f at n before.none
          (none_shared f cut start at _ lanes n (omega (arith, c.in-Some.ensures.few)) c.in-Some.ensures.zero);
      far = λ less. omega (arith, far f cut start at _ lanes n c.in-Some.ensures.few stops);
      stops = λ less. passes f cut start at _ lanes n c.in-Some.ensures.few stops;
      looked = λ all. absurd (omega (arith, all, c.in-Some.ensures.few));
    }

pub loop-at-preserved : goal.loop-at-preserved
loop-at-preserved c =
    let f = c.args.self.now in
    let haystack = c.args.haystack.now in
    let start = c.args.span.start in
    let end = c.args.span.end in
    let cut = take end haystack in
    let at = c.loop-at.at in
    let before = c.loop-at.invariant in
    let after : start ≤ at = omega (arith, before.low, c.requires.after) in
    let inside : at + 16 ≤ end = omega (arith, c.loop-at-test.true, before.high, c.requires.inside) in
    let loaded = lanes_upto haystack end at inside c.load-bytes.result c.load-bytes.ensures.lanes in
    let here = c.look_up-here.ensures f cut start at c.requires.tables after loaded in
    let lanes = c.shared_after.ensures f cut start at before.looked here in
    let place : at ≡ at + 16 - 16 = omega arith in
    record {
      low = omega (arith, before.low);
      high = omega (arith, c.loop-at-test.true, before.high);
      whole = omega (arith, before.low, before.whole);
      bytes = λ more. lanes_from c.load-bytes.result (λ k. get_or cut k 0) at (at + 16 - 16) place loaded;
      looked = here;
      none = passed_more cut start f at 16 before.none
          (none_shared f cut start at _ lanes 16 (omega arith)
          (λ k below. c.in_default.ensures.none refl k below));
      scanned = search rules;
    }
