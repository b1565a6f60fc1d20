use Rattle.std.proofs.Common.{◌∙◌, List, ap, arith, drop, map, subst, ℕ}
use Rattle.std.specs.Global.{Vec}
use Rattle.literal_fingerprints.specs.FingerprintsValue.{LetsPass}
use Rattle.literal_fingerprints.proofs.lemmas.Passing.{of_all, one_more}
use Rattle.literal_fingerprints.proofs.lemmas.Skipped.{all_behind}
use Rattle.literal_fingerprints.proofs.fingerprints.Fingerprints.are_for.Goals as goal

pub loop-pattern-preserved : goal.loop-pattern-preserved
loop-pattern-preserved c =
    let skipped = c.args.skipped in
    let passes = λ (bytes : List ℕ). LetsPass c.args.self.now c.args.ignore_case bytes in
    one_more (λ (bytes : List ℕ). passes (drop skipped bytes)) c.args.patterns.now c.loop-pattern.pattern-index
    c.pattern-item.result c.loop-pattern.invariant c.loop-pattern-test.true c.pattern-item.is
    (subst passes (c.after_skipped.ensures ∙ ap (drop skipped) c.deref.ensures.value)
    (c.lets_pass.ensures c.if-not-lets_pass.false))

pub returns : goal.returns
returns c is_true =
    let passes = λ (bytes : List ℕ). LetsPass c.args.self.now c.args.ignore_case bytes in
    all_behind passes c.args.skipped (map (λ (pattern : Vec ℕ). pattern.items) c.args.patterns.now)
    (of_all (λ (bytes : List ℕ). passes (drop c.args.skipped bytes)) c.args.patterns.now
    (λ k d below. c.loop-pattern.invariant k d (omega (arith, c.loop-pattern-test.false))))
