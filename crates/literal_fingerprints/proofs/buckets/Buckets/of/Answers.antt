use Rattle.std.proofs.Common.{◌<◌, ◌∙◌, List, [], ap, arith, drop, get_or, length, refl, set, subst, ℕ}
use Rattle.std.proofs.lemmas.List.{length-set}
use Rattle.literal_fingerprints.specs.Inside.Buckets.{Holds, IsHeld}
use Rattle.literal_fingerprints.specs.declared.buckets.Bucket.{Bucket}
use Rattle.literal_fingerprints.proofs.lemmas.Buckets.{set_has}
use Rattle.literal_fingerprints.proofs.lemmas.Passing.{of_all, one_more}
use Rattle.literal_fingerprints.proofs.buckets.Buckets.of.Goals as goal

pub loop-pattern-preserved : goal.loop-pattern-preserved
loop-pattern-preserved c =
    let case = c.args.ignore_case in
    let patterns = c.args.patterns.now in
    let skipped = c.args.skipped in
    let rest = c.after_skipped-rest.ensures ∙ ap (drop skipped) c.deref.ensures.value in
    let buckets = c.loop-pattern.buckets in
    let best = c.best_for-best.result in
    let now = c.with.result in
    let before = c.loop-pattern.invariant in
    let here = c.pattern-item.result in
    let none : Bucket = record { places = [] } in
    let below : best < length buckets = omega (arith, before.long, c.best_for-best.ensures) in
    record {
      long = length-set buckets best now ∙ before.long;
      held = one_more (λ (bytes : List ℕ). IsHeld (set buckets best now) case (drop skipped bytes)) patterns
          c.loop-pattern.pattern-index here
          (λ k d earlier.
          let bytes = drop skipped (get_or patterns k d).items in
          let old = before.held k d earlier in (
            old.0,
            old.1,
            set_has (λ (b : Bucket). Holds b case bytes) buckets best now none below old.0
                (λ same. c.with.ensures.keeps bytes
                (subst (λ j. Holds (get_or buckets j none) case bytes) same old.2)) (λ apart. old.2),
          )) c.loop-pattern-test.true c.pattern-item.is (
            best,
            c.best_for-best.ensures,
            set_has (λ (b : Bucket). Holds b case (drop skipped here.items)) buckets best now none below best
                (λ same. subst (λ (bytes : List ℕ). Holds now case bytes) rest c.with.ensures.holds)
                (λ apart. absurd (apart refl)),
          );
    }

pub returns-clause-held : goal.returns-clause-held
returns-clause-held c =
    of_all (λ (bytes : List ℕ). IsHeld c.loop-pattern.buckets c.args.ignore_case (drop c.args.skipped bytes))
    c.args.patterns.now
    (λ k d below. c.loop-pattern.invariant.held k d (omega (arith, c.loop-pattern-test.false)))
