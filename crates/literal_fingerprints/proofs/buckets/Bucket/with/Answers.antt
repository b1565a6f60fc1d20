use Rattle.std.proofs.Common.{◌≡◌, ◌<◌, ◌∙◌, arith, get_or, length, subst, true}
use Rattle.std.proofs.lemmas.List.{length-set}
use Rattle.literal_base.specs.Occurs.{same_byte}
use Rattle.literal_fingerprints.specs.Inside.Buckets.{HasByte, halves_at}
use Rattle.literal_fingerprints.specs.declared.buckets.Halves.{Halves}
use Rattle.literal_fingerprints.proofs.lemmas.Buckets.{set_has}
use Rattle.literal_fingerprints.proofs.buckets.Bucket.with.Goals as goal

pub loop-place-preserved : goal.loop-place-preserved
loop-place-preserved c =
    let places = c.loop-place.places in
    let at = c.loop-place.place in
    let pattern = c.args.pattern.now in
    let before = c.loop-place.invariant in
    let now = c.with_place.result in
    let below : at < length places = omega (arith, before.long, c.loop-place-test.true) in
    let none : Halves = record { low = 0; high = 0 } in
    record {
      long = length-set places at now ∙ before.long;
      kept = λ k byte has. set_has (λ (h : Halves). HasByte h byte) places at now none below k
          (λ same. c.with_place.ensures.keeps byte
          (subst (λ j. HasByte (halves_at places j) byte) same (before.kept k byte has)))
          (λ apart. before.kept k byte has);
      held = λ k byte under inside is. set_has (λ (h : Halves). HasByte h byte) places at now none below k
          (λ same. c.with_place.ensures.has (subst (λ j. j < length pattern) same inside) byte
          (subst (λ j. same_byte c.args.ignore_case byte (get_or pattern j 0) ≡ true) same is))
          (λ apart. before.held k byte (omega (arith, under, apart)) inside is);
    }
