use Rattle.std.proofs.Common.{ap, arith, inl, take}
use Rattle.literal_base.specs.Counts.{Counts}
use Rattle.literal_fingerprints.proofs.lemmas.Passing.{none_begins}
use Rattle.literal_fingerprints.proofs.fingerprints.Fingerprints.next.Goals as goal

pub pass-passed-requires-clause-looked : goal.pass-passed-requires-clause-looked
pass-passed-requires-clause-looked c =
    c.before_span-before.ensures c.args.self.now (take c.args.span.end c.args.haystack.now) c.args.span.start

pub returns-then-passed-clause-passed : goal.returns-then-passed-clause-passed
returns-then-passed-clause-passed c =
    none_begins c.args.self.now c.args.haystack.now c.args.span c.requires _
    (λ k after below. c.pass-passed.ensures.passed.none k after (omega arith))

pub returns-then-passed-clause-stops : goal.returns-then-passed-clause-stops
returns-then-passed-clause-stops c = inl (c.pass-passed.ensures.passed.stops c.if-passed.true)

pub returns-then-passed-clause-thrice : goal.returns-then-passed-clause-thrice
returns-then-passed-clause-thrice c =
    let near = c.pass-passed.ensures in
    omega (
      arith,
      ap (λ (t : Counts). t.scanned) near.ticks,
      near.near,
      near.whole,
      near.least,
      near.passed.within,
      near.passed.far c.if-passed.true,
    )

pub returns-then-is_short-2-clause-thrice : goal.returns-then-is_short-2-clause-thrice
returns-then-is_short-2-clause-thrice c =
    let near = c.pass-passed.ensures in
    omega (
      arith,
      ap (λ (t : Counts). t.scanned) near.ticks,
      ap (λ (t : Counts). t.scanned) c.rest.ensures.ticks,
      near.whole,
      near.least,
      near.passed.within,
      c.if-passed.false,
      near.rest,
      c.rest.ensures.inside.0,
      c.rest.ensures.far,
    )
