use Rattle.std.proofs.Common.{arith, inl}
use Rattle.literal_fingerprints.proofs.lemmas.Passing.{none_begins}
use Rattle.literal_fingerprints.proofs.fingerprints.Fingerprints.next_far.Goals as goal

pub returns-then-far-clause-passed : goal.returns-then-far-clause-passed
returns-then-far-clause-passed c =
    none_begins c.args.self c.args.haystack.now c.args.span c.requires.valid _
    (λ k after below. c.pass_wide-far.ensures.passed.none k after (omega arith))

pub returns-then-far-clause-stops : goal.returns-then-far-clause-stops
returns-then-far-clause-stops c = inl (c.pass_wide-far.ensures.passed.stops c.if-far.true)

pub returns-then-last-clause-passed : goal.returns-then-last-clause-passed
returns-then-last-clause-passed c =
    none_begins c.args.self c.args.haystack.now c.args.span c.requires.valid _
    (λ k after below. c.pass-last.ensures.passed.none k after (omega arith))

pub returns-then-last-clause-stops : goal.returns-then-last-clause-stops
returns-then-last-clause-stops c = inl (c.pass-last.ensures.passed.stops c.if-last.true)
