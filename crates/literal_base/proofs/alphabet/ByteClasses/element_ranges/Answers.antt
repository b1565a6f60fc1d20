use Rattle.std.proofs.Common.{sym, subst, arith}
use Rattle.std.proofs.lemmas.List.Kept.{AllPairs-from_increasing}
use Rattle.literal_base.specs.Classes.{elements_of, AreRuns}
use Rattle.literal_base.specs.Inside.Classes.{runs_of}
use Rattle.literal_base.proofs.lemmas.ClassIterations.{elements-rise}
use Rattle.literal_base.proofs.lemmas.Runs.{runs_of-AreRuns, length-runs_of-le}
use Rattle.literal_base.proofs.alphabet.ByteClasses.element_ranges.Goals as goal

pub returns-clause-runs : goal.returns-clause-runs
returns-clause-runs c =
    let bytes = elements_of c.args.self.now c.args.class in
    subst (λ xs. AreRuns bytes (runs_of xs)) (sym c.elements.ensures.bytes)
    (runs_of-AreRuns bytes (AllPairs-from_increasing bytes (elements-rise c.args.self.now c.args.class)))

pub returns-clause-few : goal.returns-clause-few
returns-clause-few c = omega (arith, length-runs_of-le c.elements.result, c.elements.ensures.few)
