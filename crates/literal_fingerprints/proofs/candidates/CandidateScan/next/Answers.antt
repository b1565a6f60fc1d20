use Rattle.std.proofs.Common.{ℕ, ◌+◌, ◌<◌, [], Option, arith, drop, length, subst}
use Rattle.std.specs.Prelude.{MatchOption}
use Rattle.std.proofs.lemmas.List.{length-map}
use Rattle.literal_fingerprints.specs.CandidateScans.{without_first}
use Rattle.literal_fingerprints.specs.FingerprintsValue.{AllPass}
use Rattle.literal_fingerprints.specs.RarePairs.{AreOf}
use Rattle.literal_fingerprints.specs.declared.pair.RarePair.{RarePair}
use Rattle.literal_fingerprints.proofs.lemmas.Skipped.{occurs_in_rest}
use Rattle.literal_fingerprints.proofs.candidates.CandidateScan.next.Goals.{in-None, in-Some}
use Rattle.literal_fingerprints.proofs.candidates.CandidateScan.next.Goals as goal

pub returns-clause-passed : goal.returns-clause-passed
returns-clause-passed c patterns ignore_case stops i at before o =
    let scan = c.args.self.now in
    let n = c.min-skipped.result in
    let rests = without_first scan.skipped patterns in
    let below : i < length rests = omega (arith, o.is_pattern, length-map patterns (drop {A = ℕ} scan.skipped)) in
    let parts = λ (p : Option RarePair). MatchOption p (AllPass scan.fingerprints ignore_case rests)
    (λ pair. AreOf pair ignore_case rests) in
    let rest = occurs_in_rest scan.skipped n patterns ignore_case c.args.haystack.now c.args.span i at
    c.min-skipped.ensures in
    elim c.match-self.branch [
      | in-None w ↦
          let all : AllPass scan.fingerprints ignore_case rests = subst parts w.in-None.is stops in
          w.next-at.ensures.passed rests ignore_case all i (at + n) (omega (arith, before, w.at-is))
          (rest (all i [] below).some o)
      | in-Some w ↦
          let all : AreOf w.in-Some.pair ignore_case rests = subst parts w.in-Some.is stops in
          let has = (all i [] below).inside in
          w.next-at-in-Some.ensures.passed rests ignore_case all i (at + n) (omega (arith, before, w.at-is))
          (rest (omega (arith, has)) o)
    ]
