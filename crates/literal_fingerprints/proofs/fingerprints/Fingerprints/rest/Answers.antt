use Rattle.std.proofs.Common.{◌≡◌, ◌+◌, ◌-◌, ◌≤◌, arith, inl, inr, subst, take}
use Rattle.std.proofs.lemmas.Bool.{cases_lt}
use Rattle.literal_fingerprints.specs.FingerprintsValue.{PassesAt}
use Rattle.literal_fingerprints.proofs.lemmas.Passing.{none_begins}
use Rattle.literal_fingerprints.proofs.lemmas.Scan.{far, none_shared, passed_more, passes}
use Rattle.literal_fingerprints.proofs.fingerprints.Fingerprints.rest.Goals as goal

pub returns-clause-passed : goal.returns-clause-passed
returns-clause-passed c =
    let f = c.args.self.now in
    let start = c.args.span.start in
    let cut = take c.args.span.end c.args.haystack.now in
    let from = c.args.from in
    let here = c.look_up-here.ensures f cut start from c.requires.tables c.requires.after c.load_rest.ensures.lanes in
    let lanes = c.shared_after.ensures f cut start from c.requires.looked here in
    none_begins f c.args.haystack.now c.args.span c.requires.valid _ (λ k after below.
    passed_more cut start f from _ c.requires.none
    (none_shared f cut start from _ lanes _ c.zeros_before-passed.ensures.few
    c.zeros_before-passed.ensures.zero) k after
    (omega (arith, c.min.ensures, c.max.ensures, c.saturating_sub.ensures)))

pub returns-clause-stops : goal.returns-clause-stops
returns-clause-stops c =
    let f = c.args.self.now in
    let start = c.args.span.start in
    let end = c.args.span.end in
    let cut = take end c.args.haystack.now in
    let from = c.args.from in
    let passed = c.zeros_before-passed.result in
    let here = c.look_up-here.ensures f cut start from c.requires.tables c.requires.after c.load_rest.ensures.lanes in
    let lanes = c.shared_after.ensures f cut start from c.requires.looked here in
    elim (cases_lt passed 16) [
      | inl some ↦
          let lane = c.zeros_before-passed.ensures.stops some in
          let after : start + 3 ≤ from + passed = far f cut start from _ lanes passed some lane in
          elim (cases_lt end (from + passed - 3)) [
            | inl past ↦ inr (omega (arith, past, c.min.ensures, c.max.ensures, c.saturating_sub.ensures))
            | inr within ↦
                let place : from + passed - 3 ≡ c.min.result =
                omega (arith, within, after, c.min.ensures, c.max.ensures, c.saturating_sub.ensures) in
                inl (subst (PassesAt f cut) place (passes f cut start from _ lanes passed some lane))
          ]
      | inr none ↦ inr (omega (arith, none, c.requires.few, c.min.ensures, c.max.ensures, c.saturating_sub.ensures))
    ]
