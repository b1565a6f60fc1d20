use Rattle.std.proofs.Common.{slice_index, sym, ap, subst, arith, rules}
use Rattle.literal_prefilters.specs.declared.prefilter.Candidate.{Candidate}
use Rattle.literal_prefilters.specs.Sound.{Sound}
use Rattle.literal_prefilters.proofs.lemmas.FurthestDistance.{distance-le-reach_of}
use Rattle.literal_prefilters.proofs.lemmas.Sound.{step-sound}
use Rattle.literal_prefilters.proofs.lemmas.Callers.{are_bytes}
use Rattle.literal_prefilters.proofs.prefilter.byte_table.ByteTable.candidate.Goals as goal

pub returns-in-None-clause-step : goal.returns-in-None-clause-step
returns-in-None-clause-step c = search rules

pub returns-in-None-clause-sound : goal.returns-in-None-clause-sound
returns-in-None-clause-sound c = record {
  each = λ query ignore_case covers.
      let h = c.args.haystack.now in
      let P : Candidate → Type 0 = Sound query ignore_case h c.args.span in
      subst P (sym (returns-in-None-clause-step c).step)
      (step-sound c.args.self.now query.patterns ignore_case covers h
      (are_bytes h (λ k. omega (arith, c.type_inv.haystack k))) c.args.span c.requires query.kind);
}

pub returns-in-Some-clause-step : goal.returns-in-Some-clause-step
returns-in-Some-clause-step c = search rules

pub returns-in-Some-clause-sound : goal.returns-in-Some-clause-sound
returns-in-Some-clause-sound c = record {
  each = λ query ignore_case covers.
      let h = c.args.haystack.now in
      let P : Candidate → Type 0 = Sound query ignore_case h c.args.span in
      subst P (sym (returns-in-Some-clause-step c).step)
      (step-sound c.args.self.now query.patterns ignore_case covers h
      (are_bytes h (λ k. omega (arith, c.type_inv.haystack k))) c.args.span c.requires query.kind);
}

pub returns-in-Some-clause-reach : goal.returns-in-Some-clause-reach
returns-in-Some-clause-reach c =
    let counted = c.in-Some.ensures.exact in
    let far = distance-le-reach_of c.args.self.now
    (slice_index c.args.haystack.now c.in-Some.found.place) c.in-Some.found.distance c.in-Some.ensures.distance in
    let scanned = ap (λ t. t.scanned) counted in
    record {
      tried = ap (λ t. t.tried) counted;
      scanned = omega (arith, scanned, far);
    }
