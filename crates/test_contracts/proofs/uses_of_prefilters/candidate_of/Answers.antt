use Rattle.std.proofs.Common.{Option, IfSome, subst}
use Rattle.literal_packed.specs.State.{kept_of}
use Rattle.literal_prefilters.specs.Choice.{IsBuiltFor}
use Rattle.literal_prefilters.specs.PrefilterValue.{PrefilterValue}
use Rattle.test_contracts.proofs.uses_of_prefilters.candidate_of.Goals as goal

pub returns-in-Some-clause-sound : goal.returns-in-Some-clause-sound
returns-in-Some-clause-sound c = λ kind serves.
    let builder = c.args.builder.now in
    let P : Option PrefilterValue → Type 0 = λ built. IfSome built (IsBuiltFor builder) in
    let covers : IsBuiltFor builder c.in-Some.pre = subst P c.in-Some.is c.in_ok-pre.ensures.covers in
    c.find_in.ensures.sound.each (record { kind = kind; patterns = kept_of builder.state }) builder.ignore_case
    (covers kind serves)
