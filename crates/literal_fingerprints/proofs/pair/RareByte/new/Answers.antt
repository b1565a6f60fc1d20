use Rattle.std.proofs.Common.{◌∙◌, ap, bit_or, inl, inr}
use Rattle.std.specs.Int.Bits.{bit_xor}
use Rattle.literal_fingerprints.proofs.lemmas.Sets.{same_once_set}
use Rattle.literal_fingerprints.proofs.pair.RareByte.new.Goals as goal

pub returns : goal.returns
returns c text same =
    let byte = c.args.byte in
    let other = c.other_case-other.result in
    elim (c.other_case-other.ensures text same) [
      | inl own ↦ ap (λ b. bit_or b (bit_xor byte other)) own
      | inr in_other_case ↦ ap (λ b. bit_or b (bit_xor byte other)) in_other_case ∙ same_once_set other byte
    ]
