use Rattle.std.proofs.Common.{◌∙◌, ap, bit_and, inl, inr, sym}
use Rattle.literal_fingerprints.specs.FingerprintsValue.{buckets_of}
use Rattle.literal_fingerprints.specs.Inside.Nibbles.{half_table}
use Rattle.literal_fingerprints.proofs.lemmas.Sets.{left_within, right_within}
use Rattle.literal_fingerprints.proofs.nibbles.Nibbles.shared.Goals as goal

pub returns-then-place-pattern : goal.returns-then-place-pattern
returns-then-place-pattern c byte same =
    let own = c.buckets.result in
    let other = c.buckets-then-place-pattern.result in
    let table = half_table c.args.self.now in
    elim (c.other_case.ensures byte (same c.if-place-pattern.true)) [
      | inl is ↦
          ap (bit_and (bit_and own other)) (ap (buckets_of table) is ∙ sym c.buckets.ensures)
          ∙ left_within own other
      | inr is ↦
          ap (bit_and (bit_and own other)) (ap (buckets_of table) is ∙ sym c.buckets-then-place-pattern.ensures)
          ∙ right_within own other
    ]
