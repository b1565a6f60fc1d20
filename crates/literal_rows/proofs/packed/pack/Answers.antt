use Rattle.std.proofs.Common.{◌∙◌, ap, arith, length}
use Rattle.std.proofs.lemmas.Grind.{take-set_at}
use Rattle.std.proofs.lemmas.List.{length-set, take_all}
use Rattle.literal_rows.specs.Inside.Packed.{unpacked}
use Rattle.literal_rows.proofs.lemmas.Packed.{packed_more, unpacked_packed}
use Rattle.literal_rows.proofs.packed.pack.Goals as goal

pub loop-at-preserved : goal.loop-at-preserved
loop-at-preserved c = grind (arith, length-set, packed_more, take-set_at)

pub returns-clause-packed : goal.returns-clause-packed
returns-clause-packed c = grind (arith, take_all)

pub returns-clause-bytes : goal.returns-clause-bytes
returns-clause-bytes c =
    ap unpacked (returns-clause-packed c)
    ∙ unpacked_packed c.args.bytes.now (λ i. omega (arith, c.type_inv.bytes i)) (length c.args.numbers.now)
    (omega (arith, c.requires))
