use Rattle.std.proofs.Common.{◌∙◌, ap, arith, length, sym}
use Rattle.std.proofs.lemmas.List.{take_all}
use Rattle.literal_rows.specs.Inside.Packed.{unpacked}
use Rattle.literal_rows.proofs.walk.Table.class_bytes.Goals as goal

pub slice_bounds-unpack-end : goal.slice_bounds-unpack-end
slice_bounds-unpack-end c =
    sym (ap length (take_all 64 c.args.self.now.classes.now (omega (arith, c.requires))) ∙ c.requires)

pub returns : goal.returns
returns c = c.unpack.ensures ∙ ap unpacked (take_all 64 c.args.self.now.classes.now (omega (arith, c.requires)))
