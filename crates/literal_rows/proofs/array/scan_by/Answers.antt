use Rattle.std.proofs.Common.{◌∙◌, ap, arith, drop}
use Rattle.std.proofs.lemmas.List.{length-drop, take_all}
use Rattle.literal_fingerprints.specs.FingerprintsValue.{fingerprints_in}
use Rattle.literal_rows.specs.Inside.Packed.{unpacked}
use Rattle.literal_rows.specs.Arrays.{scan_by, short_of}
use Rattle.literal_rows.proofs.lemmas.ScanNumbers.{same_scan}
use Rattle.literal_rows.proofs.array.scan_by.Goals as goal

pub returns : goal.returns
unfolding scan_by
returns c =
    let prints = c.args.prints.now in
    same_scan _ _ _ _ _ _ _ _ (c.from_bytes.ensures ∙ ap fingerprints_in c.unpack.ensures)
    c.pair_by.ensures c.skipped_by.ensures
    (c.short_by.ensures ∙ ap (λ n. short_of (unpacked n))
    (take_all 5 (drop 35 prints) (omega (arith, length-drop 35 prints, c.requires))))
