use borrow.Rule.Slice.PartMut.{put_mid, same_len_mid}
use Rattle.std.proofs.Common.{◌∙◌, ◌+◌, ◌-◌, ap, arith, drop, length, slice_range, sym, ℕ, List}
use Rattle.std.proofs.lemmas.List.{with_items_is}
use Rattle.literal_rows.proofs.lemmas.Arrays.{length_part}
use Rattle.literal_folding.proofs.lemmas.Blocks.{part_written}
use Rattle.literal_folding.proofs.lemmas.Texts.{length-folded}
use Rattle.literal_folding.proofs.block.Block.fold.Goals as goal

pub returns-clause-held : goal.returns-clause-held
returns-clause-held c =
    let b = c.args.self.now in
    let d = c.deref_mut.result.now in
    let new = c.fold_in_place.new.text in
    let block = c.requires.block in
    let len = length_part b.bytes.items b.folded b.end block.known block.within in
    let whole = ap (λ (xs : List ℕ). length xs) c.deref_mut.ensures.value in
    let end = b.folded + c.args.count in
    let part = length_part d b.folded end (omega arith) (omega (arith, c.requires.within, len, whole)) in
    let written = ap length c.fold_in_place.ensures ∙ length-folded _ in
    let same = same_len_mid b.folded (end - b.folded) d new written in
    ap (λ xs. slice_range xs end b.end)
    (with_items_is b.bytes (put_mid b.folded (end - b.folded) d new) (same ∙ whole ∙ sym b.bytes.ok.0))
    ∙ part_written d new b.folded b.end c.args.count (omega (arith, c.requires.within, len))
    (omega (arith, whole, block.within)) (omega (arith, written, part))
    ∙ ap (λ xs. drop c.args.count (slice_range xs b.folded b.end)) c.deref_mut.ensures.value
