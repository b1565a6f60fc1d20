use borrow.Rule.Slice.PartMut.{post_of, put_mid, same_len_mid}
use Rattle.std.proofs.Common.{arith, ap, length, take}
use Rattle.std.proofs.lemmas.List.{with_items_is}
use Rattle.literal_folding.proofs.lemmas.Blocks.{part_and_read}
use Rattle.literal_folding.proofs.block.Block.read_more.Goals as goal

pub returns-clause-ok : goal.returns-clause-ok
returns-clause-ok g c =
    let read = c.in_ok-count.ensures in (
      take c.in_ok-count.count c.read.new.buf,
      read.bytes.0,
      grind (arith, put_mid, same_len_mid, with_items_is, part_and_read, post_of),
      read.bound.1,
      λ none. read.bytes.1 none (omega (
        arith,
        c.make_room.ensures.block.size,
        c.make_room.ensures.room,
        ap length c.make_room.ensures.held,
        c.requires.sound.few,
        ap length c.deref_mut.ensures.value,
      )),
    )
