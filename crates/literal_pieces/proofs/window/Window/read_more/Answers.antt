use Rattle.std.proofs.Common.{arith}
use Rattle.std.proofs.lemmas.List.{with_items_is}
use borrow.Rule.Slice.PartMut.{post_of, put_mid, same_len_mid}
use Rattle.literal_pieces.proofs.lemmas.Streams.{part_and_more}
use Rattle.literal_pieces.proofs.window.Window.read_more.Goals as goal

pub returns-clause-read : goal.returns-clause-read
returns-clause-read g c = grind (arith, put_mid, same_len_mid, with_items_is, part_and_more, post_of)
