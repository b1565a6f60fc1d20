use Rattle.std.proofs.Common.{length, ap, arith}
use Rattle.literal_c.proofs.lemmas.Pieces.{pieces_are_as_many}
use Rattle.literal_c.proofs.searches.literal_find_each.Goals as goal

pub answer_each-requires : goal.answer_each-requires
answer_each-requires c = omega (
  arith,
  ap length c.new.ensures,
  pieces_are_as_many c.args.haystacks.now 0 c.args.haystack_ends.now,
  c.if-answers-haystack_ends.false,
)
