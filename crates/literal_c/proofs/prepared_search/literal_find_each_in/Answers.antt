use Rattle.std.proofs.Common.{length, ap, arith, subst, sym}
use Rattle.literal_search.specs.Prepared.{ForPrepared, IsPrepared}
use Rattle.literal_c.proofs.lemmas.Pieces.{pieces_are_as_many}
use Rattle.literal_c.proofs.lemmas.Statuses.{damaged}
use Rattle.literal_c.proofs.prepared_search.literal_find_each_in.Goals as goal

pub answer_each-requires : goal.answer_each-requires
answer_each-requires c = omega (
  arith,
  ap length c.new-2.ensures,
  pieces_are_as_many c.args.haystacks.now 0 c.args.haystack_ends.now,
  c.if-answers-haystack_ends.false,
)

pub returns-in-Err-clause-status : goal.returns-in-Err-clause-status
returns-in-Err-clause-status c =
    damaged _ (λ P. ForPrepared c.args.prepared.now (λ _. P)) _ _
    (c.are_ends.ensures.0 c.if-not-are_ends.false, c.if-answers-haystack_ends.false)
    (λ search is _. c.in-Err.ensures.answers search.query search.ignore_case
    (subst (IsPrepared search) (sym c.in-Ok.ensures.0) is))
