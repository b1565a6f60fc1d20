use Rattle.std.proofs.Common.{subst, sym}
use Rattle.literal_search.specs.Prepared.{ForPrepared, IsPrepared}
use Rattle.literal_c.proofs.lemmas.Statuses.{damaged, some_room}
use Rattle.literal_c.proofs.prepared_search.literal_find_all_in.Goals as goal

pub returns-in-Err-clause-status : goal.returns-in-Err-clause-status
returns-in-Err-clause-status c =
    damaged _ (λ P. ForPrepared c.args.prepared.now (λ _. P)) _ _ (
      record { ordered = c.if-start-end.false; in_haystack = c.if-end-haystack.false },
      some_room c.args.found.now c.if-is_empty.ensures,
    )
    (λ search is _. c.in-Err.ensures.page search (subst (IsPrepared search) (sym c.in-Ok.ensures.0) is))
