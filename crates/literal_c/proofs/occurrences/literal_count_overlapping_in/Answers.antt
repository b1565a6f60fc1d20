use Rattle.std.proofs.Common.{subst, sym}
use Rattle.literal_search.specs.PreparedOverlapping.{ForOverlapping, IsPreparedOverlapping}
use Rattle.literal_c.proofs.lemmas.Statuses.{damaged}
use Rattle.literal_c.proofs.occurrences.literal_count_overlapping_in.Goals as goal

pub returns-in-Err-clause-status : goal.returns-in-Err-clause-status
returns-in-Err-clause-status c =
    damaged _ (λ P. ForOverlapping c.args.prepared.now (λ _. P)) _ _
    (record { ordered = c.if-start-end.false; in_haystack = c.if-end-haystack.false })
    (λ search is _. c.in-Err.ensures search (subst (IsPreparedOverlapping search) (sym c.in-Ok.ensures.0) is))
