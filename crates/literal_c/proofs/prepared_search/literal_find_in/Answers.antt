use Rattle.std.proofs.Common.{Option, subst, sym}
use Rattle.literal_base.specs.Leftmost.{IsLeftmost, IsLeftmostMatch}
use Rattle.literal_base.specs.MatchValue.{MatchValue}
use Rattle.literal_base.specs.Occurs.{between}
use Rattle.literal_search.specs.Prepared.{ForPrepared, IsPrepared}
use Rattle.literal_c.specs.Answers.{match_of}
use Rattle.literal_c.proofs.lemmas.Statuses.{damaged}
use Rattle.literal_c.proofs.prepared_search.literal_find_in.Goals as goal

pub returns-in-Err-clause-status : goal.returns-in-Err-clause-status
returns-in-Err-clause-status c =
    damaged _ (λ P. ForPrepared c.args.prepared.now (λ _. P)) _ _
    (record { ordered = c.if-start-end.false; in_haystack = c.if-end-haystack.false })
    (λ search is _. c.in-Err.ensures.prepared search
    (subst (IsPrepared search) (sym c.in-Ok.ensures.0) is))

pub returns-in-Ok-None-clause-none : goal.returns-in-Ok-None-clause-none
returns-in-Ok-None-clause-none c = λ search is _.
    subst (λ (o : Option MatchValue). IsLeftmost search.query search.ignore_case c.args.haystack.now
    (between c.args.start c.args.end) o) c.in-Ok-None.field-0-is
    (c.in-Ok-None.ensures.prepared search
    (subst (IsPrepared search) (sym c.in-Ok.ensures.0) is))

pub returns-in-Ok-Some-clause-found : goal.returns-in-Ok-Some-clause-found
returns-in-Ok-Some-clause-found c = λ search is _.
    subst (λ m. IsLeftmostMatch search.query search.ignore_case c.args.haystack.now (between c.args.start c.args.end)
    (match_of m))
    (sym c.match_for_c.ensures)
    (subst (λ (o : Option MatchValue). IsLeftmost search.query search.ignore_case c.args.haystack.now
    (between c.args.start c.args.end) o) c.in-Ok-Some.field-0-is
    (c.in-Ok-Some.ensures.prepared search
    (subst (IsPrepared search) (sym c.in-Ok.ensures.0) is)))
