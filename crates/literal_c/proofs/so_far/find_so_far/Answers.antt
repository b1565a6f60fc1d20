use Rattle.std.proofs.Common.{List, ℕ, Option, length, subst, sym}
use Rattle.literal_base.specs.Leftmost.{IsLeftmost, IsLeftmostMatch}
use Rattle.literal_base.specs.MatchValue.{MatchValue}
use Rattle.literal_base.specs.Occurs.{Occurs, between, rest_from}
use Rattle.literal_c.proofs.lemmas.SoFar.{nothing_follows}
use Rattle.literal_c.proofs.so_far.find_so_far.Goals as goal

pub returns-then-more-clause-prepared : goal.returns-then-more-clause-prepared
returns-then-more-clause-prepared c = λ search is behind may.
    c.find_so_far.ensures.whatever_follows search is behind

pub returns-in_err-found-clause-prepared : goal.returns-in_err-found-clause-prepared
returns-in_err-found-clause-prepared c = λ search is behind may.
    absurd (c.in_err-found.ensures.prepared search is)

pub returns-in-Some-clause-prepared : goal.returns-in-Some-clause-prepared
returns-in-Some-clause-prepared c = λ search is behind may.
    let haystack = c.args.haystack.now in
    let text = nothing_follows c.args.more behind haystack c.if-more.false may in
    subst (λ (l : List ℕ). IsLeftmostMatch search.query search.ignore_case l (rest_from l c.args.start)
    c.in-Some.found) text
    (subst (λ (o : Option MatchValue). IsLeftmost search.query search.ignore_case haystack
    (between c.args.start (length haystack)) o) c.in-Some.is (c.in_ok-found.ensures.prepared search is))

pub returns-in-None-clause-prepared : goal.returns-in-None-clause-prepared
returns-in-None-clause-prepared c = λ search is behind may i p occurs.
    let haystack = c.args.haystack.now in
    let text = nothing_follows c.args.more behind haystack c.if-more.false may in
    let nothing = subst (λ (o : Option MatchValue). IsLeftmost search.query search.ignore_case haystack
    (between c.args.start (length haystack)) o) c.in-None.is (c.in_ok-found.ensures.prepared search is) in
    absurd (nothing i p (subst (λ (l : List ℕ). Occurs search.query.patterns search.ignore_case l
    (rest_from l c.args.start) i p) (sym text) occurs))
