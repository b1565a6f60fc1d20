use Rattle.std.proofs.Common.{◌<◌, ◌∙◌, ap, subst, sym}
use Rattle.literal_search.specs.PreparedOverlapping.{PreparedOverlappingMatchesValue}
use Rattle.literal_c.specs.Inside.Resumed.{IsResumed, ResumedValue}
use Rattle.literal_c.proofs.lemmas.Resumed.{gives_none, gives_one, leaves_out, left_of, smaller}
use Rattle.literal_c.proofs.resumed.ResumedOccurrences.next_match.Goals as goal

pub returns-then-has-clause-found : goal.returns-then-has-clause-found
returns-then-has-clause-found c = λ m start.
    let is = subst (λ (r : ResumedValue). IsResumed r m) (sym c.self.view_is) (c.loop-it.invariant.stands m start) in
    let told = c.in_ok-it.ensures in
    gives_one _ m c.next_match.new.self (ap (λ (v : PreparedOverlappingMatchesValue). v.numbers) told.same) is
    c.in-Some.it (rw c.in-Some.is at (told.prepared m.search is.prepared)) (c.has.ensures.0 c.if-has.true)

pub loop-it-smaller : goal.loop-it-smaller
loop-it-smaller c =
    let told = c.in_ok-it.ensures in
    subst (λ (r : ResumedValue). left_of c.next_match.new.self < left_of r.matches) c.self.view_is
    (smaller _ c.next_match.new.self c.in-Some.it told.same (rw c.in-Some.is at told.inside)
    (rw c.in-Some.is at told.pattern) (rw c.in-Some.is at told.ordered))

pub loop-it-preserved : goal.loop-it-preserved
loop-it-preserved c =
    let so_far = c.loop-it.invariant in
    let told = c.in_ok-it.ensures in
    let numbers = ap (λ (v : PreparedOverlappingMatchesValue). v.numbers) told.same in
    record {
      end = ap (λ (r : ResumedValue). r.end) c.self.view_is ∙ so_far.end;
      pattern = ap (λ (r : ResumedValue). r.pattern) c.self.view_is ∙ so_far.pattern;
      numbers = numbers ∙ (ap (λ (r : ResumedValue). r.matches.numbers) c.self.view_is ∙ so_far.numbers);
      span = ap (λ (v : PreparedOverlappingMatchesValue). v.span) told.same
          ∙ (ap (λ (r : ResumedValue). r.matches.span) c.self.view_is ∙ so_far.span);
      stands = λ m start.
          let is = subst (λ (r : ResumedValue). IsResumed r m) (sym c.self.view_is) (so_far.stands m start) in
          leaves_out _ m c.next_match.new.self numbers is c.in-Some.it
          (rw c.in-Some.is at (told.prepared m.search is.prepared))
          (λ from. cc (c.has.ensures.1 from, c.if-has.false));
    }

pub returns-clause-found : goal.returns-clause-found
returns-clause-found c = λ m start.
    let is = subst (λ (r : ResumedValue). IsResumed r m) (sym c.self.view_is) (c.loop-it.invariant.stands m start) in
    let told = c.in_ok-it.ensures in
    gives_none _ m c.next_match.new.self (ap (λ (v : PreparedOverlappingMatchesValue). v.numbers) told.same) is
    (rw c.in_default.is at (told.prepared m.search is.prepared))
