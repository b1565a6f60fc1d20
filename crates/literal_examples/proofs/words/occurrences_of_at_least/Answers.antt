use Rattle.std.proofs.Common.{◌≡◌, ◌-◌, ◌∙◌, ◌++◌, List, [], ◌∷◌, ap, append-nil, arith, cond, false, filter, nat_le}
use Rattle.std.proofs.Common.{subst, sym}
use Rattle.std.proofs.lemmas.Bool.Decides.{nat_tests}
use Rattle.std.proofs.lemmas.List.Elements.{filter-append}
use Rattle.literal_base.specs.MatchValue.{MatchValue}
use Rattle.literal_base.specs.Occurs.{whole_of}
use Rattle.literal_search.specs.Overlapping.{AreAllThat}
use Rattle.literal_search.proofs.lemmas.Callers.{passing}
use Rattle.literal_examples.proofs.words.occurrences_of_at_least.Goals as goal

pub loop-found-preserved : goal.loop-found-preserved
loop-found-preserved c =
    let found = c.in-Some.found in
    let test = λ (m : MatchValue). nat_le c.args.least (m.end - m.start) in
    let fails : test found ≡ false = grind (arith, nat_tests) in
    c.loop-found.invariant
    ∙ sym (filter-append test c.loop-found.yielded (found ∷ [])
    ∙ (ap (λ b. filter test c.loop-found.yielded ++ cond b (found ∷ []) []) fails ∙ append-nil _))

pub returns : goal.returns
returns c =
    let s = c.args.search.now in
    let text = c.args.text.now in
    let test = λ (found : MatchValue). nat_le c.args.least (found.end - found.start) in
    subst (λ (all : List MatchValue). AreAllThat test s.patterns s.ignore_case text (whole_of text) all)
    (sym c.loop-found.invariant)
    (passing test s.patterns s.ignore_case text (whole_of text) _
    (c.iterations_give_each_occurrence_once.ensures s text (whole_of text) _ _ _ c.loop-found.yielded (cc)
    c.loop-found.yielded_by c.in-None.ensures.steps))
