use Rattle.std.proofs.Common.{List, subst, sym}
use Rattle.literal_base.specs.MatchValue.{MatchValue}
use Rattle.literal_base.specs.Occurs.{whole_of}
use Rattle.literal_search.specs.Overlapping.{IsOverlapping}
use Rattle.literal_examples.proofs.words.collect_all.Goals as goal

pub returns : goal.returns
returns c =
    let s = c.args.search.now in
    let text = c.args.text.now in
    subst (λ (all : List MatchValue). IsOverlapping s.patterns s.ignore_case text (whole_of text) all)
    (sym c.loop-found.invariant)
    (c.iterations_give_each_occurrence_once.ensures s text (whole_of text) _ _ _ c.loop-found.yielded (cc)
    c.loop-found.yielded_by c.in-None.ensures.steps)
