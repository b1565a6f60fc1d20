use Rattle.std.proofs.Common.{[], ◌∷◌, ap, ◌∙◌, append-nil, arith}
use Rattle.std.proofs.lemmas.Grind.{common_steps}
use Rattle.literal_search.proofs.lemmas.Callers.{greedy_from_matches, matches_go_on}
use Rattle.marker.specs.Marked.{marked}
use Rattle.marker.proofs.mark.Goals as goal

pub loop-found-preserved : goal.loop-found-preserved
loop-found-preserved c = record {
  from = matches_go_on c.loop-found.invariant.from c.end-at.ensures.end c.in-Some.ensures.steps;
  marks = λ more. grind (arith, common_steps, c.loop-found.invariant.marks (c.in-Some.found ∷ more));
}

pub returns : goal.returns
returns c = (
  c.loop-found.yielded,
  greedy_from_matches c.args.search.now c.args.text.now _ _ _ _ (cc) c.loop-found.yielded_by c.in-None.ensures.steps,
  c.in_ok-extend_from_slice-3.ensures.items ∙ (c.loop-found.invariant.marks []
      ∙ ap (marked c.args.text.now 0) (append-nil c.loop-found.yielded)),
)
