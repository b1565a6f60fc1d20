use Rattle.std.proofs.Common.{◌≡◌, ℕ, List, [], ◌∷◌, false, length, refl, ap, subst, length-append, arith, rules}
use Rattle.std.specs.List.{flat_map}
use Rattle.literal_base.specs.Greedy.{IsGreedy}
use Rattle.literal_base.specs.MatchValue.{MatchValue}
use Rattle.literal_base.specs.Occurs.{NothingOccurs, whole_of}
use Rattle.literal_base.specs.Query.{Query}
use Rattle.literal_packed.proofs.lemmas.Callers.{greedy_from_run, occurs_from_run}
use Rattle.litfind.specs.Lines.{AreMatchLines, line_of}
use Rattle.litfind.specs.Query.{all_matches}
use Rattle.litfind.proofs.engine.all_lines.Goals as goal

-- matches without a line are none
no_lines : (matches : List MatchValue) → [] ≡ flat_map line_of matches → matches ≡ []
no_lines [] none = refl
no_lines (found ∷ more) none = absurd (omega (arith, simp length-append at (ap length none)))

-- where the empty text is the lines, no pattern occurs
nothing_without_lines : (query : Query) (input : List ℕ) → AreMatchLines (all_matches query) input []
    → NothingOccurs query.patterns false input (whole_of input)
nothing_without_lines query input are =
    subst (λ (matches : List MatchValue). IsGreedy query false input 0 matches) (no_lines are.matches are.lines)
    are.found

pub returns-clause-lines : goal.returns-clause-lines
returns-clause-lines c = record {
  matches = c.loop-found.yielded;
  found = greedy_from_run c.args.searcher.now c.args.input.now _ _ _ _ (cc) c.loop-found.yielded_by
      c.in-None.ensures.steps;
  lines = c.loop-found.invariant;
}

pub returns-in_err-write-clause-no_memory : goal.returns-in_err-write-clause-no_memory
returns-in_err-write-clause-no_memory c =
    let query = c.args.searcher.now in
    let input = c.args.input.now in
    let some : ¬ AreMatchLines (all_matches query) input [] =
    λ are. occurs_from_run query input _ _ _ _ _ (cc) c.loop-found.yielded_by c.in-Some.ensures.steps
    (nothing_without_lines query input are) in
    search (rules, some)
