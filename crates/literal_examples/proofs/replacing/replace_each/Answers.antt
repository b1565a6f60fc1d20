use Rattle.std.proofs.Common.{◌≡◌, [], ◌∙◌, ap, ◌++◌, List, map, refl, rules, sym, ℕ}
use Rattle.std.proofs.lemmas.List.{get_or-map, length-map}
use Rattle.literal_search.proofs.lemmas.Callers.{replaced_by_calls, replaced_by_patterns}
use Rattle.literal_examples.proofs.replacing.replace_each.Goals as goal

pub returns-clause-replaced : goal.returns-clause-replaced
returns-clause-replaced c =
    let patterns = c.args.search.now.query.patterns in
    let replacement : List ℕ = c.args.replacement.now in
    let given = map (λ (_ : List ℕ). replacement) patterns in
    replaced_by_calls c.in_ok-answer.ensures.ok given (length-map patterns (λ (_ : List ℕ). replacement))
    (λ f. f.0.now ≡ replacement) refl
    (λ f found bytes before behind next same is_pattern called.
    let written : behind.now.items ≡ before.now.items ++ replacement = search (rules, called.met, same) in (
      search (rules, called.met, same),
      written ∙ ap (λ r. before.now.items ++ r)
          (sym (get_or-map (λ (_ : List ℕ). replacement) patterns found.pattern [] [] is_pattern)),
    ))

pub returns-clause-same : goal.returns-clause-same
returns-clause-same c =
    let is = returns-clause-replaced c in
    let replacement : List ℕ = c.args.replacement.now in (
      is.matches,
      is.are_matches,
      is.is_replaced
          ∙ replaced_by_patterns c.args.search.now c.args.text.now (λ _. replacement) is.matches is.are_matches,
    )
