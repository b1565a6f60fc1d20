use Rattle.std.proofs.Common.{Some, ◌<◌, ◌∙◌, ◌∷◌, [], ap, append-nil, append_assoc, arith, length, map, rules}
use Rattle.std.proofs.Common.{slice_range}
use Rattle.std.proofs.lemmas.List.{length-drop, length-map}
use Rattle.literal_search.proofs.lemmas.Callers.{greedy_from_matches, match_from, matches_go_on, matches_of}
use Rattle.literal_search.proofs.lemmas.Replaced.{replacement_at}
use Rattle.literal_search.specs.Replaced.{replaced}
use Rattle.literal_search.specs.declared.replace.ReplaceError.TheVariants.{OutOfMemory}
use Rattle.literal_folding.specs.Replaced.{RefusesToReplaceFolded}
use Rattle.literal_folding.specs.FoldedSearchValue.{kept_case}
use Rattle.literal_folding.specs.Folding.{folded}
use Rattle.literal_folding.proofs.lemmas.Texts.{length-folded}
use Rattle.literal_folding.proofs.search.FoldedSearch.replace_all.Goals as goal

pub loop-found-init : goal.loop-found-init
loop-found-init c =
    let len = length-folded c.args.text.now in record {
      from = record {
        search_is = grind arith;
        haystack_is = grind arith;
        end_is = grind arith;
        at_is = grind arith;
        within = omega arith;
      };
      len = len;
      goes_on = λ more. grind arith;
    }

pub loop-found-preserved : goal.loop-found-preserved
loop-found-preserved c =
    let so_far = c.loop-found.invariant in
    let found = c.in-Some.found in
    let replacement = replacement_at c.args.replacements.now _ _ (c.as_usize.ensures.value ∙ c.pattern.ensures) in
    record {
      from = matches_go_on so_far.from c.end-at.ensures.end c.in-Some.ensures.steps;
      len = so_far.len;
      goes_on = λ more. grind (arith, append_assoc, slice_range, replacement, so_far.goes_on (found ∷ more));
    }

pub returns-clause-ok : goal.returns-clause-ok
returns-clause-ok c =
    let so_far = c.loop-found.invariant in
    let given = map (λ r. r.now) c.args.replacements.now in
    let start = c.into_iter-found-iterator.ensures.into_iter_gives
    ∙ (c.find_iter-found-items.ensures ∙ ap (matches_of (kept_case c.args.self.now)) c.in_ok-folded.ensures.ok) in
    record {
      one_for_each = omega (
        arith,
        c.if-replacements-patterns_len.false,
        c.patterns_len.ensures.len,
        length-map c.args.replacements.now (λ r. r.now),
      );
      matches = c.loop-found.yielded;
      are_greedy = greedy_from_matches (kept_case c.args.self.now) (folded c.args.text.now) _ _ _ _ start
          c.loop-found.yielded_by c.in-None.ensures.steps;
      is_replaced = c.in_ok-extend_from_slice-3.ensures.items
          ∙ (so_far.goes_on [] ∙ ap (replaced c.args.text.now given 0) (append-nil c.loop-found.yielded));
    }

pub returns-in_err-extend_from_slice-clause-error : goal.returns-in_err-extend_from_slice-clause-error
returns-in_err-extend_from_slice-clause-error c =
    let so_far = c.loop-found.invariant in
    let step = c.in-Some.ensures.steps in
    let found = match_from so_far.from (Some c.in-Some.found) step in
    let some : 0 < length c.args.text.now =
    omega (arith, so_far.len, found.occurs.before_end, found.whole, step.not_empty) in
    let refused : RefusesToReplaceFolded c.args.self.now c.args.text.now (map (λ r. r.now) c.args.replacements.now)
    OutOfMemory = (
      omega (
        arith,
        c.if-replacements-patterns_len.false,
        c.patterns_len.ensures.len,
        length-map c.args.replacements.now (λ r. r.now),
      ),
      some,
    ) in
    search (rules, refused)

pub returns-in_err-extend_from_slice-2-clause-error : goal.returns-in_err-extend_from_slice-2-clause-error
returns-in_err-extend_from_slice-2-clause-error c =
    let so_far = c.loop-found.invariant in
    let step = c.in-Some.ensures.steps in
    let found = match_from so_far.from (Some c.in-Some.found) step in
    let some : 0 < length c.args.text.now =
    omega (arith, so_far.len, found.occurs.before_end, found.whole, step.not_empty) in
    let refused : RefusesToReplaceFolded c.args.self.now c.args.text.now (map (λ r. r.now) c.args.replacements.now)
    OutOfMemory = (
      omega (
        arith,
        c.if-replacements-patterns_len.false,
        c.patterns_len.ensures.len,
        length-map c.args.replacements.now (λ r. r.now),
      ),
      some,
    ) in
    search (rules, refused)

pub returns-in_err-extend_from_slice-3-clause-error : goal.returns-in_err-extend_from_slice-3-clause-error
returns-in_err-extend_from_slice-3-clause-error c =
    let so_far = c.loop-found.invariant in
    let some : 0 < length c.args.text.now =
    omega (
      arith,
      c.in_err-extend_from_slice-3.ensures.full,
      c.loop-found.answer.ok,
      length-drop c.loop-found.at c.args.text.now,
    ) in
    let refused : RefusesToReplaceFolded c.args.self.now c.args.text.now (map (λ r. r.now) c.args.replacements.now)
    OutOfMemory = (
      omega (
        arith,
        c.if-replacements-patterns_len.false,
        c.patterns_len.ensures.len,
        length-map c.args.replacements.now (λ r. r.now),
      ),
      some,
    ) in
    search (rules, refused)
