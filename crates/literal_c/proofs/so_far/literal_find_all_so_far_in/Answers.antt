use Rattle.std.proofs.Common.{◌≡◌, ◌∙◌, Bool, List, ap, arith, map, subst, sym, take, ℕ}
use Rattle.literal_search.specs.Prepared.{ForPrepared, IsPrepared, PreparedMatchesValue, longest_in}
use Rattle.literal_search.specs.SearchValue.{SearchValue, longest_of}
use Rattle.literal_c.specs.Answers.{match_of}
use Rattle.literal_c.specs.Arguments.{is_set}
use Rattle.literal_c.specs.SoFar.{AreFirstSoFar, deciding_len}
use Rattle.literal_c.proofs.lemmas.Statuses.{damaged, some_room}
use Rattle.literal_c.proofs.so_far.literal_find_all_so_far_in.Goals as goal

-- as many bytes decide as the longest of the patterns has for which the array is prepared
deciding_is : (search : SearchValue) (more : Bool) (array : List ℕ) (deciding : ℕ)
    → deciding ≡ deciding_len more (longest_in array) → IsPrepared search array
    → deciding ≡ deciding_len more (longest_of search.query.patterns)
deciding_is search more array deciding is prepared = is ∙ ap (deciding_len more) prepared.tables.longest

pub returns-in-Err-clause-status : goal.returns-in-Err-clause-status
returns-in-Err-clause-status c =
    damaged _ (λ P. ForPrepared c.args.prepared.now (λ _. P)) _ _ (
      omega (arith, c.if-start-end.false),
      some_room c.args.found.now c.if-is_empty.ensures,
    )
    (λ search is _.
    let whole = subst (IsPrepared search) (sym c.in-Ok.ensures.0) is in
    c.in-Err.ensures.matches search (is_set c.args.more)
    (subst (IsPrepared search) (sym (ap (λ (m : PreparedMatchesValue). m.numbers) c.find_iter_in-matches.ensures))
    whole)
    (deciding_is search (is_set c.args.more) c.in-Ok.search c.deciding_len_by-deciding.result
    c.deciding_len_by-deciding.ensures whole))

pub returns-in-Ok-write_known-clause-matches : goal.returns-in-Ok-write_known-clause-matches
returns-in-Ok-write_known-clause-matches c = λ search is _.
    let whole = subst (IsPrepared search) (sym c.in-Ok.ensures.0) is in
    let written = c.in-Ok-write_known.written in
    subst (λ (m : PreparedMatchesValue). AreFirstSoFar search m.haystack c.args.start (is_set c.args.more)
    (map match_of (take written.written c.write_known.new.found)) written.next) c.find_iter_in-matches.ensures
    (c.in-Ok-write_known.ensures.matches search (is_set c.args.more)
    (subst (IsPrepared search) (sym (ap (λ (m : PreparedMatchesValue). m.numbers) c.find_iter_in-matches.ensures))
    whole)
    (deciding_is search (is_set c.args.more) c.in-Ok.search c.deciding_len_by-deciding.result
    c.deciding_len_by-deciding.ensures whole))
