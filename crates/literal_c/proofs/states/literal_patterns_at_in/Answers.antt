use Rattle.std.proofs.Common.{◌≡◌, ◌<◌, ◌-◌, ◌∙◌, ℕ, Bool, List, ap, arith, drop, get_or, length, min, refl, subst}
use Rattle.std.proofs.Common.{sym, take}
use Rattle.std.proofs.lemmas.List.{drop_min, length-drop, take_all}
use Rattle.std.proofs.lemmas.List.Elements.{All-drop}
use Rattle.std.specs.List.{All}
use Rattle.literal_base.specs.Occurs.{whole_of}
use Rattle.literal_search.specs.Automaton.{AreAtEnd, IsStateAfter}
use Rattle.literal_search.specs.PreparedOverlapping.{IsPreparedOverlapping, tables_in}
use Rattle.literal_c.specs.States.{ForState}
use Rattle.literal_c.proofs.lemmas.Info.{many_lengths}
use Rattle.literal_c.proofs.lemmas.Statuses.{damaged}
use Rattle.literal_c.proofs.states.literal_patterns_at_in.Goals as goal

-- patterns that end with a text have numbers below their number
all_below : (patterns : List (List ℕ)) (ignore_case : Bool) (text all : List ℕ) (count : ℕ)
    → AreAtEnd patterns ignore_case text (whole_of text) all → length patterns ≡ count → All (λ n. n < count) all
all_below patterns ignore_case text all count are is k d below =
    let one = are.each k d below in
    omega (arith, one.1.is_pattern, is)

-- the part of a list from an index on
rest_is : (from at : ℕ) (all : List ℕ) → at ≡ min from (length all)
    → take (length all - at) (drop at all) ≡ drop from all
rest_is from at all at_is =
    take_all (length all - at) (drop at all) (omega (arith, length-drop at all))
    ∙ (ap (λ k. drop k all) at_is ∙ drop_min from all)

pub returns-in-Err-clause-status : goal.returns-in-Err-clause-status
returns-in-Err-clause-status c =
    let array = c.args.prepared.now in
    let all = c.in-Ok-matches.all.now in
    record {
      by_array = damaged _ (λ P. ForState array c.args.state (λ _ _. P)) _ _ tt (λ search prepared text is _.
          let at = subst (λ (numbers : List ℕ). IsPreparedOverlapping search numbers
          → IsStateAfter (tables_in search numbers) text c.args.state
          → AreAtEnd search.patterns search.ignore_case text (whole_of text) all) c.in-Ok.ensures.0
          (subst (λ (state : ℕ). IsPreparedOverlapping search c.in-Ok.search
          → IsStateAfter (tables_in search c.in-Ok.search) text state
          → AreAtEnd search.patterns search.ignore_case text (whole_of text) all) c.new-2.ensures
          (λ p state. c.in-Ok-matches.ensures.prepared search p text state)) prepared is in
          c.in-Err.ensures.written (subst (All (λ n. n < get_or array 3 0))
          (sym (rest_is c.args.from c.min.result all c.min.ensures))
          (All-drop (λ n. n < get_or array 3 0) c.args.from all
          (all_below search.patterns search.ignore_case text all (get_or array 3 0) at
          (many_lengths array search.patterns prepared.whole.lists.parts.fits prepared.lengths)))));
      no_row = λ _ _. refl;
    }

pub returns-in-Ok-write_numbers-clause-page : goal.returns-in-Ok-write_numbers-clause-page
returns-in-Ok-write_numbers-clause-page c = λ search prepared text is _.
    let array = c.args.prepared.now in
    let all = c.in-Ok-matches.all.now in
    let from = c.args.from in
    let old = c.args.patterns.now in
    let new = c.write_numbers.new.places in
    let at = subst (λ (numbers : List ℕ). IsPreparedOverlapping search numbers
    → IsStateAfter (tables_in search numbers) text c.args.state
    → AreAtEnd search.patterns search.ignore_case text (whole_of text) all) c.in-Ok.ensures.0
    (subst (λ (state : ℕ). IsPreparedOverlapping search c.in-Ok.search
    → IsStateAfter (tables_in search c.in-Ok.search) text state
    → AreAtEnd search.patterns search.ignore_case text (whole_of text) all) c.new-2.ensures
    (λ p state. c.in-Ok-matches.ensures.prepared search p text state)) prepared is in
    let rest = rest_is from c.min.result all c.min.ensures in
    let long = ap length rest ∙ length-drop from all in
    let written = c.in-Ok-write_numbers.ensures.written.0 in
    let others = c.in-Ok-write_numbers.ensures.others in
    record {
      all = all;
      are_all = at;
      total_is = refl;
      written = subst (λ n. take n new ≡ take (length new) (drop from all)) long
          (written
          ∙ (ap (take (length old)) rest
          ∙ ap (λ n. take n (drop from all)) (sym c.in-Ok-write_numbers.ensures.len)));
      others = subst (λ n. drop n new ≡ drop n old) long others;
    }
