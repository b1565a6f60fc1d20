use Rattle.std.proofs.Common.{◌≡◌, ◌∙◌, ◌+◌, ◌<◌, ℕ, List, Option, ap, arith, get_or, length, map, min, set, subst, sym}
use Rattle.std.proofs.lemmas.List.{get_or_default, length-map, length-set, length_push}
use Rattle.std.specs.Global.{Vec}
use Rattle.literal_base.specs.Occurs.{pattern_at}
use Rattle.literal_rows.specs.Inside.Classes.{symbols_in}
use Rattle.literal_rows.specs.Inside.Prefixes.{AreLastPrefixes, IsFirstPrefix, IsLastPrefix}
use Rattle.literal_rows.specs.Inside.Prefixes.{numbers_in, symbols_in_order}
use Rattle.literal_rows.specs.Inside.Shadowed.{texts_by}
use Rattle.literal_rows.specs.declared.prefixes.Numbered.{Numbered}
use Rattle.literal_rows.proofs.lemmas.Prefixes.{first_itself, first_of_last, firsts_more, number_at, prefixed_more}
use Rattle.literal_rows.proofs.prefixes.first_prefixes.Goals as goal
use Rattle.literal_rows.proofs.prefixes.first_prefixes.Goals.{in-None, in-Some}

count : (classes : List ℕ) (patterns : List (Vec ℕ)) → length patterns ≡ length (texts_by classes patterns)
count classes patterns =
    let items = λ (pattern : Vec ℕ). pattern.items in
    sym (length-map patterns items) ∙ sym (length-map (map items patterns) (symbols_in classes))

pub loop-index-preserved : goal.loop-index-preserved
loop-index-preserved c =
    let index = c.loop-index.index in
    let sorted = c.in_ok-sorted.sorted.items in
    let words = symbols_in_order sorted in
    let texts = texts_by c.args.classes.now c.args.patterns.now in
    let are = c.in_ok-sorted.ensures in
    let last = subst (λ (s : List Numbered). IsLastPrefix (symbols_in_order s) index c.last_prefix-last.result)
    c.deref.ensures.value c.last_prefix-last.ensures in
    let many = length-map sorted (λ (n : Numbered). n.symbols.items) in
    let inside : index < length words = omega (arith, c.loop-index-test.true, c.len-index-end.ensures, many) in
    let number : get_or (numbers_in sorted) index 0 ≡ c.index.result.now.number = grind (arith, number_at) in
    let long = c.loop-index.invariant.long ∙ count c.args.classes.now c.args.patterns.now in
    let last_is : c.match-last.last ≡ c.last_prefix-last.result = elim c.match-last.branch [
      | in-Some w ↦ w.last-is ∙ sym w.in-Some.is
      | in-None w ↦ w.last-is
    ] in
    let first : IsFirstPrefix texts (pattern_at words index) c.match-last.first = elim c.match-last.branch [
      | in-Some w ↦
          let at = w.in-Some.at in
          let found = w.index-in-Some-2.result.now in
          let is = subst (IsLastPrefix words index) w.in-Some.is last in
          let number_is : get_or (numbers_in sorted) at 0 ≡ w.index-in-Some.result.now.number =
          grind (arith, number_at) in
          let below = (are.is at (omega (arith, is.0, inside))).0 in
          let found_is : get_or c.loop-index.firsts.items (get_or (numbers_in sorted) at 0) 0 ≡ found =
          grind (arith, get_or_default) in
          let known = subst (IsFirstPrefix texts (pattern_at words at)) found_is
          (c.loop-index.invariant.firsts at is.0) in
          subst (IsFirstPrefix texts (pattern_at words index))
          (ap (λ n. min n found) number ∙ (sym w.min-first.ensures ∙ sym w.first-is))
          (first_of_last texts words (numbers_in sorted) are index inside at found is known)
      | in-None w ↦
          subst (IsFirstPrefix texts (pattern_at words index)) (number ∙ sym w.first-is)
          (first_itself texts words (numbers_in sorted) are index inside
          (subst (IsLastPrefix words index) w.in-None.is last))
    ] in
    record {
      before =
          subst (AreLastPrefixes words) (sym c.in_ok-push.ensures.items)
          (prefixed_more words c.loop-index.before.items c.match-last.last c.loop-index.invariant.before
          (subst (λ n. IsLastPrefix words n c.match-last.last) (sym c.loop-index.invariant.count)
          (subst (IsLastPrefix words index) (sym last_is) last)));
      count =
          ap (λ (l : List (Option ℕ)). length l) c.in_ok-push.ensures.items
          ∙ (length_push c.loop-index.before.items c.match-last.last ∙ ap (λ n. n + 1) c.loop-index.invariant.count);
      long = grind (arith, length-set);
      firsts = λ k below.
          subst (λ n. IsFirstPrefix texts (pattern_at words k)
          (get_or (set c.loop-index.firsts.items n c.match-last.first) (get_or (numbers_in sorted) k 0) 0)) number
          (firsts_more texts words (numbers_in sorted) c.loop-index.firsts.items are long index c.match-last.first
          inside c.loop-index.invariant.firsts first k below);
    }

pub returns : goal.returns
returns c =
    let texts = texts_by c.args.classes.now c.args.patterns.now in
    let sorted = c.in_ok-sorted.sorted.items in
    let are = c.in_ok-sorted.ensures in
    record {
      long = c.loop-index.invariant.long ∙ count c.args.classes.now c.args.patterns.now;
      each = λ i below.
          let (k, here, is) = are.has i below in
          let many = length-map sorted (λ (n : Numbered). n.symbols.items) in
          let first = c.loop-index.invariant.firsts k
          (omega (arith, here, many, c.loop-index-test.false, c.len-index-end.ensures)) in
          subst (λ n. IsFirstPrefix texts (pattern_at texts n) (get_or c.loop-index.firsts.items n 0)) is
          (subst (λ (t : List ℕ). IsFirstPrefix texts t
          (get_or c.loop-index.firsts.items (get_or (numbers_in sorted) k 0) 0)) (are.is k here).1 first);
    }
