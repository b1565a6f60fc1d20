use Rattle.std.proofs.Common.{◌≡◌, ◌⊎◌, ◌+◌, ◌-◌, ◌<◌, ◌≤◌, ◌∙◌, ◌++◌, ◌∷◌, [], ℕ, List, ap, arith, drop}
use Rattle.std.proofs.Common.{get_or, inl, inr, length, min, subst, sym, take}
use Rattle.std.proofs.lemmas.Bool.{cases_eq}
use Rattle.std.proofs.lemmas.Grind.{get_or-set_at}
use Rattle.std.proofs.lemmas.List.{drop-drop, drop-set-lt, get_or-set_other, take_min, take_more, take_more_set}
use Rattle.std.proofs.lemmas.List.Elements.{All-push}
use Rattle.std.specs.List.{All}
use Rattle.literal_c.proofs.states.write_numbers.Goals as goal

-- lists that are the same from one index on are so from a later one on
drop_more : (n at : ℕ) (a b : List ℕ) → at ≤ n → drop at a ≡ drop at b → drop n a ≡ drop n b
drop_more n at a b before same =
    let n_is : at + (n - at) ≡ n = omega arith in
    subst (λ k. drop k a ≡ drop k b) n_is
    (sym (drop-drop (n - at) at a) ∙ (ap (drop (n - at)) same ∙ drop-drop (n - at) at b))

pub returns-then-numbers-at-clause-others : goal.returns-then-numbers-at-clause-others
returns-then-numbers-at-clause-others c =
    drop_more (length c.args.numbers.now) c.loop-at.at c.loop-at.places c.args.places.now
    (omega (arith, c.loop-at-test.true, c.min-at-end.ensures)) c.loop-at.invariant.others

pub loop-at-preserved : goal.loop-at-preserved
loop-at-preserved c =
    let at = c.loop-at.at in
    let places = c.loop-at.places in
    let numbers = c.args.numbers.now in
    let so_far = c.loop-at.invariant in
    let inside : at < length places = grind arith in
    let there : at < length numbers = omega (arith, c.loop-at-test.true, c.min-at-end.ensures) in
    let more = take_more numbers at 0 there in
    record {
      written = take_more_set places at (get_or numbers at 0) inside
          ∙ (ap (λ l. l ++ get_or numbers at 0 ∷ []) so_far.written ∙ sym more);
      small = subst (All (λ number. number < c.args.limit)) (sym more)
          (All-push (λ number. number < c.args.limit) _ _ so_far.small c.if-numbers-at.false);
      below = λ i.
          elim (cases_eq i at) [
            | inl is ↦
                inr (subst (λ n. n < c.args.limit)
                (sym (get_or-set_at places at i (get_or numbers at 0) 0 is inside)) c.if-numbers-at.false)
            | inr other ↦
                subst (λ n. (n ≡ get_or c.args.places.now i 0) ⊎ (n < c.args.limit))
                (sym (get_or-set_other places at i (get_or numbers at 0) 0 other)) (so_far.below i)
          ];
      others = drop-set-lt (at + 1) places at (get_or numbers at 0) (omega arith)
          ∙ drop_more (at + 1) at places c.args.places.now (omega arith) so_far.others;
    }

pub returns-clause-written : goal.returns-clause-written
returns-clause-written c =
    let at = c.loop-at.at in
    let places = c.loop-at.places in
    let numbers = c.args.numbers.now in
    let long = c.loop-at.auto.places in
    let by_places : at ≡ min (length numbers) (length places) =
    omega (arith, c.loop-at-test.false, c.min-at-end.ensures) in
    let by_numbers : at ≡ min (length c.args.places.now) (length numbers) = omega arith in
    let first = ap (λ n. take n places) by_places ∙ take_min (length numbers) places in
    let second = ap (λ n. take n numbers) by_numbers ∙ take_min (length c.args.places.now) numbers in (
      sym first ∙ (c.loop-at.invariant.written ∙ second),
      subst (All (λ number. number < c.args.limit)) second c.loop-at.invariant.small,
    )
