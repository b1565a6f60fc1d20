use Rattle.std.proofs.Common.{◌∙◌, ◌++◌, ◌∷◌, [], List, ap, map, subst, sym, take}
use Rattle.std.proofs.lemmas.List.{flat_map_more, map_more}
use Rattle.litscan.specs.Request.{ChoiceValue, value_of_choice}
use Rattle.litscan.specs.Walk.{AreReplaced, IsReplaced, is_from}
use Rattle.litscan.proofs.walk.with_patterns.Goals as goal

-- one more choice is replaced
replaced_more : (choices : List ChoiceValue) (parts : List (List ChoiceValue)) (choice : ChoiceValue)
    (part : List ChoiceValue) → AreReplaced choices parts → IsReplaced (is_from choice.rule) choice part
    → AreReplaced (choices ++ choice ∷ []) (parts ++ part ∷ [])
replaced_more [] [] choice part are is = (is, tt)
replaced_more [] (first ∷ parts) choice part are is = absurd are
replaced_more (first ∷ choices) [] choice part are is = absurd are
replaced_more (first ∷ choices) (one ∷ parts) choice part are is =
    (are.0, replaced_more choices parts choice part are.1 is)

pub loop-choice-preserved : goal.loop-choice-preserved
loop-choice-preserved c =
    let so_far = c.loop-choice.invariant in
    let kept = c.in_ok-replace.ensures.kept in
    let choices = c.args.choices.now in
    let front = map value_of_choice (take c.loop-choice.choice-index choices) in
    let next = map_more value_of_choice choices c.loop-choice.choice-index c.choice-item.result
    c.loop-choice-test.true in
    record {
      parts = so_far.parts ++ kept.0 ∷ [];
      are =
          subst (λ these. AreReplaced these (so_far.parts ++ kept.0 ∷ []))
          (sym (next ∙ ap (λ choice. front ++ value_of_choice choice ∷ []) (sym c.choice-item.is)))
          (replaced_more front so_far.parts (value_of_choice c.choice-item.result) kept.0 so_far.are kept.1);
      all_are =
          kept.2 ∙ ap (λ all. all ++ kept.0) so_far.all_are
          ∙ flat_map_more (λ (part : List ChoiceValue). part) [] so_far.parts kept.0;
    }
