use Rattle.std.proofs.Common.{◌<◌, ◌∷◌, [], length, take, sym, subst, arith}
use Rattle.std.proofs.Common.{◌+◌}
use Rattle.std.proofs.Math.ListN.{set}
use Rattle.std.proofs.lemmas.List.{length-append}
use Rattle.std.specs.List.{AllZip}
use Rattle.literal_c.specs.Answers.{IsAnswerForC, MayBeAnswer}
use Rattle.literal_c.proofs.lemmas.Pieces.{map_more, one_more_answer, split_more, taken_more}
use Rattle.literal_c.proofs.answers.answer_each.Goals as goal

pub loop-haystack-preserved : goal.loop-haystack-preserved
loop-haystack-preserved g c =
    let taken = c.loop-haystack.yielded in
    let item = c.in-Some.haystack in
    let so_far = c.loop-haystack.invariant in
    let split = split_more taken item c.loop-haystack.haystack-iterator c.next.new.self c.args.haystacks
    so_far.split c.in-Some.ensures.steps in
    let count = length-append taken (item ∷ []) in
    let few = taken_more taken item c.next.new.self c.args.haystacks split in
    let lt : c.loop-haystack.i < length c.loop-haystack.answers = omega arith in
    let i = c.loop-haystack.i in
    let answers = c.loop-haystack.answers in
    let new = c.answer_for_c.result in
    let MayBeHere = MayBeAnswer (g.F.Finder.patterns c.args.search.now) in
    record {
      split = split;
      count = omega arith;
      answered = λ query ignore_case is. subst (λ done. AllZip (IsAnswerForC query ignore_case) done
          (take (i + 1) (set answers i new))) (sym (map_more taken item))
          (one_more_answer (IsAnswerForC query ignore_case) _ i answers item.now new lt
          (so_far.answered query ignore_case is)
          (c.in_ok-find_in.field-0, c.in_ok-find_in.ensures.found query ignore_case is, c.answer_for_c.ensures));
      inside = subst (λ done. AllZip MayBeHere done (take (i + 1) (set answers i new))) (sym (map_more taken item))
          (one_more_answer MayBeHere _ i answers item.now new lt so_far.inside
          (c.in_ok-find_in.field-0, c.in_ok-find_in.ensures.inside, c.answer_for_c.ensures));
    }
