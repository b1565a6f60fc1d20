use Rattle.std.proofs.Common.{List, ℕ, [], arith, subst, sym}
use Rattle.literal_search.specs.Prepared.{ForPrepared, IsPrepared}
use Rattle.literal_c.specs.Arguments.{is_set}
use Rattle.literal_c.specs.SoFar.{IsRight, IsToldBy}
use Rattle.literal_c.proofs.lemmas.SoFar.{crosses, may_be_all}
use Rattle.literal_c.proofs.lemmas.Statuses.{damaged}
use Rattle.literal_c.proofs.so_far.literal_find_so_far_in.Goals as goal

pub returns-in-Err-clause-status : goal.returns-in-Err-clause-status
returns-in-Err-clause-status c =
    damaged _ (λ P. ForPrepared c.args.prepared.now (λ _. P)) _ _ (omega (arith, c.if-start-haystack.false))
    (λ search is _. c.in-Err.ensures.prepared search
    (subst (IsPrepared search) (sym c.in-Ok.ensures.0) is) [] (may_be_all (is_set c.args.more)))

pub returns-in-Ok-find_so_far-clause-told : goal.returns-in-Ok-find_so_far-clause-told
returns-in-Ok-find_so_far-clause-told c _ =
    let array = c.in-Ok.ensures.0 in
    let known = c.in-Ok-find_so_far.ensures in
    let told = c.tell_so_far.ensures.told in
    let answer = c.in-Ok-find_so_far.answer in (
      answer,
      subst (λ status. IsToldBy answer status c.tell_so_far.new.found c.tell_so_far.new.next)
          (sym (crosses answer c.tell_so_far.result c.tell_so_far.new.found c.tell_so_far.new.next told)) told,
      subst (λ (numbers : List ℕ). IsRight numbers c.args.haystack.now c.args.start (is_set c.args.more) answer) array
          (record {
            prepared = λ search is behind may. known.prepared search is behind may;
            told = known.told;
            inside = known.inside;
          }),
    )
