use Rattle.std.proofs.Common.{ap, ◌<◌, ◌∙◌, ℕ, List, length, subst}
use Rattle.literal_search.specs.SearchValue.{NeedTooManyReversed, search_by}
use Rattle.literal_search.proofs.lemmas.Callers.{none_need_few_reversed}
use Rattle.literal_c.specs.Arguments.{is_set, kind_of}
use Rattle.literal_c.proofs.lemmas.Pieces.{built_for, some_for, too_many_for}
use Rattle.literal_c.proofs.arguments.search_for.Goals as goal

pub returns-in-Ok : goal.returns-in-Ok
returns-in-Ok c =
    let kind = kind_of c.args.kind in (
      record { is_kind = c.in-Some.ensures.0; are_ends = c.are_ends.ensures.0 c.if-not-are_ends.false },
      c.can_be_searched.ensures.0 c.if-not-can_be_searched.false,
      built_for _ _ _ _ c.in-Ok.ensures.ok
          ∙ (ap (λ k. search_by k (is_set c.args.ignore_case) c.new.result) c.in-Some.ensures.1
          ∙ ap (search_by kind (is_set c.args.ignore_case)) c.new.ensures),
    )

pub returns-in-Err-TooManyStates : goal.returns-in-Err-TooManyStates
returns-in-Err-TooManyStates c = (
  record { is_kind = c.in-Some.ensures.0; are_ends = c.are_ends.ensures.0 c.if-not-are_ends.false },
  c.can_be_searched.ensures.0 c.if-not-can_be_searched.false,
  subst (NeedTooManyReversed (is_set c.args.ignore_case)) c.new.ensures
      (too_many_for _ _ _ c.in-Err-TooManyStates.ensures.error c.in-Err-TooManyStates.field-0-is),
)

pub returns-in-Err : goal.returns-in-Err
returns-in-Err c = (
  record { is_kind = c.in-Some.ensures.0; are_ends = c.are_ends.ensures.0 c.if-not-are_ends.false },
  c.can_be_searched.ensures.0 c.if-not-can_be_searched.false,
  subst (λ (list : List (List ℕ)). 0 < length list) c.new.ensures
      (some_for _ _ _ c.in-Err.ensures.error (none_need_few_reversed (is_set c.args.ignore_case))),
)
