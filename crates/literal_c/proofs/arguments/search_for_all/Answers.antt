use Rattle.std.proofs.Common.{ap, ◌<◌, ◌∙◌, ℕ, List, length, subst}
use Rattle.literal_search.specs.SearchValue.{NeedTooManyStates}
use Rattle.literal_search.proofs.lemmas.Callers.{none_need_few}
use Rattle.literal_c.specs.Arguments.{is_set}
use Rattle.literal_c.specs.Overlapping.{overlapping_for}
use Rattle.literal_c.proofs.lemmas.Pieces.{all_built_for, some_for, too_many_for}
use Rattle.literal_c.proofs.arguments.search_for_all.Goals as goal

pub returns-in-Ok : goal.returns-in-Ok
returns-in-Ok c = (
  c.are_ends.ensures.0 c.if-not-are_ends.false,
  c.can_be_searched.ensures.0 c.if-not-can_be_searched.false,
  all_built_for _ _ _ c.in-Ok.ensures.ok ∙ ap (λ list. overlapping_for list (is_set c.args.ignore_case)) c.new.ensures,
)

pub returns-in-Err-TooManyStates : goal.returns-in-Err-TooManyStates
returns-in-Err-TooManyStates c = (
  c.are_ends.ensures.0 c.if-not-are_ends.false,
  c.can_be_searched.ensures.0 c.if-not-can_be_searched.false,
  subst (NeedTooManyStates (is_set c.args.ignore_case)) c.new.ensures
      (too_many_for _ _ _ c.in-Err-TooManyStates.ensures.error c.in-Err-TooManyStates.field-0-is),
)

pub returns-in-Err : goal.returns-in-Err
returns-in-Err c = (
  c.are_ends.ensures.0 c.if-not-are_ends.false,
  c.can_be_searched.ensures.0 c.if-not-can_be_searched.false,
  subst (λ (list : List (List ℕ)). 0 < length list) c.new.ensures
      (some_for _ _ _ c.in-Err.ensures.error (none_need_few (is_set c.args.ignore_case))),
)
