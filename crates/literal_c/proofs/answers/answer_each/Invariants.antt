use Rattle.std.proofs.Common.{◌≡◌, ◌++◌, Bool, length, map, take}
use Rattle.std.specs.List.{AllZip}
use Rattle.literal_base.specs.Query.{Query}
use Rattle.literal_c.specs.Answers.{IsAnswerForC, MayBeAnswer}
use Rattle.literal_c.proofs.answers.answer_each.Given as goal

abbrev pub invariant-loop-haystack : goal.invariant-loop-haystack
invariant-loop-haystack g l = record {
  split : map (λ p. p.now) l.yielded ++ l.haystack-iterator ≡ l.fn.haystacks;
  count : l.i ≡ length l.yielded;
  answered : (query : Query) (ignore_case : Bool) → g.F.Finder.is_for l.search query ignore_case
      → AllZip (IsAnswerForC query ignore_case) (map (λ p. p.now) l.yielded) (take l.i l.answers);
  inside : AllZip (MayBeAnswer (g.F.Finder.patterns l.search)) (map (λ p. p.now) l.yielded) (take l.i l.answers);
}
