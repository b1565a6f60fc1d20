use Rattle.std.proofs.Common.{◌≡◌, map, take, drop}
use Rattle.std.specs.Iterator.{Yields}
use Rattle.std.specs.List.{All}
use Rattle.literal_base.specs.MatchValue.{MatchValue}
use Rattle.literal_search.specs.OverlappingMatchesValue.{GivesOverlapping, OverlappingMatchesValue}
use Rattle.literal_c.specs.Answers.{match_of}
use Rattle.literal_c.specs.Inside.Given.{IsReached}
use Rattle.literal_c.proofs.answers.write_overlapping.Given as goal

abbrev pub invariant-loop-place : goal.invariant-loop-place
invariant-loop-place g l = record {
  count : l.page.written ≡ l.place-index;
  last : l.page.is_last ≡ 1;
  given : (m : OverlappingMatchesValue) → g.M.Occurrences.stands_at l.initial.matches m → m.end ≡ l.fn.start
      → (last : OverlappingMatchesValue) × g.M.Occurrences.stands_at l.matches last × (l.page.next ≡ last.end)
      × Yields GivesOverlapping m (map match_of (take l.place-index l.found)) last;
  keeps : (f : MatchValue) → g.M.Occurrences.may_give l.matches f → g.M.Occurrences.may_give l.initial.matches f;
  matches : All (λ f. g.M.Occurrences.may_give l.initial.matches (match_of f)) (take l.place-index l.found);
  reached : IsReached (g.M.Occurrences.may_give l.initial.matches) l.fn.start l.page.next;
  others : drop l.place-index l.found ≡ drop l.place-index l.fn.found;
}
