use Rattle.std.proofs.Common.{◌≡◌, ◌+◌, ◌≤◌, Bool, map, take, drop}
use Rattle.std.specs.List.{All}
use Rattle.literal_search.specs.SearchValue.{SearchValue, longest_of}
use Rattle.literal_c.specs.Answers.{MayBeFound, end_of_last, match_of}
use Rattle.literal_c.specs.Inside.Given.{behind}
use Rattle.literal_c.specs.SoFar.{AreFirstSoFar, deciding_len}
use Rattle.literal_c.proofs.so_far.write_known.Given as goal

abbrev pub invariant-loop-place : goal.invariant-loop-place
invariant-loop-place g l =
    let all = g.M.LeftmostMatches.rest l.initial.matches in
    record {
      count : l.page.written ≡ l.place-index;
      first : l.page.is_last ≡ 0;
      stands : g.M.LeftmostMatches.rest l.matches ≡ behind all l.page.next;
      after : l.fn.start + l.place-index ≤ l.page.next;
      ends : l.page.next ≡ end_of_last l.fn.start (map match_of (take l.place-index l.found));
      before : l.page.next ≤ l.fn.end;
      same : (search : SearchValue) → g.M.LeftmostMatches.is_for l.initial.matches search
          → g.M.LeftmostMatches.is_for l.matches search;
      matches : (search : SearchValue) (more : Bool) → g.M.LeftmostMatches.is_for l.initial.matches search
          → l.fn.deciding ≡ deciding_len more (longest_of search.query.patterns)
          → AreFirstSoFar search all.haystack l.fn.start more (map match_of (take l.place-index l.found)) l.page.next;
      known : All (λ found. found.start + l.fn.deciding ≤ l.fn.end) (take l.place-index l.found);
      inside : All (λ found. MayBeFound all.span all.patterns (match_of found)) (take l.place-index l.found);
      others : drop l.place-index l.found ≡ drop l.place-index l.fn.found;
    }
