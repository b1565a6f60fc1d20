use Rattle.std.proofs.Common.{◌≡◌, ◌+◌, ◌≤◌, map, take, drop}
use Rattle.std.specs.List.{All}
use Rattle.literal_search.specs.SearchValue.{SearchValue}
use Rattle.literal_c.specs.Answers.{AreNext, MayBeFound, end_of_last, match_of}
use Rattle.literal_c.specs.Inside.Given.{behind}
use Rattle.literal_c.proofs.answers.write_page.Given as goal

abbrev pub invariant-loop-place : goal.invariant-loop-place
invariant-loop-place g l =
    let all = g.M.LeftmostMatches.rest l.initial.matches in
    record {
      count : l.page.written ≡ l.place-index;
      last : l.page.is_last ≡ 1;
      stands : g.M.LeftmostMatches.rest l.matches ≡ behind all l.page.next;
      after : l.fn.start + l.place-index ≤ l.page.next;
      ends : l.page.next ≡ end_of_last all.span.start (map match_of (take l.place-index l.found));
      before : l.page.next ≤ all.span.end;
      matches : (search : SearchValue) → g.M.LeftmostMatches.is_for l.initial.matches search
          → g.M.LeftmostMatches.is_for l.matches search
          × AreNext search.query search.ignore_case all.haystack all.span.end
          all.span.start (map match_of (take l.place-index l.found)) l.page.next;
      inside : All (λ found. MayBeFound all.span all.patterns (match_of found)) (take l.place-index l.found);
      others : drop l.place-index l.found ≡ drop l.place-index l.fn.found;
    }
