use Rattle.std.proofs.Common.{◌≡◌, ◌≤◌, ◌-◌, ◌+◌, List, length}
use Rattle.literal_base.specs.MatchValue.{MatchValue}
use Rattle.literal_search.specs.SearchValue.{SearchValue}
use Rattle.literal_c.specs.Answers.{AreNext}
use Rattle.literal_c.specs.Inside.Given.{behind}
use Rattle.literal_c.proofs.answers.count_matches.Given as goal

abbrev pub invariant-loop-matches : goal.invariant-loop-matches
invariant-loop-matches g l =
    let all = g.M.LeftmostMatches.rest l.initial.matches in
    let next = (g.M.LeftmostMatches.rest l.matches).span.start in
    record {
      stands : g.M.LeftmostMatches.rest l.matches ≡ behind all next;
      few : l.count + all.span.start ≤ next;
      most : l.count ≤ all.span.end - all.span.start;
      counted : (search : SearchValue) → g.M.LeftmostMatches.is_for l.initial.matches search
          → g.M.LeftmostMatches.is_for l.matches search × (found : List MatchValue)
          × AreNext search.query search.ignore_case all.haystack all.span.end all.span.start found next
          × (l.count ≡ length found);
    }

abbrev pub decreases-loop-matches : goal.decreases-loop-matches
decreases-loop-matches g l = (g.M.LeftmostMatches.rest l.matches).span.end -
    (g.M.LeftmostMatches.rest l.matches).span.start
