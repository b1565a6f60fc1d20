-- All leftmost matches of a span, one after another: `Matches` and `Starts`, as contracts see them.
use Rattle.std.specs.Prelude.{◌≡◌, ℕ, ◌+◌, ◌<◌, ◌-◌, List, Option, None, Some, IfSome}
use Rattle.std.specs.Iterator.{Count, at_most}
use Rattle.literal_base.specs.Counts.{Counts}
use Rattle.literal_base.specs.Leftmost.{IsLeftmost}
use Rattle.literal_base.specs.MatchValue.{MatchValue}
use Rattle.literal_base.specs.Occurs.{between, whole_of}
use Rattle.literal_base.specs.declared.search.Span.{Span}
use Rattle.literal_leftmost.specs.LookUps.{LookUps, LooksOn, ScansNext, no_look_ups}
use Rattle.literal_leftmost.specs.SearchValue.{SearchValue, longest_of}

-- a `Matches` or `Starts` as contracts see it: the search, the haystack, the span, the offset from which it continues,
-- and bounds on the bytes that it has looked up so far
pub record MatchesValue : Type 0 where
  pub search : SearchValue
  pub haystack : List ℕ
  pub span : Span
  pub at : ℕ
  pub look_ups : LookUps

-- an iteration over the matches in a span, which has not begun
abbrev pub matches_in : SearchValue → List ℕ → Span → MatchesValue
matches_in search haystack span =
    record { search = search; haystack = haystack; span = span; at = span.start; look_ups = no_look_ups }

-- the same in a whole haystack
abbrev pub matches_of : SearchValue → List ℕ → MatchesValue
matches_of search haystack = matches_in search haystack (whole_of haystack)

-- where `Matches` continues: at the end of the match, or at the end of the span
abbrev pub offset_at_end : Span → Option MatchValue → ℕ
offset_at_end span None = span.end
offset_at_end span (Some found) = found.end

-- where `Starts` continues: one byte after the start of the match, or at the end of the span
abbrev pub offset_after_start : Span → Option MatchValue → ℕ
offset_after_start span None = span.end
offset_after_start span (Some found) = found.start + 1

-- the answer is the leftmost match of the rest of the span, which is not empty, or None if nothing occurs there. The
-- iteration continues at an offset that depends on the answer
pub record GivesThen (next : Span → Option MatchValue → ℕ) (old : MatchesValue) (answer : Option MatchValue)
    (new : MatchesValue) : Type 0 where
  pub leftmost : IsLeftmost old.search.query old.search.ignore_case old.haystack (between old.at old.span.end) answer
  pub not_empty : IfSome answer (λ found. found.start < found.end)
  pub look_ups : LookUps
  pub goes_on : new ≡ record old { at = next old.span answer; look_ups = look_ups }
  pub looks : LooksOn (longest_of old.search.query.patterns) old.span (next old.span answer) old.look_ups look_ups

-- a step of `Matches`: matches that do not overlap
abbrev pub GivesMatch : MatchesValue → Option MatchValue → MatchesValue → Type 0
GivesMatch = GivesThen offset_at_end

-- a step of `Starts`: the match at each offset at which a pattern begins
abbrev pub GivesStart : MatchesValue → Option MatchValue → MatchesValue → Type 0
GivesStart = GivesThen offset_after_start

-- a step of an iteration that counts: the answer of `next`, and the bytes that it scans
pub record GivesCounted (old : MatchesValue × Counts) (answer : Option MatchValue)
    (new : MatchesValue × Counts) : Type 0 where
  pub gives : GivesMatch old.0 answer new.0
  pub scans : ScansNext old.0.look_ups new.0.look_ups old.1 new.1

-- an upper bound on the matches to come: each has at least one byte of the rest
abbrev pub most_to_come : MatchesValue → Count
most_to_come m = at_most (m.span.end - m.at)
