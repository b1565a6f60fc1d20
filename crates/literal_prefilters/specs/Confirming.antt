-- The counts of a confirming search.
use Rattle.std.specs.Prelude.{◌≡◌, ℕ, ◌+◌, ◌-◌, ◌*◌, ◌≤◌, ◌==◌, ◌||◌, List, [], ◌∷◌, length, map, count_by}
use Rattle.std.specs.Prelude.{Option, None, Some, unwrap_or}
use Rattle.std.specs.List.{range_with_len}
use Rattle.literal_base.specs.declared.search.Span.{Span}
use Rattle.literal_base.specs.Counts.{Counts}
use Rattle.literal_base.specs.Leftmost.{is_better}
use Rattle.literal_base.specs.MatchValue.{MatchValue}
use Rattle.literal_base.specs.Occurs.{between, rest_from, whole_of}
use Rattle.literal_base.specs.Query.{Query}
use Rattle.literal_packed.specs.Pairs.{counts_after}
use Rattle.literal_packed.specs.Spending.{SpendsWithin}
use Rattle.literal_prefilters.specs.Exact.{query_of_one}
use Rattle.literal_prefilters.specs.Reached.{reached_count}
use Rattle.literal_prefilters.specs.PrefilterValue.{PrefilterValue, by_table, by_memmem, by_packed}
use Rattle.literal_prefilters.specs.Table.{first_place}

-- the number of bytes scanned. With a match, these are the bytes of the span up to and including the first table byte
-- at the match's start or later. Without one, these are all bytes of the span
abbrev pub scanned_once : List (Option ℕ) → List ℕ → Span → Option MatchValue → ℕ
scanned_once table haystack span None = span.end - span.start
scanned_once table haystack span (Some found) =
    unwrap_or (first_place table haystack (between found.start span.end)) 0 + 1 - span.start

-- the end of the match, or of the span if there is none
abbrev pub answer_end : Span → Option MatchValue → ℕ
answer_end span None = span.end
answer_end span (Some found) = found.end

-- the number of offsets tried: all that a byte of the table reaches or, with a match, those up to and including its
-- start
abbrev pub tried_count : List (Option ℕ) → List ℕ → Span → Option MatchValue → ℕ
tried_count table haystack span None = reached_count table haystack span span.end
tried_count table haystack span (Some found) = reached_count table haystack span (found.start + 1)

-- the number of patterns compared at an offset: all or, if one of them is the answer there, this one and the preferred
-- ones
abbrev pub compared_at : Query → Option ℕ → ℕ
compared_at query None = length query.patterns
compared_at query (Some j) =
    count_by (λ i. i == j || is_better query.kind query.patterns i j) (range_with_len 0 (length query.patterns))

-- the number of comparisons: one with every pattern at each offset that is tried, but at the match's start only those
-- with its pattern and the preferred ones
abbrev pub compared_by_tries : List (Option ℕ) → Query → List ℕ → Span → Option MatchValue → ℕ
compared_by_tries table query haystack span None =
    reached_count table haystack span span.end * compared_at query None
compared_by_tries table query haystack span (Some found) =
    reached_count table haystack span found.start * compared_at query None + compared_at query (Some found.pattern)

-- the counts after a search by a table with this answer: `compared`, `scanned` and `tried` grow by these numbers, and
-- the others are unchanged
abbrev pub counts_after_tries : Counts → List (Option ℕ) → Query → List ℕ → Span → Option MatchValue → Counts
counts_after_tries old table query haystack span answer = record old {
  compared = old.compared + compared_by_tries table query haystack span answer;
  scanned = old.scanned + scanned_once table haystack span answer;
  tried = old.tried + tried_count table haystack span answer;
}

-- the counts after a confirming search with this answer: by a table those of its tries, and by an exact prefilter those
-- of one search
abbrev pub counts_after_confirming : Counts → PrefilterValue → Query → List ℕ → Span → Option MatchValue → Counts
counts_after_confirming old (by_table table) query haystack span answer =
    counts_after_tries old table query haystack span answer
counts_after_confirming old (by_memmem pattern) query haystack span answer =
    counts_after old (query_of_one pattern) haystack span answer
counts_after_confirming old (by_packed searched) query haystack span answer =
    counts_after old searched haystack span answer

-- the counts after successive searches with these answers: the first in the haystack from an offset on, each of the
-- others in the rest from where the previous one ended
abbrev pub counts_after_answers : Counts → PrefilterValue → Query → List ℕ → ℕ → List (Option MatchValue) → Counts
counts_after_answers old pre query haystack at [] = old
counts_after_answers old pre query haystack at (answer ∷ more) =
    counts_after_answers (counts_after_confirming old pre query haystack (rest_from haystack at) answer) pre query
    haystack (answer_end (rest_from haystack at) answer) more

-- the answers of searches that find these matches
abbrev pub answers_of : List MatchValue → List (Option MatchValue)
answers_of = map Some

-- the most that successive searches by a table count up to an offset of a haystack: scanned, the bytes before the
-- offset; tried, the offsets before it that a byte of the table reaches; compared, (offsets tried) * (number of
-- patterns). None of these counts decreases, and the others are unchanged
pub record SpendsTries (table : List (Option ℕ)) (patterns : List (List ℕ)) (haystack : List ℕ) (to : ℕ)
    (old new : Counts) : Type 0 where
  pub scanned : new.scanned ≤ old.scanned + to
  pub tried : new.tried ≤ old.tried + reached_count table haystack (whole_of haystack) to
  pub compared : new.compared ≤ old.compared + (new.tried - old.tried) * length patterns
  pub scanned_grows : old.scanned ≤ new.scanned
  pub tried_grows : old.tried ≤ new.tried
  pub compared_grows : old.compared ≤ new.compared
  pub others : new ≡ record old { compared = new.compared; scanned = new.scanned; tried = new.tried }

-- the most that the searches of a whole haystack count: by a table their tries, and by an exact prefilter its bytes and
-- its pairs, with nothing scanned or tried
abbrev pub SpendsConfirming : PrefilterValue → List (List ℕ) → List ℕ → Counts → Counts → Type 0
SpendsConfirming (by_table table) patterns haystack old new =
    SpendsTries table patterns haystack (length haystack) old new
SpendsConfirming (by_memmem pattern) patterns haystack old new = SpendsWithin (query_of_one pattern) haystack old new
SpendsConfirming (by_packed query) patterns haystack old new = SpendsWithin query haystack old new
