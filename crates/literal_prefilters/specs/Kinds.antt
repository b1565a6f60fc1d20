-- Prefilters by the bytes of a table.
use Rattle.std.specs.Prelude.{◌≡◌, ℕ, ◌+◌, List, Option}
use Rattle.std.specs.List.{All}
use Rattle.literal_base.specs.declared.search.Span.{Span}
use Rattle.literal_base.specs.Counts.{Counts}
use Rattle.literal_prefilters.specs.declared.prefilter.Candidate.{Candidate}
use Rattle.literal_prefilters.specs.Answers.{candidate_of}
use Rattle.literal_prefilters.specs.Sound.{Coverage}
use Rattle.literal_prefilters.specs.Table.{size, reach_of, first_place, proposed_place, bytes_scanned, Covers}

-- the table covers each pattern, for any match kind
abbrev pub CoversAll : List (Option ℕ) → Coverage
CoversAll table query ignore_case = All (Covers table ignore_case) query.patterns

-- the answer is the offset that the table proposes. The bytes up to the first table byte were scanned, and nothing else
-- was counted
pub record IsStep (table : List (Option ℕ)) (haystack : List ℕ) (span : Span) (answer : Candidate)
    (old new : Counts) : Type 0 where
  pub step : answer ≡ candidate_of (proposed_place table haystack span)
  pub scanned : new ≡ record old { scanned = old.scanned + bytes_scanned span (first_place table haystack span) }

-- a table of this many bytes
abbrev pub HasBytes : ℕ → List (Option ℕ) → Type 0
HasBytes count table = size table ≡ count

-- a table whose distances are all 0
abbrev pub ReachesNowhere : List (Option ℕ) → Type 0
ReachesNowhere table = reach_of table ≡ 0
