-- The earliest end of an occurrence.
use Rattle.std.specs.Prelude.{◌≡◌, ℕ, ◌+◌, ◌-◌, ◌*◌, ◌≤◌, Bool, List, length, Option, MatchOption}
use Rattle.literal_base.specs.Counts.{Counts}
use Rattle.literal_base.specs.declared.search.Span.{Span}
use Rattle.literal_base.specs.Occurs.{NothingOccurs, Occurs, pattern_at}

-- an occurrence in the span ends at this offset, and none ends before it
pub record EndsEarliest (patterns : List (List ℕ)) (ignore_case : Bool) (haystack : List ℕ) (span : Span) (end : ℕ)
    : Type 0 where
  pub occurs : (i : ℕ) × (at : ℕ) × Occurs patterns ignore_case haystack span i at
      × (at + length (pattern_at patterns i) ≡ end)
  pub first : (i at : ℕ) → Occurs patterns ignore_case haystack span i at → end ≤ at + length (pattern_at patterns i)

-- the answer is None exactly if nothing occurs in the span, and otherwise the earliest end of an occurrence
abbrev pub IsEarliestEnd : List (List ℕ) → Bool → List ℕ → Span → Option ℕ → Type 0
IsEarliestEnd patterns ignore_case haystack span answer =
    MatchOption answer (NothingOccurs patterns ignore_case haystack span)
    (EndsEarliest patterns ignore_case haystack span)

-- how many bytes a search for the earliest end scans: at least those up to that end, or those of the span if nothing
-- occurs, and at most three times as many
pub record ScansToEndWithin (span : Span) (answer : Option ℕ) (old new : Counts) : Type 0 where
  pub others : new ≡ record old { scanned = new.scanned }
  pub least : MatchOption answer (old.scanned + (span.end - span.start) ≤ new.scanned)
      (λ end. old.scanned + end ≤ new.scanned + span.start)
  pub scanned : MatchOption answer (new.scanned ≤ old.scanned + 3 * (span.end - span.start))
      (λ end. new.scanned + 3 * span.start ≤ old.scanned + 3 * end)
