-- Occurrences of patterns in a haystack. Patterns and haystacks are lists of bytes. Patterns are numbered from 0 in the
-- order of their list. An offset is in bytes of the whole haystack.
use Rattle.std.specs.Prelude.{◌≡◌, ◌==◌, ℕ, ◌+◌, ◌<◌, ◌≤◌, ◌&&◌, Bool, if◌then◌else◌, List, [], length, map, nat_le}
use Rattle.std.specs.Prelude.{slice_index_or, slice_range}
use Rattle.std.specs.Char.{to_ascii_lowercase}
use Rattle.std.specs.List.{All, list_any, range_with_len}
use Rattle.std.specs.Str.{bytes_eq}
use Rattle.literal_base.specs.declared.search.Span.{Span}

-- the bytes, with each of A to Z replaced by its lowercase letter if case is ignored
abbrev pub case_folded : Bool → List ℕ → List ℕ
case_folded ignore_case bytes = if ignore_case then map to_ascii_lowercase bytes else bytes

-- a and b are equal, once each of A to Z is replaced by its lowercase letter if case is ignored
abbrev pub AreEqualBytes : Bool → List ℕ → List ℕ → Type 0
AreEqualBytes ignore_case a b = case_folded ignore_case a ≡ case_folded ignore_case b

-- a and b are the same byte, once each of A to Z is replaced by its lowercase letter if case is ignored
abbrev pub same_byte : Bool → ℕ → ℕ → Bool
same_byte ignore_case a b = if ignore_case then to_ascii_lowercase a == to_ascii_lowercase b else a == b

-- the pattern with this number, or the empty list if there is none
abbrev pub pattern_at : List (List ℕ) → ℕ → List ℕ
pattern_at patterns i = slice_index_or patterns i []

-- no pattern is empty
abbrev pub NoneIsEmpty : List (List ℕ) → Type 0
NoneIsEmpty patterns = All (λ (bytes : List ℕ). 0 < length bytes) patterns

-- the haystack contains the bytes at an offset
pub record StandsAt (ignore_case : Bool) (bytes haystack : List ℕ) (at : ℕ) : Type 0 where
  pub fits : at + length bytes ≤ length haystack
  pub same : AreEqualBytes ignore_case (slice_range haystack at (at + length bytes)) bytes

-- the span's start is at most its end, and its end at most the haystack's length
pub record IsValidSpan (haystack : List ℕ) (span : Span) : Type 0 where
  pub ordered : span.start ≤ span.end
  pub in_haystack : span.end ≤ length haystack

-- the span of the whole haystack
abbrev pub whole_of : List ℕ → Span
whole_of haystack = record { start = 0; end = length haystack }

-- the span from an offset to another
abbrev pub between : ℕ → ℕ → Span
between from to = record { start = from; end = to }

-- the span from an offset to the end of the haystack
abbrev pub rest_from : List ℕ → ℕ → Span
rest_from haystack at = record { start = at; end = length haystack }

-- i is the number of a pattern, and the haystack contains this pattern at the offset, whole in the span
pub record Occurs (patterns : List (List ℕ)) (ignore_case : Bool) (haystack : List ℕ) (span : Span)
    (i at : ℕ) : Type 0 where
  pub is_pattern : i < length patterns
  pub after_start : span.start ≤ at
  pub before_end : at + length (pattern_at patterns i) ≤ span.end
  pub same : AreEqualBytes ignore_case (slice_range haystack at (at + length (pattern_at patterns i)))
      (pattern_at patterns i)

-- no pattern occurs at any offset of the span
abbrev pub NothingOccurs : List (List ℕ) → Bool → List ℕ → Span → Type 0
NothingOccurs patterns ignore_case haystack span = (i at : ℕ) → ¬ Occurs patterns ignore_case haystack span i at

-- whether the haystack contains the bytes at an offset
abbrev pub stands_at : Bool → List ℕ → List ℕ → ℕ → Bool
stands_at ignore_case bytes haystack at =
    nat_le (at + length bytes) (length haystack)
    && bytes_eq (case_folded ignore_case (slice_range haystack at (at + length bytes))) (case_folded ignore_case bytes)

-- whether a pattern occurs at any offset of the haystack
abbrev pub one_occurs : List (List ℕ) → Bool → List ℕ → Bool
one_occurs patterns ignore_case haystack =
    list_any (λ at. list_any (λ bytes. stands_at ignore_case bytes haystack at) patterns)
    (range_with_len 0 (length haystack + 1))
