-- Occurrences in the rest of a span, and at the place from which a search goes on.
-- For `confirm` and the search by a table.
use Rattle.std.proofs.Common.{◌≡◌, ℕ, ◌+◌, ◌<◌, ◌≤◌, inl, inr, Bool, List, length, take, refl, sym, ap, ◌∙◌, subst}
use Rattle.std.proofs.Common.{arith}
use Rattle.std.proofs.lemmas.Bool.{cases_lt}
use Rattle.std.proofs.lemmas.List.{length-take-le}
use Rattle.literal_base.specs.declared.packed.MatchKind.{MatchKind}
use Rattle.literal_base.specs.declared.search.Span.{Span}
use Rattle.literal_base.specs.Leftmost.{IsLeftmostMatch}
use Rattle.literal_base.specs.Occurs.{pattern_at, case_folded, Occurs, NothingOccurs, StandsAt, IsValidSpan}
use Rattle.literal_packed.proofs.lemmas.CutHaystack.{cut_range}
use Rattle.literal_packed.specs.Inside.Place.{IsBestAt, NoneStandsAt}
use Rattle.literal_prefilters.specs.Sound.{IsPossibleStart}

module _ (patterns : List (List ℕ)) (ignore_case : Bool) (haystack : List ℕ) (span : Span) where
  -- no occurrence in the span begins before the place
  abbrev pub NoneBefore : ℕ → Type 0
  NoneBefore place = (i at : ℕ) → at < place → ¬ Occurs patterns ignore_case haystack span i at

  abbrev rest : ℕ → Span
  rest from = record { start = from; end = span.end }

  pub in_rest : (from i at : ℕ) → from ≤ at → Occurs patterns ignore_case haystack span i at
      → Occurs patterns ignore_case haystack (rest from) i at
  in_rest from i at after o = record {
    is_pattern = o.is_pattern;
    after_start = after;
    before_end = o.before_end;
    same = o.same;
  }

  in_span : (from i at : ℕ) → span.start ≤ from → Occurs patterns ignore_case haystack (rest from) i at
      → Occurs patterns ignore_case haystack span i at
  in_span from i at later o = record {
    is_pattern = o.is_pattern;
    after_start = omega (arith, o.after_start);
    before_end = o.before_end;
    same = o.same;
  }

  -- nothing occurs in the span
  pub nothing_from_rest : (from : ℕ) → NoneBefore from → NothingOccurs patterns ignore_case haystack (rest from)
      → NothingOccurs patterns ignore_case haystack span
  nothing_from_rest from before none i at o =
      elim (cases_lt at from) [
        | inl early ↦ before i at early o
        | inr late ↦ none i at (in_rest from i at late o)
      ]

  -- no occurrence begins before a possible start of the rest
  pub none_before_possible : (from s : ℕ) → NoneBefore from
      → IsPossibleStart patterns ignore_case haystack (rest from) s → NoneBefore s
  none_before_possible from s before possible i at early o =
      elim (cases_lt at from) [
        | inl h ↦ before i at h o
        | inr late ↦ let no : s ≤ at = possible.none_before i at (in_rest from i at late o) in absurd (omega arith)
      ]

  module _ (valid : IsValidSpan haystack span) where
    abbrev front : List ℕ
    front = take span.end haystack

    -- what occurs in the span stands in the haystack cut at its end
    stands_from_occurs : (i at : ℕ) → Occurs patterns ignore_case haystack span i at
        → StandsAt ignore_case (pattern_at patterns i) front at
    stands_from_occurs i at o =
        let p = pattern_at patterns i in record {
          fits = omega (arith, length-take-le span.end haystack valid.in_haystack, o.before_end);
          same = ap (case_folded ignore_case) (cut_range haystack span.end at (at + length p) o.before_end) ∙ o.same;
        }

    occurs_from_stands : (i at : ℕ) → i < length patterns → span.start ≤ at
        → StandsAt ignore_case (pattern_at patterns i) front at → Occurs patterns ignore_case haystack span i at
    occurs_from_stands i at is_pattern after s =
        let p = pattern_at patterns i in
        let fits : at + length p ≤ span.end = omega
        (arith, length-take-le span.end haystack valid.in_haystack, s.fits) in record {
          is_pattern = is_pattern;
          after_start = after;
          before_end = fits;
          same = ap (case_folded ignore_case) (sym (cut_range haystack span.end at (at + length p) fits)) ∙ s.same;
        }

    -- nothing stands at the possible start, so nothing begins before the next place
    pub none_before_next : (s : ℕ) → NoneBefore s → NoneStandsAt patterns ignore_case front s → NoneBefore (s + 1)
    none_before_next s before none i at early o =
        elim (cases_lt at s) [
          | inl h ↦ before i at h o
          | inr late ↦
              let here : at ≡ s = omega arith in
              none i o.is_pattern (subst (StandsAt ignore_case (pattern_at patterns i) front) here
              (stands_from_occurs i at o))
        ]

    -- the best pattern there is the leftmost match
    pub leftmost_here : (kind : MatchKind) (s i : ℕ) → span.start ≤ s → NoneBefore s
        → IsBestAt (record { kind = kind; patterns = patterns }) ignore_case front s i
        → IsLeftmostMatch (record { kind = kind; patterns = patterns }) ignore_case haystack span
        (record { pattern = i; start = s; end = s + length (pattern_at patterns i) })
    leftmost_here kind s i after before best = record {
      occurs = occurs_from_stands i s best.is_pattern after best.stands;
      whole = refl;
      earliest = before;
      best = λ j better o. best.best j o.is_pattern better (stands_from_occurs j s o);
    }
