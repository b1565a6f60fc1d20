-- Which of the patterns that occur at one place is answered.
-- For the laws on ties.
use Rattle.std.proofs.Common.{◌≡◌, ℕ, ◌+◌, ◌<◌, ◌≤◌, inl, inr, Bool, List, length, slice_range, sym, ap, subst, arith}
use Rattle.std.proofs.lemmas.Bool.{cases_order}
use Rattle.literal_base.specs.declared.packed.MatchKind.TheVariants.{LeftmostFirst, LeftmostLongest}
use Rattle.literal_base.specs.declared.search.Span.{Span}
use Rattle.literal_base.specs.MatchValue.{MatchValue}
use Rattle.literal_base.specs.Query.{Query}
use Rattle.literal_base.specs.Occurs.{pattern_at, Occurs, AreEqualBytes}
use Rattle.literal_base.specs.Leftmost.{IsLeftmostMatch}

-- where a pattern occurs, an equal one does
occurs-equal : (patterns : List (List ℕ)) (ignore_case : Bool) (haystack : List ℕ) (span : Span) (i j at : ℕ)
    → j < length patterns → pattern_at patterns j ≡ pattern_at patterns i
    → Occurs patterns ignore_case haystack span i at → Occurs patterns ignore_case haystack span j at
occurs-equal patterns ignore_case haystack span i j at is_pattern same o = record {
  is_pattern = is_pattern;
  after_start = o.after_start;
  before_end = subst (λ (p : List ℕ). at + length p ≤ span.end) (sym same) o.before_end;
  same = subst (λ (p : List ℕ). AreEqualBytes ignore_case (slice_range haystack at (at + length p)) p) (sym same)
      o.same;
}

pub longest_first_of_equal : (query : Query) (ignore_case : Bool) (haystack : List ℕ) (span : Span) (found : MatchValue)
    (j : ℕ) → query.kind ≡ LeftmostLongest → IsLeftmostMatch query ignore_case haystack span found
    → j < length query.patterns → pattern_at query.patterns j ≡ pattern_at query.patterns found.pattern
    → found.pattern ≤ j
longest_first_of_equal query ignore_case haystack span found j is_longest leftmost is_pattern same =
    elim (cases_order found.pattern j) [
      | inl equal ↦ omega arith
      | inr apart ↦ elim apart [
        | inl below ↦ omega arith
        | inr above ↦ absurd (leftmost.best j (rw is_longest (inr (ap length same, above)))
            (occurs-equal query.patterns ignore_case haystack span found.pattern j found.start is_pattern same
            leftmost.occurs))
      ]
    ]

pub first_added : (query : Query) (ignore_case : Bool) (haystack : List ℕ) (span : Span) (found : MatchValue) (j : ℕ)
    → query.kind ≡ LeftmostFirst → IsLeftmostMatch query ignore_case haystack span found
    → Occurs query.patterns ignore_case haystack span j found.start → found.pattern ≤ j
first_added query ignore_case haystack span found j is_first leftmost occurs =
    elim (cases_order found.pattern j) [
      | inl equal ↦ omega arith
      | inr apart ↦ elim apart [
        | inl below ↦ omega arith
        | inr above ↦
            absurd (leftmost.best j (rw is_first above) occurs)
      ]
    ]
