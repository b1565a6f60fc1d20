-- There is one leftmost answer, and one greedy list.
-- For the laws `leftmost_is_unique` and `greedy_is_unique`.
use Rattle.std.proofs.Common.{◌≡◌, ℕ, ◌<◌, ◌⊎◌, inl, inr, Bool, List, [], ◌∷◌, length, Option, Some, None, refl, sym}
use Rattle.std.proofs.Common.{ap, ◌∙◌, subst}
use Rattle.std.proofs.lemmas.Bool.{cases_order}
use Rattle.literal_base.specs.declared.packed.MatchKind.{MatchKind}
use Rattle.literal_base.specs.declared.packed.MatchKind.TheVariants.{LeftmostFirst, LeftmostLongest}
use Rattle.literal_base.specs.declared.search.Span.{Span}
use Rattle.literal_base.specs.MatchValue.{MatchValue}
use Rattle.literal_base.specs.Query.{Query}
use Rattle.literal_base.specs.Occurs.{pattern_at, Occurs, rest_from}
use Rattle.literal_base.specs.Leftmost.{IsBetter, IsLeftmostMatch, IsLeftmost}
use Rattle.literal_base.specs.Greedy.{IsGreedy}

-- matches with the same three numbers
pub MatchValue-ext : (a b : MatchValue) → a.pattern ≡ b.pattern → a.start ≡ b.start → a.end ≡ b.end → a ≡ b
MatchValue-ext a b pattern start end =
    let by_pattern : ℕ → MatchValue = λ n. record { pattern = n; start = a.start; end = a.end } in
    let by_start : ℕ → MatchValue = λ n. record { pattern = b.pattern; start = n; end = a.end } in
    let by_end : ℕ → MatchValue = λ n. record { pattern = b.pattern; start = b.start; end = n } in
    ap by_pattern pattern ∙ (ap by_start start ∙ ap by_end end)

-- of two patterns one is better
pub better_one : (kind : MatchKind) (patterns : List (List ℕ)) (i j : ℕ) → i < j → IsBetter kind patterns i j
    ⊎ IsBetter kind patterns j i
better_one LeftmostFirst patterns i j h = inl h
better_one LeftmostLongest patterns i j h =
    elim (cases_order (length (pattern_at patterns i)) (length (pattern_at patterns j))) [
      | inl same ↦ inl (inr (same, h))
      | inr apart ↦ elim apart [ inl shorter ↦ inr (inl shorter) | inr longer ↦ inl (inl longer) ]
    ]

module _ (query : Query) (ignore_case : Bool) (haystack : List ℕ) (span : Span) where
  same_start : (a b : MatchValue) → IsLeftmostMatch query ignore_case haystack span a
      → IsLeftmostMatch query ignore_case haystack span b → a.start ≡ b.start
  same_start a b at_a at_b =
      elim (cases_order a.start b.start) [
        | inl same ↦ same
        | inr apart ↦ elim apart [
          | inl before ↦ absurd (at_b.earliest a.pattern a.start before at_a.occurs)
          | inr after ↦ absurd (at_a.earliest b.pattern b.start after at_b.occurs)
        ]
      ]

  -- of two different query.patterns that occur at one place, at most one is the best
  not_both : (a b : MatchValue) → a.start ≡ b.start → a.pattern < b.pattern
      → IsLeftmostMatch query ignore_case haystack span a → IsLeftmostMatch query ignore_case haystack span b → ⊥
  not_both a b same below at_a at_b =
      elim (better_one query.kind query.patterns a.pattern b.pattern below) [
        | inl better ↦ at_b.best a.pattern better
            (subst (Occurs query.patterns ignore_case haystack span a.pattern) same at_a.occurs)
        | inr better ↦ at_a.best b.pattern better
            (subst (Occurs query.patterns ignore_case haystack span b.pattern) (sym same) at_b.occurs)
      ]

  same_pattern : (a b : MatchValue) → IsLeftmostMatch query ignore_case haystack span a
      → IsLeftmostMatch query ignore_case haystack span b → a.pattern ≡ b.pattern
  same_pattern a b at_a at_b =
      let same = same_start a b at_a at_b in
      elim (cases_order a.pattern b.pattern) [
        | inl equal ↦ equal
        | inr apart ↦ elim apart [
          | inl below ↦ absurd (not_both a b same below at_a at_b)
          | inr above ↦ absurd (not_both b a (sym same) above at_b at_a)
        ]
      ]

  -- there is one leftmost match
  leftmost_match_unique : (a b : MatchValue) → IsLeftmostMatch query ignore_case haystack span a
      → IsLeftmostMatch query ignore_case haystack span b → a ≡ b
  leftmost_match_unique a b at_a at_b =
      let start = same_start a b at_a at_b in
      let pattern = same_pattern a b at_a at_b in
      MatchValue-ext a b pattern start (at_a.whole ∙ (rw (start, pattern) refl ∙ sym at_b.whole))

  -- there is one answer
  pub leftmost_unique : (a b : Option MatchValue) → IsLeftmost query ignore_case haystack span a
      → IsLeftmost query ignore_case haystack span b → a ≡ b
  leftmost_unique None None _ _ = refl
  leftmost_unique None (Some b) nothing at_b = absurd (nothing b.pattern b.start at_b.occurs)
  leftmost_unique (Some a) None at_a nothing = absurd (nothing a.pattern a.start at_a.occurs)
  leftmost_unique (Some a) (Some b) at_a at_b = ap Some (leftmost_match_unique a b at_a at_b)

-- there is one greedy list
pub greedy_unique : (query : Query) (ignore_case : Bool) (haystack : List ℕ) (at : ℕ) (a b : List MatchValue)
    → IsGreedy query ignore_case haystack at a → IsGreedy query ignore_case haystack at b → a ≡ b
greedy_unique query ignore_case haystack at [] [] _ _ = refl
greedy_unique query ignore_case haystack at [] (b ∷ bs) nothing more = absurd (nothing b.pattern b.start more.0.occurs)
greedy_unique query ignore_case haystack at (a ∷ as') [] more nothing = absurd (nothing a.pattern a.start more.0.occurs)
greedy_unique query ignore_case haystack at (a ∷ as') (b ∷ bs) at_a at_b =
    let same = leftmost_match_unique query ignore_case haystack (rest_from haystack at) a b at_a.0 at_b.0 in
    let rest = greedy_unique query ignore_case haystack a.end as' bs at_a.1
    (subst (λ (f : MatchValue). IsGreedy query ignore_case haystack f.end bs) (sym same) at_b.1) in
    cc
