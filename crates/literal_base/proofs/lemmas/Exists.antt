-- There is a leftmost answer, and a greedy list: found by going over the places and the patterns.
-- For the laws `leftmost_exists` and `greedy_exists`.
use Rattle.std.proofs.Common.{◌≡◌, ℕ, ◌+◌, ◌<◌, ◌≤◌, ◌⊎◌, inl, inr, Bool, true, false, List, [], ◌∷◌, length, Option}
use Rattle.std.proofs.Common.{None, Some, refl, sym, subst, arith, zero, suc, slice_range}
use Rattle.std.specs.Bool.{Decides}
use Rattle.std.specs.Str.{bytes_eq}
use Rattle.std.proofs.lemmas.Bool.{cases_order, false≢true}
use Rattle.std.proofs.lemmas.Slice.Eq.{bytes_eq-Decides}
use Rattle.literal_base.specs.declared.packed.MatchKind.{MatchKind}
use Rattle.literal_base.specs.declared.packed.MatchKind.TheVariants.{LeftmostFirst, LeftmostLongest}
use Rattle.literal_base.specs.declared.search.Span.{Span}
use Rattle.literal_base.specs.MatchValue.{MatchValue}
use Rattle.literal_base.specs.Query.{Query}
use Rattle.literal_base.specs.Occurs.{NoneIsEmpty, case_folded, pattern_at, Occurs, rest_from}
use Rattle.literal_base.specs.Leftmost.{IsBetter, IsLeftmost}
use Rattle.literal_base.specs.Greedy.{IsGreedy}
use Rattle.literal_base.proofs.lemmas.Unique.{better_one}

-- what a test decides holds or not
decided : {P : Type 0} → (b : Bool) → Decides b P → P ⊎ ¬ P
decided true d = inl (d.0 refl)
decided false d = inr (λ p. false≢true (d.1 p))

at_most_or_not : (a b : ℕ) → (a ≤ b) ⊎ ¬ (a ≤ b)
at_most_or_not a b =
    elim (cases_order a b) [
      | inl same ↦ inl (omega arith)
      | inr apart ↦ elim apart [ inl below ↦ inl (omega arith) | inr above ↦ inr (λ h. omega arith) ]
    ]

-- no pattern is better than itself
better-irreflexive : (kind : MatchKind) (patterns : List (List ℕ)) (i : ℕ) → ¬ IsBetter kind patterns i i
better-irreflexive LeftmostFirst patterns i h = omega arith
better-irreflexive LeftmostLongest patterns i h = elim h [ inl longer ↦ omega arith | inr same ↦ omega arith ]

-- what is better than a better one is better
better-transitive : (kind : MatchKind) (patterns : List (List ℕ)) (i j k : ℕ) → IsBetter kind patterns i j
    → IsBetter kind patterns j k → IsBetter kind patterns i k
better-transitive LeftmostFirst patterns i j k a b = omega arith
better-transitive LeftmostLongest patterns i j k a b =
    elim a [
      | inl longer ↦ elim b [ inl more ↦ inl (omega arith) | inr same ↦ inl (omega arith) ]
      | inr same ↦ elim b [ inl more ↦ inl (omega arith) | inr again ↦ inr (omega arith, omega arith) ]
    ]

-- Of the occurrences with a property that is decided: the leftmost one, and of those that begin there the best.
module _ (query : Query) (ignore_case : Bool) (haystack : List ℕ) (span : Span) (Also : ℕ → ℕ → Type 0)
    (also_or_not : (i at : ℕ) → Also i at ⊎ ¬ Also i at) where
  abbrev OccursAt : ℕ → ℕ → Type 0
  OccursAt i at = Occurs query.patterns ignore_case haystack span i at × Also i at

  occurs_or_not : (i at : ℕ) → i < length query.patterns → OccursAt i at ⊎ ¬ OccursAt i at
  occurs_or_not i at is_pattern =
      let bytes = pattern_at query.patterns i in
      let there = slice_range haystack at (at + length bytes) in
      elim (also_or_not i at) [
        | inr alone ↦ inr (λ o. alone o.1)
        | inl also ↦ elim (at_most_or_not span.start at) [
          | inr before ↦ inr (λ o. before o.0.after_start)
          | inl after ↦ elim (at_most_or_not (at + length bytes) span.end) [
            | inr past ↦ inr (λ o. past o.0.before_end)
            | inl inside ↦ elim (decided (bytes_eq (case_folded ignore_case there) (case_folded ignore_case bytes))
                (bytes_eq-Decides (case_folded ignore_case there) (case_folded ignore_case bytes))) [
                  | inr differs ↦ inr (λ o. differs o.0.same)
                  | inl same ↦ inl (
                    record {
                      is_pattern = is_pattern;
                      after_start = after;
                      before_end = inside;
                      same = same;
                    },
                    also,
                  )
                ]
          ]
        ]
      ]

  -- of the first n patterns b is the best that occurs at a place of the span: a step towards the best of all
  record IsBestOf (n at b : ℕ) : Type 0 where
    pub below : b < n
    pub occurs : OccursAt b at
    pub best : (i : ℕ) → i < n → IsBetter query.kind query.patterns i b → ¬ OccursAt i at

  one_more : {P : ℕ → Type 0} → (n : ℕ) → ((i : ℕ) → i < n → P i) → P n → (i : ℕ) → i < suc n → P i
  one_more {P} n below here i h =
      elim (cases_order i n) [
        | inl same ↦ subst P (sym same) here
        | inr apart ↦ elim apart [ inl before ↦ below i before | inr after ↦ absurd (omega arith) ]
      ]

  -- pattern n occurs too, and b is the best of those before it
  better_of : (n at b : ℕ) → IsBestOf n at b → OccursAt n at → (a : ℕ) × IsBestOf (suc n) at a
  better_of n at b h occurs =
      elim (better_one query.kind query.patterns b n h.below) [
        | inl kept ↦ (
          b,
          record {
            below = omega arith;
            occurs = h.occurs;
            best = one_more {P = λ i. IsBetter query.kind query.patterns i b → ¬ OccursAt i at} n h.best
                (λ better. absurd (better-irreflexive query.kind query.patterns n
                (better-transitive query.kind query.patterns n b n better kept)));
          },
        )
        | inr taken ↦ (
          n,
          record {
            below = omega arith;
            occurs = occurs;
            best = one_more {P = λ i. IsBetter query.kind query.patterns i n → ¬ OccursAt i at} n
                (λ i below better. h.best i below (better-transitive query.kind query.patterns i n b better taken))
                (λ better. absurd (better-irreflexive query.kind query.patterns n better));
          },
        )
      ]

  best_of : (n at : ℕ) → n ≤ length query.patterns → ((i : ℕ) → i < n → ¬ OccursAt i at) ⊎ ((b : ℕ) × IsBestOf n at b)
  best_of zero at h = inl (λ i below. absurd (omega arith))
  best_of (suc n) at h =
      elim (best_of n at (omega arith)) [
        | inl none ↦ elim (occurs_or_not n at (omega arith)) [
          | inr not ↦ inl (one_more {P = λ i. ¬ OccursAt i at} n none not)
          | inl occurs ↦ inr (
            n,
            record {
              below = omega arith;
              occurs = occurs;
              best = one_more {P = λ i. IsBetter query.kind query.patterns i n → ¬ OccursAt i at} n
                  (λ i below better. none i below)
                  (λ better. absurd (better-irreflexive query.kind query.patterns n better));
            },
          )
        ]
        | inr found ↦ elim (occurs_or_not n at (omega arith)) [
          | inl occurs ↦ inr (better_of n at found.0 found.1 occurs)
          | inr not ↦ inr (
            found.0,
            record {
              below = omega (arith, found.1.below);
              occurs = found.1.occurs;
              best = one_more {P = λ i. IsBetter query.kind query.patterns i found.0 → ¬ OccursAt i at} n found.1.best
                  (λ better. not);
            },
          )
        ]
      ]

  -- the leftmost of them, and the best that begins there
  pub record IsLeftmostOf (found : MatchValue) : Type 0 where
    pub occurs : OccursAt found.pattern found.start
    pub whole : found.end ≡ found.start + length (pattern_at query.patterns found.pattern)
    pub earliest : (i at : ℕ) → at < found.start → ¬ OccursAt i at
    pub best : (i : ℕ) → IsBetter query.kind query.patterns i found.pattern → ¬ OccursAt i found.start

  -- the leftmost one among those that begin before a place
  leftmost_before : (m : ℕ) → ((i at : ℕ) → at < m → ¬ OccursAt i at) ⊎ ((found : MatchValue) × IsLeftmostOf found)
  leftmost_before zero = inl (λ i at before. absurd (omega arith))
  leftmost_before (suc m) =
      elim (leftmost_before m) [
        | inr found ↦ inr found
        | inl none ↦ elim (best_of (length query.patterns) m (omega arith)) [
          | inl nothing ↦ inl (λ i. one_more {P = λ at. ¬ OccursAt i at} m (none i) (λ o. nothing i o.0.is_pattern o))
          | inr found ↦ inr (
            record { pattern = found.0; start = m; end = m + length (pattern_at query.patterns found.0) },
            record {
              occurs = found.1.occurs;
              whole = refl;
              earliest = none;
              best = λ i better o. found.1.best i o.0.is_pattern better o;
            },
          )
        ]
      ]

  pub leftmost_or_none : ((i at : ℕ) → ¬ OccursAt i at) ⊎ ((found : MatchValue) × IsLeftmostOf found)
  leftmost_or_none =
      elim (leftmost_before (span.end + 1)) [
        | inr found ↦ inr found
        | inl none ↦ inl (λ i at o. none i at (omega (arith, o.0.before_end)) o)
      ]

pub leftmost_exists_lem : (query : Query) (ignore_case : Bool) (haystack : List ℕ) (span : Span)
    → (answer : Option MatchValue) × IsLeftmost query ignore_case haystack span answer
leftmost_exists_lem query ignore_case haystack span =
    elim (leftmost_or_none query ignore_case haystack span (λ _ _. Unit {0}) (λ _ _. inl tt)) [
      | inl none ↦ (None, λ i at o. none i at (o, tt))
      | inr found ↦ (
        Some found.0,
        record {
          occurs = found.1.occurs.0;
          whole = found.1.whole;
          earliest = λ i at before o. found.1.earliest i at before (o, tt);
          best = λ i better o. found.1.best i better (o, tt);
        },
      )
    ]

module _ (query : Query) (ignore_case : Bool) (haystack : List ℕ) (not_empty : NoneIsEmpty query.patterns) where
  abbrev GreedyFrom : ℕ → Type 0
  GreedyFrom at = (all : List MatchValue) × IsGreedy query ignore_case haystack at all

  -- the list follows from the leftmost match, if there is one, and the list from its end on
  greedy_from : (at : ℕ) → ((e : ℕ) → at < e → GreedyFrom e) → (answer : Option MatchValue)
      → IsLeftmost query ignore_case haystack (rest_from haystack at) answer → GreedyFrom at
  greedy_from at later None nothing = ([], nothing)
  greedy_from at later (Some found) leftmost =
      let some : 0 < length (pattern_at query.patterns found.pattern) =
      not_empty found.pattern [] leftmost.occurs.is_pattern in
      let more = later found.end (omega (arith, leftmost.whole, leftmost.occurs.after_start)) in
      (found ∷ more.0, (leftmost, more.1))

  -- at most so many bytes are left, and each match takes one or more
  greedy_within : (most at : ℕ) → length haystack ≤ at + most → GreedyFrom at
  greedy_within zero at h = (
    [],
    λ i s o.
        let some : 0 < length (pattern_at query.patterns i) = not_empty i [] o.is_pattern in
        omega (arith, o.before_end, o.after_start),
  )
  greedy_within (suc most) at h =
      let answer = leftmost_exists_lem query ignore_case haystack (rest_from haystack at) in
      greedy_from at (λ e after. greedy_within most e (omega arith)) answer.0 answer.1

pub greedy_exists_lem : (query : Query) (ignore_case : Bool) (haystack : List ℕ) (at : ℕ) → NoneIsEmpty query.patterns
    → (all : List MatchValue) × IsGreedy query ignore_case haystack at all
greedy_exists_lem query ignore_case haystack at not_empty =
    greedy_within query ignore_case haystack not_empty (length haystack) at (omega arith)
