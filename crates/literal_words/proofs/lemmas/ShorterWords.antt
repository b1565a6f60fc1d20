-- Whole words that begin where a match does: from one match to the next shorter one.
use Rattle.std.proofs.Common.{◌≡◌, ◌+◌, ◌-◌, ◌<◌, ◌≤◌, ◌⊎◌, ℕ, List, None, Option, Some, IfSome, arith, inl, inr}
use Rattle.std.proofs.Common.{false, length, subst, sym, true}
use Rattle.std.proofs.lemmas.Bool.{cases_lt, false≢true}
use Rattle.literal_base.specs.MatchValue.{MatchValue}
use Rattle.literal_base.specs.Occurs.{Occurs, between, pattern_at}
use Rattle.literal_leftmost.specs.At.{IsMatchIn}
use Rattle.literal_words.specs.Inside.WholeWords.{AreWordParts, IsBestHere, IsEarlier, IsFirstUpTo, IsMatchAtStart}
use Rattle.literal_words.specs.Inside.WholeWords.{IsWord}
use Rattle.literal_words.specs.Inside.WholeWords.{IsWordAt, WordParts, end_or}
use Rattle.literal_words.specs.declared.word_search.Words.{Words}
use Rattle.literal_words.specs.WholeWords.{is_word_at, is_word_before}

module _ (p : WordParts) (parts : AreWordParts p) (haystack sides : List ℕ) (start end : ℕ) (here : MatchValue)
    (starts : here.start ≡ start) (some : here.start < here.end) (inside : here.end ≤ end)
    (best : IsBestHere p.search haystack here) (answer : Option MatchValue)
    (next : IsMatchIn p.search.query p.search.ignore_case haystack (between here.start (here.end - 1)) answer)
  where
    abbrev size : ℕ → ℕ
    size i = length (pattern_at p.search.query.patterns i)

    abbrev WordHere : ℕ → Type 0
    WordHere = IsWordAt p haystack sides (between start end)

    -- the next one is the best of what lies whole in it
    pub next_best : IfSome answer (IsBestHere p.search haystack)
    next_best = by answer next
      where
        by : (o : Option MatchValue)
            → IsMatchIn p.search.query p.search.ignore_case haystack (between here.start (here.end - 1)) o
            → IfSome o (IsBestHere p.search haystack)
        by None none = grind arith
        by (Some found) is = grind arith

    -- what occurs there and ends before the match ends no further than the next one
    shorter_ends : (i : ℕ) → Occurs p.search.query.patterns p.search.ignore_case haystack (between start end) i start
        → start + size i < here.end → start + size i ≤ end_or start answer
    shorter_ends i occurs less = by answer next
      where
        within : Occurs p.search.query.patterns p.search.ignore_case haystack (between here.start (here.end - 1)) i
            here.start
        within = grind arith

        by : (o : Option MatchValue)
            → IsMatchIn p.search.query p.search.ignore_case haystack (between here.start (here.end - 1)) o
            → start + size i ≤ end_or start o
        by None none = absurd (none i within)
        by (Some found) is = elim (cases_lt (size found.pattern) (size i)) [
          | inl longer ↦ grind (arith, parts, within)
          | inr not ↦ omega (arith, not, is.1.whole, is.0, starts)
        ]

    -- where the match is no whole word, a whole word that ends no further than it ends no further than the next one
    pub ends_on_next : is_word_at p.word_bytes sides here.end ≡ true → (i : ℕ) → WordHere i
        → start + size i ≤ here.end → start + size i ≤ end_or start answer
    ends_on_next not i word upto = elim (cases_lt (start + size i) here.end) [
      | inl less ↦ shorter_ends i word.occurs less
      | inr whole ↦
          let same : start + size i ≡ here.end = omega (arith, whole, upto) in
          absurd (grind (arith, false≢true))
    ]

    pub first_on_next : is_word_at p.word_bytes sides here.end ≡ true → (first : Option MatchValue)
        → IsFirstUpTo p haystack sides (between start end) here.end first
        → IsFirstUpTo p haystack sides (between start end) (end_or start answer) first
    first_on_next not None ends = λ i word. ends_on_next not i word (ends i word)
    first_on_next not (Some found) is = (
      is.0,
      λ i word. elim (is.1 i word) [
        | inl upto ↦ inl (ends_on_next not i word upto)
        | inr later ↦ inr later
      ],
    )

    -- where it is one, it is no later in the list than those that end with it
    module _ (before : is_word_before p.word_bytes sides start ≡ false)
        (after : is_word_at p.word_bytes sides here.end ≡ false)
      where
        word_here : IsWord p haystack sides (between start end) here
        word_here = grind arith

        shorter_or_later : (i : ℕ) → WordHere i → start + size i ≤ here.end
            → (start + size i ≤ end_or start answer) ⊎ (here.pattern ≤ i)
        shorter_or_later i word upto = elim (cases_lt (start + size i) here.end) [
          | inl less ↦ inl (shorter_ends i word.occurs less)
          | inr whole ↦ inr (not_better i word (omega (arith, whole, upto)))
        ]
          where
            not_better : (i : ℕ) → WordHere i → start + size i ≡ here.end → here.pattern ≤ i
            not_better i word same = elim (cases_lt i here.pattern) [
              | inl earlier ↦
                  let occurs : Occurs p.search.query.patterns p.search.ignore_case haystack
                  (between here.start here.end) i here.start = grind arith in
                  let long : size i ≡ size here.pattern = omega (arith, same, best.whole, starts) in
                  absurd (grind (arith, parts))
              | inr not ↦ omega (arith, not)
            ]

        pub first_with_this : (first : Option MatchValue) (new : MatchValue)
            → IsFirstUpTo p haystack sides (between start end) here.end first → IsEarlier first here new
            → IsFirstUpTo p haystack sides (between start end) (end_or start answer) (Some new)
        first_with_this None new ends is =
            subst (λ (n : MatchValue). IsFirstUpTo p haystack sides (between start end) (end_or start answer) (Some n))
            (sym is) (word_here, λ i word. shorter_or_later i word (ends i word))
        first_with_this (Some other) new known (inl is) =
            subst (λ (n : MatchValue). IsFirstUpTo p haystack sides (between start end) (end_or start answer) (Some n))
            (sym is.0) (
              known.0,
              λ i word. elim (known.1 i word) [
                | inl upto ↦ elim (shorter_or_later i word upto) [
                  | inl less ↦ inl less
                  | inr later ↦ inr (omega (arith, later, is.1))
                ]
                | inr later ↦ inr later
              ],
            )
        first_with_this (Some other) new known (inr is) =
            subst (λ (n : MatchValue). IsFirstUpTo p haystack sides (between start end) (end_or start answer) (Some n))
            (sym is.0) (
              word_here,
              λ i word. elim (known.1 i word) [
                | inl upto ↦ shorter_or_later i word upto
                | inr later ↦ inr (omega (arith, later, is.1))
              ],
            )

-- the earlier of two matches lies where both do
pub lies_on : (w : Words) (start end : ℕ) (here : MatchValue) → IsMatchAtStart w (between start end) here
    → (first : Option MatchValue) (new : MatchValue) → IfSome first (IsMatchAtStart w (between start end))
    → IsEarlier first here new → IsMatchAtStart w (between start end) new
lies_on w start end here lies None new none is = subst (IsMatchAtStart w (between start end)) (sym is) lies
lies_on w start end here lies (Some other) new both (inl is) =
    subst (IsMatchAtStart w (between start end)) (sym is.0) both
lies_on w start end here lies (Some other) new both (inr is) =
    subst (IsMatchAtStart w (between start end)) (sym is.0) lies
