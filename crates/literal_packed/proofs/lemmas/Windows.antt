-- The windows of a haystack, one after another, and where no pattern occurs.
-- For `RabinKarp::walk`.
use Rattle.std.proofs.Common.{◌≡◌, ℕ, suc, inl, inr, ◌+◌, ◌-◌, ◌<◌, ◌≤◌, false, List, [], ◌∷◌, ◌++◌, length, take}
use Rattle.std.proofs.Common.{drop, get_or, sym, ap, subst, ◌∙◌, arith}
use Rattle.std.specs.List.{slice_range}
use Rattle.std.proofs.lemmas.List.{drop_more}
use Rattle.std.proofs.lemmas.Bool.{cases_lt}
use Rattle.std.proofs.lemmas.List.Edits.{between_more, length-between}
use Rattle.literal_base.specs.Occurs.{pattern_at, StandsAt, Occurs, NothingOccurs, rest_from}
use Rattle.literal_packed.specs.Inside.Place.{NoneStandsAt}
use Rattle.literal_packed.specs.PatternsValue.{minimum_len_of}
use Rattle.literal_packed.specs.Sum.{sum_of}
use Rattle.literal_packed.proofs.lemmas.MinimumLen.{minimum_len_of-le}

-- the window at a place is its first byte and the rest
window_first : (h : List ℕ) (at m : ℕ) → 0 < m → at < length h
    → slice_range h at (at + m) ≡ get_or h at 0 ∷ slice_range h (at + 1) (at + m)
window_first h at m some within =
    let n : ℕ = m - 1 in
    let long : at + m - at ≡ suc n = omega arith in
    let rest : at + m - (at + 1) ≡ n = omega arith in
    ap (λ k. take k (drop at h)) long
    ∙ (ap (take (suc n)) (drop_more h at 0 within) ∙ ap (λ k. get_or h at 0 ∷ take k (drop (at + 1) h)) (sym rest))

-- a roll goes on by one place
sum-roll : (h : List ℕ) (at m old new : ℕ) → 0 < m → at + m < length h
    → ((w : List ℕ) → length (get_or h at 0 ∷ w) ≡ m → old ≡ sum_of (get_or h at 0 ∷ w)
    → new ≡ sum_of (w ++ get_or h (at + m) 0 ∷ []))
    → old ≡ sum_of (slice_range h at (at + m)) → new ≡ sum_of (slice_range h (at + 1) (at + 1 + m))
sum-roll h at m old new some within rolls is =
    let w = slice_range h (at + 1) (at + m) in
    let first = window_first h at m some (omega arith) in
    let long : length (get_or h at 0 ∷ w) ≡ m = omega (arith, length-between h (at + 1) (at + m) (omega arith)) in
    let place : at + m + 1 ≡ at + 1 + m = omega arith in
    rolls w long (is ∙ ap sum_of first)
    ∙ ap sum_of (sym (between_more h (at + 1) (at + m) 0 (omega arith) within)
    ∙ ap (λ k. slice_range h (at + 1) k) place)

-- the same, where the window's length goes by other names
pub sum-roll_by : (h : List ℕ) (at m k long old new : ℕ) → k ≡ m → long ≡ m → 0 < m → at + m < length h
    → ((w : List ℕ) → length (get_or h at 0 ∷ w) ≡ long → old ≡ sum_of (get_or h at 0 ∷ w)
    → new ≡ sum_of (w ++ get_or h (at + k) 0 ∷ []))
    → old ≡ sum_of (slice_range h at (at + m)) → new ≡ sum_of (slice_range h (at + 1) (at + 1 + m))
sum-roll_by h at m k long old new is_k is_long some within rolls is =
    sum-roll h at m old new some within
    (λ w l e. subst (λ j. new ≡ sum_of (w ++ get_or h (at + j) 0 ∷ [])) is_k (rolls w (l ∙ sym is_long) e)) is

-- one byte more
pub sum-push : (h : List ℕ) (at k old new : ℕ) → at ≤ k → k < length h
    → ((w : List ℕ) → old ≡ sum_of w → new ≡ sum_of (w ++ get_or h k 0 ∷ []))
    → old ≡ sum_of (slice_range h at k) → new ≡ sum_of (slice_range h at (k + 1))
sum-push h at k old new after within pushes is =
    pushes (slice_range h at k) is ∙ ap sum_of (sym (between_more h at k 0 after within))

-- what occurs stands there, and has room for the shortest pattern
occurs_stands : (patterns : List (List ℕ)) (h : List ℕ) (at i s : ℕ) → Occurs patterns false h (rest_from h at) i s
    → StandsAt false (pattern_at patterns i) h s
occurs_stands patterns h at i s occurs = record { fits = occurs.before_end; same = occurs.same }

pub nothing_short : (patterns : List (List ℕ)) (h : List ℕ) (at : ℕ) → length h - at < minimum_len_of patterns
    → NothingOccurs patterns false h (rest_from h at)
nothing_short patterns h at short i s occurs =
    let after = occurs.after_start in
    let fits = occurs.before_end in
    omega (arith, minimum_len_of-le patterns i occurs.is_pattern)

pub nothing_after : (patterns : List (List ℕ)) (h : List ℕ) (at last : ℕ) → last + minimum_len_of patterns ≡ length h
    → ((s : ℕ) → at ≤ s → s < last + 1 → NoneStandsAt patterns false h s)
    → NothingOccurs patterns false h (rest_from h at)
nothing_after patterns h at last is none i s occurs =
    let fits = occurs.before_end in
    let room : s < last + 1 = omega (arith, minimum_len_of-le patterns i occurs.is_pattern) in
    none s occurs.after_start room i occurs.is_pattern (occurs_stands patterns h at i s occurs)

-- one place more
pub passed_more : (patterns : List (List ℕ)) (h : List ℕ) (at place : ℕ)
    → ((s : ℕ) → at ≤ s → s < place → NoneStandsAt patterns false h s) → NoneStandsAt patterns false h place
    → (s : ℕ) → at ≤ s → s < place + 1 → NoneStandsAt patterns false h s
passed_more patterns h at place none here s after before =
    elim (cases_lt s place) [
      | inl earlier ↦ none s after earlier
      | inr later ↦ let same : place ≡ s = omega arith in
          subst (NoneStandsAt patterns false h) same here
    ]
