-- What operations on vectors of two halves hold in each lane.
use Rattle.std.proofs.Common.{◌≡◌, ℕ, ◌+◌, ◌-◌, ◌*◌, ◌/◌, ◌<◌, ◌≤◌, ◌∙◌, ◌++◌, List, ap, arith, get_or, inl, inr}
use Rattle.std.proofs.Common.{length, length-append, refl, subst, w8, zero-add}
use Rattle.std.proofs.lemmas.Bool.{cases_lt}
use Rattle.std.proofs.lemmas.List.{get_or-append_right, get_or_append_left}
use Rattle.std.proofs.lemmas.List.{map-append}
use Rattle.std.proofs.lemmas.Simd.{Each1-from_get_or, SwzOk, SwzOk-from_below, get_or-chunk, get_or-swz_l_below}
use Rattle.std.proofs.lemmas.Simd.{length-chunk, length-swz_l, pick_l-range_with_len, swz_l}
use Rattle.std.specs.List.{range_with_len}
use Rattle.std.specs.Simd.Lanes.{pick_l}
use Rattle.literal_fingerprints.specs.Inside.Lanes.{AreLanes, HasHalves, HasLanes}

-- neighbouring lanes
lanes_of_run : (xs : List ℕ) (n m : ℕ) → n + m ≤ length xs
    → AreLanes m (pick_l 0 xs (range_with_len n m)) (λ k. get_or xs (n + k) 0)
lanes_of_run xs n m inside =
    let picked = pick_l-range_with_len 0 xs n m inside in
    record {
      long = ap length picked ∙ length-chunk n m xs inside;
      each = λ k below. ap (λ l. get_or l k 0) picked ∙ get_or-chunk n m xs k 0 below;
    }

module _ (xs ks js : List ℕ) where
  both : pick_l 0 xs (ks ++ js) ≡ pick_l 0 xs ks ++ pick_l 0 xs js
  both = map-append (λ k. get_or xs k 0) ks js

  long_of_both : (m n : ℕ) → length (pick_l 0 xs ks) ≡ m → length (pick_l 0 xs js) ≡ n
      → length (pick_l 0 xs (ks ++ js)) ≡ m + n
  long_of_both m n one other =
      ap length both ∙ omega (arith, one, other, length-append (pick_l 0 xs ks) (pick_l 0 xs js))

  -- lanes, and others after them
  lanes_of_runs : (m n : ℕ) (f : ℕ → ℕ) → AreLanes m (pick_l 0 xs ks) f
      → AreLanes n (pick_l 0 xs js) (λ k. f (m + k)) → AreLanes (m + n) (pick_l 0 xs (ks ++ js)) f
  lanes_of_runs m n f one other = record {
    long = long_of_both m n one.long other.long;
    each = λ k below.
        ap (λ l. get_or l k 0) both ∙ elim (cases_lt k m) [
          | inl before ↦
              get_or_append_left (pick_l 0 xs ks) (pick_l 0 xs js) 0 k (omega (arith, before, one.long))
              ∙ one.each k before
          | inr after ↦
              let place : m + (k - m) ≡ k = omega arith in
              get_or-append_right (pick_l 0 xs ks) (pick_l 0 xs js) m k 0 one.long after
              ∙ (other.each (k - m) (omega (arith, below, after)) ∙ ap f place)
        ];
  }

  halves_of_runs : (f g : ℕ → ℕ) → HasLanes (pick_l 0 xs ks) f → HasLanes (pick_l 0 xs js) g
      → HasHalves (pick_l 0 xs (ks ++ js)) f g
  halves_of_runs f g one other = record {
    long = long_of_both 16 16 one.long other.long;
    front = λ k below.
        ap (λ l. get_or l k 0) both
        ∙ (get_or_append_left (pick_l 0 xs ks) (pick_l 0 xs js) 0 k (omega (arith, below, one.long))
        ∙ one.each k below);
    back = λ k below.
        let place : 16 + k - 16 ≡ k = omega arith in
        ap (λ l. get_or l (16 + k) 0) both
        ∙ (get_or-append_right (pick_l 0 xs ks) (pick_l 0 xs js) 16 (16 + k) 0 one.long (omega arith)
        ∙ (ap (λ j. get_or (pick_l 0 xs js) j 0) place ∙ other.each k below));
  }

module _ (a b : List ℕ) (p : length a ≡ 32) (q : length b ≡ 32) where
  whole : length (a ++ b) ≡ 64
  whole = omega (arith, p, q, length-append a b)

  in_first : (m : ℕ) → m < 32 → get_or (a ++ b) m 0 ≡ get_or a m 0
  in_first m below = get_or_append_left a b 0 m (omega (arith, p, below))

  in_next : (m n : ℕ) → m ≡ 32 + n → get_or (a ++ b) m 0 ≡ get_or b n 0
  in_next m n same =
      let place : m - 32 ≡ n = omega (arith, same) in
      get_or-append_right a b 32 m 0 p (omega (arith, same)) ∙ ap (λ j. get_or b j 0) place

  -- in the half from a lane on, the last lanes of one vector, and the first of the next
  half_of_picked : (n at : ℕ) → n ≤ 16 → at ≤ 16 → (f : ℕ → ℕ)
      → ((k : ℕ) → k < 16 → get_or a (at + k) 0 ≡ f k) → ((k : ℕ) → k < 16 → get_or b (at + k) 0 ≡ f (16 + k))
      → HasLanes (pick_l 0 (a ++ b) (range_with_len (at + n) (16 - n) ++ range_with_len (32 + at) n))
      (λ k. f (n + k))
  half_of_picked n at few inside f first next =
      let one = lanes_of_run (a ++ b) (at + n) (16 - n) (omega (arith, whole, few, inside)) in
      let other = lanes_of_run (a ++ b) (32 + at) n (omega (arith, whole, few, inside)) in
      let all : 16 - n + n ≡ 16 = omega (arith, few) in
      subst (λ w. AreLanes w (pick_l 0 (a ++ b) (range_with_len (at + n) (16 - n) ++ range_with_len (32 + at) n))
      (λ k. f (n + k))) all
      (lanes_of_runs (a ++ b) (range_with_len (at + n) (16 - n)) (range_with_len (32 + at) n) (16 - n) n
      (λ k. f (n + k))
      (record {
        long = one.long;
        each = λ k below.
            let place : at + n + k ≡ at + (n + k) = omega arith in
            one.each k below
            ∙ (in_first (at + n + k) (omega (arith, below, few, inside))
            ∙ (ap (λ j. get_or a j 0) place ∙ first (n + k) (omega (arith, below, few))));
      })
      (record {
        long = other.long;
        each = λ k below.
            let place : 16 + k ≡ n + (16 - n + k) = omega (arith, few) in
            other.each k below
            ∙ (in_next (32 + at + k) (at + k) (omega arith)
            ∙ (next k (omega (arith, below, few)) ∙ ap f place));
      }))

  -- neighbouring lanes of two vectors, in each half
  pub halves_of_picked : (n : ℕ) → n ≤ 16 → (low high : ℕ → ℕ) → HasHalves a low high
      → HasHalves b (λ k. low (16 + k)) (λ k. high (16 + k))
      → HasHalves (pick_l 0 (a ++ b) ((range_with_len (0 + n) (16 - n) ++ range_with_len (32 + 0) n)
      ++ (range_with_len (16 + n) (16 - n) ++ range_with_len (32 + 16) n))) (λ k. low (n + k)) (λ k. high (n + k))
  halves_of_picked n few low high first next =
      halves_of_runs (a ++ b) (range_with_len (0 + n) (16 - n) ++ range_with_len (32 + 0) n)
      (range_with_len (16 + n) (16 - n) ++ range_with_len (32 + 16) n) (λ k. low (n + k)) (λ k. high (n + k))
      (half_of_picked n 0 few (omega arith) low
      (λ k below. ap (λ j. get_or a j 0) (zero-add k) ∙ first.front k below)
      (λ k below. ap (λ j. get_or b j 0) (zero-add k) ∙ next.front k below))
      (half_of_picked n 16 few (omega arith) high first.back next.back)

  -- the first half of one vector, and the last of the next
  pub halves_of_both : HasHalves (pick_l 0 (a ++ b) (range_with_len 0 16 ++ range_with_len 48 16))
      (λ k. get_or a k 0) (λ k. get_or b (16 + k) 0)
  halves_of_both =
      let one = lanes_of_run (a ++ b) 0 16 (omega (arith, whole)) in
      let other = lanes_of_run (a ++ b) 48 16 (omega (arith, whole)) in
      halves_of_runs (a ++ b) (range_with_len 0 16) (range_with_len 48 16) _ _
      (record {
        long = one.long;
        each = λ k below.
            one.each k below
            ∙ (in_first (0 + k) (omega (arith, below)) ∙ ap (λ j. get_or a j 0) (zero-add k));
      })
      (record { long = other.long; each = λ k below. other.each k below ∙ in_next (48 + k) (16 + k) (omega arith) })

-- one vector of 16, and then another
pub halves_of_two : (a b : List ℕ) → length a ≡ 16 → length b ≡ 16
    → HasHalves (pick_l 0 (a ++ b) (range_with_len 0 32)) (λ k. get_or a k 0) (λ k. get_or b k 0)
halves_of_two a b p q =
    let all : length (a ++ b) ≡ 32 = omega (arith, p, q, length-append a b) in
    let run = lanes_of_run (a ++ b) 0 32 (omega (arith, all)) in
    record {
      long = run.long;
      front = λ k below.
          run.each k (omega (arith, below))
          ∙ (ap (λ j. get_or (a ++ b) j 0) (zero-add k) ∙ get_or_append_left a b 0 k (omega (arith, p, below)));
      back = λ k below.
          let place : 0 + (16 + k) - 16 ≡ k = omega arith in
          run.each (16 + k) (omega (arith, below))
          ∙ (get_or-append_right a b 16 (0 + (16 + k)) 0 p (omega arith) ∙ ap (λ j. get_or b j 0) place);
    }

-- the first 16 lanes of a vector of 32
pub lanes_of_front : (lanes : List ℕ) → length lanes ≡ 32
    → HasLanes (pick_l 0 (lanes ++ lanes) (range_with_len 0 16)) (λ k. get_or lanes k 0)
lanes_of_front lanes p =
    let run = lanes_of_run (lanes ++ lanes) 0 16 (omega (arith, p, length-append lanes lanes)) in
    record {
      long = run.long;
      each = λ k below.
          run.each k below
          ∙ (ap (λ j. get_or (lanes ++ lanes) j 0) (zero-add k)
          ∙ get_or_append_left lanes lanes 0 k (omega (arith, p, below)));
    }

module _ (js : List ℕ) (low high : ℕ → ℕ) (places : HasHalves js low high) (lows : (k : ℕ) → k < 16 → low k < 16)
    (highs : (k : ℕ) → k < 16 → high k < 16)
  where
    below16 : (k : ℕ) → k < 32 → get_or js k 0 < 16
    below16 k below = elim (cases_lt k 16) [
      | inl before ↦ omega (arith, places.front k before, lows k before)
      | inr after ↦
          let place : 16 + (k - 16) ≡ k = omega arith in
          let few : k - 16 < 16 = omega (arith, below, after) in
          subst (λ j. get_or js j 0 < 16) place (omega (arith, places.back (k - 16) few, highs (k - 16) few))
    ]

    -- positions in each half of a vector of 32
    pub halves_fit : SwzOk w8 16 32 0 js
    halves_fit =
        let long = places.long in
        SwzOk-from_below w8 16 2 32 0 js refl (omega arith)
        (Each1-from_get_or (λ j. j < 16) js 0 (λ k l. below16 k (omega (arith, l, long))))

    -- the entries there
    pub halves_of_entries : (table : List ℕ) (front back : ℕ → ℕ) → HasHalves table front back
        → HasHalves (swz_l w8 16 table 0 js) (λ k. front (low k)) (λ k. back (high k))
    halves_of_entries table front back has =
        let long = places.long in
        record {
          long = length-swz_l w8 16 table 0 js ∙ long;
          front = λ k below.
              let is = places.front k below in
              let least = lows k below in
              let place : 16 * ((0 + k) / 16) + get_or js k 0 ≡ low k = omega arith in
              get_or-swz_l_below w8 16 table 0 js k (omega arith) (omega arith)
              ∙ (ap (λ j. get_or table j 0) place ∙ has.front (low k) least);
          back = λ k below.
              let is = places.back k below in
              let least = highs k below in
              let place : 16 * ((0 + (16 + k)) / 16) + get_or js (16 + k) 0 ≡ 16 + high k = omega arith in
              get_or-swz_l_below w8 16 table 0 js (16 + k) (omega arith) (omega arith)
              ∙ (ap (λ j. get_or table j 0) place ∙ has.back (high k) least);
        }
