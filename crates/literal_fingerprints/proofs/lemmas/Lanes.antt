-- What operations on vectors hold in each lane.
use Rattle.std.proofs.Common.{◌≡◌, ◌≢◌, ℕ, ◌+◌, ◌-◌, ◌*◌, ◌/◌, ◌%◌, ◌^◌, ◌<◌, ◌≤◌, ◌∙◌, ◌++◌, List, true, false, not}
use Rattle.std.proofs.Common.{eqb, length, get_or, replicate, refl, cond, map, sym, ap, arith, take, w8, inl, inr}
use Rattle.std.proofs.Common.{Bool, T, drop, false, ltb, ◌||◌, length-append, subst, zero-add}
use Rattle.std.proofs.lemmas.Simd.{length-replicate}
use Rattle.std.proofs.lemmas.Bool.{cases_lt, le-ltb, lt-leb, lt-ltb}
use Rattle.std.proofs.lemmas.Bool.Decides.{nat_tests}
use Rattle.std.proofs.lemmas.List.{get_or-append_right, get_or-drop, get_or-take, get_or_append_left, get_or_past}
use Rattle.std.proofs.lemmas.List.{length-drop, length-take}
use Rattle.std.proofs.lemmas.List.Sums.{prefix_len-le-length, prefix_len_passes, prefix_len_stops}
use Rattle.std.proofs.lemmas.Simd.{Each1-from_get_or, SwzOk, SwzOk-from_below, bitmask_splat, get_or-chunk}
use Rattle.std.proofs.lemmas.Simd.{get_or-replicate, get_or-swz_l_below, get_or-zip2, leading_from_mask_l, length-chunk}
use Rattle.std.proofs.lemmas.Simd.{get_or-sel_l, length-sel_l, length-swz_l, length-zip2, pick_l-range_with_len}
use Rattle.std.proofs.lemmas.Simd.{swz_l, trailing_mask_l}
use Rattle.std.specs.List.{prefix_len, range_with_len}
use Rattle.std.specs.Simd.Lanes.{mask_l, pick_l, sel_l, top, zip2}
use Rattle.std.specs.List.{slice_range}
use Rattle.literal_fingerprints.specs.declared.lanes.TheConstants.{PLACES}
use Rattle.std.proofs.lemmas.List.FromFn.{get_or-map-range_with_len}
use Rattle.std.proofs.lemmas.Simd.{SwzOk-from_Each1, get_or-swz_l}
use mir.Val.{zeroes}
use lib.Count.{count_trailing_zeros}
use lib.Lanes.{chunk}
use Rattle.literal_fingerprints.specs.Inside.Lanes.{AreLanes, HasBack, HasLanes, HasWide}

-- neighbouring lanes of two vectors
pub lanes_of_picked : (n : ℕ) → n ≤ 16 → (a b : List ℕ) → length a ≡ 16 → length b ≡ 16 → (f : ℕ → ℕ)
    → HasLanes a f → HasLanes b (λ k. f (16 + k)) → HasLanes (pick_l 0 (a ++ b) (range_with_len n 16)) (λ k. f (n + k))
lanes_of_picked n few a b p q f first last =
    let picked = pick_l-range_with_len 0 (a ++ b) n 16 (omega (arith, length-append a b)) in
    record {
      long = ap length picked ∙ length-chunk n 16 (a ++ b) (omega (arith, length-append a b));
      each = λ k below.
          ap (λ l. get_or l k 0) picked ∙ (get_or-chunk n 16 (a ++ b) k 0 below
          ∙ elim (cases_lt (n + k) 16) [
            | inl before ↦ get_or_append_left a b 0 (n + k) (omega arith) ∙ first.each (n + k) before
            | inr after ↦
                let place : 16 + (n + k - 16) ≡ n + k = omega arith in
                get_or-append_right a b 16 (n + k) 0 p (omega arith)
                ∙ (last.each (n + k - 16) (omega arith) ∙ ap f place)
          ]);
    }

-- the same of vectors of 32, by the last 16 lanes of the first
pub wide_of_picked : (n : ℕ) → 16 ≤ n → n ≤ 32 → (a b : List ℕ) → length a ≡ 32 → length b ≡ 32 → (f : ℕ → ℕ)
    → HasBack a f → HasWide b (λ k. f (16 + k))
    → HasWide (pick_l 0 (a ++ b) (range_with_len n 32)) (λ k. f (n - 16 + k))
wide_of_picked n far few a b p q f first last =
    let picked = pick_l-range_with_len 0 (a ++ b) n 32 (omega (arith, length-append a b)) in
    record {
      long = ap length picked ∙ length-chunk n 32 (a ++ b) (omega (arith, length-append a b));
      each = λ k below.
          ap (λ l. get_or l k 0) picked ∙ (get_or-chunk n 32 (a ++ b) k 0 below
          ∙ elim (cases_lt (n + k) 32) [
            | inl before ↦
                let place : 16 + (n - 16 + k) ≡ n + k = omega arith in
                get_or_append_left a b 0 (n + k) (omega arith)
                ∙ (ap (λ j. get_or a j 0) (sym place) ∙ first.each (n - 16 + k) (omega arith))
            | inr after ↦
                let place : 16 + (n + k - 32) ≡ n - 16 + k = omega arith in
                get_or-append_right a b 32 (n + k) 0 p (omega arith)
                ∙ (last.each (n + k - 32) (omega arith) ∙ ap f place)
          ]);
    }

-- a vector of 16 twice
pub lanes_of_twice : (half : List ℕ) → length half ≡ 16
    → HasWide (pick_l 0 (half ++ half) (range_with_len 0 32)) (λ k. get_or half (k % 16) 0)
lanes_of_twice half p =
    let picked = pick_l-range_with_len 0 (half ++ half) 0 32 (omega (arith, length-append half half)) in
    record {
      long = ap length picked ∙ length-chunk 0 32 (half ++ half) (omega (arith, length-append half half));
      each = λ k below.
          ap (λ l. get_or l k 0) picked ∙ (get_or-chunk 0 32 (half ++ half) k 0 below
          ∙ elim (cases_lt k 16) [
            | inl before ↦
                let place : 0 + k ≡ k % 16 = omega arith in
                get_or_append_left half half 0 (0 + k) (omega arith) ∙ ap (λ j. get_or half j 0) place
            | inr after ↦
                let place : 0 + k - 16 ≡ k % 16 = omega arith in
                get_or-append_right half half 16 (0 + k) 0 p (omega arith) ∙ ap (λ j. get_or half j 0) place
          ]);
    }

-- the last 16 lanes of a vector of 32
pub lanes_of_back : (lanes : List ℕ) → length lanes ≡ 32
    → HasLanes (pick_l 0 (lanes ++ lanes) (range_with_len 16 16)) (λ k. get_or lanes (16 + k) 0)
lanes_of_back lanes p =
    let picked = pick_l-range_with_len 0 (lanes ++ lanes) 16 16 (omega (arith, length-append lanes lanes)) in
    record {
      long = ap length picked ∙ length-chunk 16 16 (lanes ++ lanes) (omega (arith, length-append lanes lanes));
      each = λ k below.
          ap (λ l. get_or l k 0) picked ∙ (get_or-chunk 16 16 (lanes ++ lanes) k 0 below
          ∙ get_or_append_left lanes lanes 0 (16 + k) (omega arith));
    }

-- bytes up to an end, and zeros behind them
byte_of_rest : (haystack rest zeros : List ℕ) (at end : ℕ) → at ≤ end → end ≤ length haystack
    → rest ≡ slice_range haystack at end → zeros ≡ drop (end - at) (replicate 16 0) → length rest ≡ end - at
    → (k : ℕ) → k < 16 → get_or (rest ++ zeros) k 0 ≡ get_or (take end haystack) (at + k) 0
byte_of_rest haystack rest zeros at end ordered inside is_rest is_zeros long k below = elim (cases_lt k (end - at)) [
  | inl before ↦
      get_or_append_left rest zeros 0 k (omega arith)
      ∙ (ap (λ l. get_or l k 0) is_rest
      ∙ (get_or-take (end - at) (drop at haystack) k 0 before
      ∙ (get_or-drop at haystack k 0 ∙ sym (get_or-take end haystack (at + k) 0 (omega arith)))))
  | inr after ↦
      let place : end - at + (k - (end - at)) ≡ k = omega arith in
      get_or-append_right rest zeros (end - at) k 0 long after
      ∙ (ap (λ l. get_or l (k - (end - at)) 0) is_zeros
      ∙ (get_or-drop (end - at) (replicate {A = ℕ} 16 0) (k - (end - at)) 0
      ∙ (ap (λ j. get_or (replicate {A = ℕ} 16 0) j 0) place
      ∙ (get_or-replicate 16 k 0 0 below
      ∙ sym (get_or_past (take end haystack) (at + k) 0 (omega (arith, length-take end haystack)))))))
]

pub lanes_of_rest : (haystack : List ℕ) (at end : ℕ) → at ≤ end → end < at + 16 → end ≤ length haystack
    → HasLanes (chunk 0 16 (slice_range haystack at end ++ drop (end - at) (replicate {A = ℕ} 16 0)))
    (λ k. get_or (take end haystack) (at + k) 0)
lanes_of_rest haystack at end ordered few inside =
    let rest : List ℕ = slice_range haystack at end in
    let zeros : List ℕ = drop (end - at) (replicate {A = ℕ} 16 0) in
    let long : length rest ≡ end - at =
    omega (arith, length-take (end - at) (drop at haystack), length-drop at haystack) in
    let all : length (rest ++ zeros) ≡ 16 =
    omega (arith, length-append rest zeros, length-drop (end - at) (replicate {A = ℕ} 16 0)) in
    record {
      long = length-chunk 0 16 (rest ++ zeros) (omega arith);
      each = λ k below.
          get_or-chunk 0 16 (rest ++ zeros) k 0 below
          ∙ ap (λ j. get_or (rest ++ zeros) j 0) (zero-add k)
          ∙ byte_of_rest haystack rest zeros at end ordered inside refl refl long k below;
    }

-- bytes before the end are the same in what lies before it
pub lanes_upto : {n : ℕ} → (haystack : List ℕ) (end at : ℕ) → at + n ≤ end → (lanes : List ℕ)
    → AreLanes n lanes (λ k. get_or haystack (at + k) 0)
    → AreLanes n lanes (λ k. get_or (take end haystack) (at + k) 0)
lanes_upto haystack end at inside lanes has = record {
  long = has.long;
  each = λ k below. has.each k below ∙ sym (get_or-take end haystack (at + k) 0 (omega arith));
}

-- an operator on two vectors
pub lanes_of_two : {n : ℕ} → (f : ℕ → ℕ → ℕ) (a b : List ℕ) → length a ≡ n → length b ≡ n
    → AreLanes n (zip2 f a b) (λ k. f (get_or a k 0) (get_or b k 0))
lanes_of_two f a b p q = record {
  long = length-zip2 f a b (p ∙ sym q) ∙ p;
  each = λ k below. get_or-zip2 f a b k 0 0 0 (omega arith) (omega arith);
}

-- an operator on a vector and one byte
pub lanes_of_splat : {n : ℕ} → (f : ℕ → ℕ → ℕ) (a : List ℕ) (x : ℕ) → length a ≡ n
    → AreLanes n (zip2 f a (replicate n x)) (λ k. f (get_or a k 0) x)
lanes_of_splat {n} f a x p =
    let two = lanes_of_two f a (replicate n x) p (length-replicate n x) in
    record {
      long = two.long;
      each = λ k below. two.each k below ∙ ap (f (get_or a k 0)) (get_or-replicate n k x 0 below);
    }

-- one of two bytes, by a test of each lane with a third
pub lanes_of_choice : (n : ℕ) (t : ℕ → ℕ → Bool) (a : List ℕ) (x y z : ℕ) → length a ≡ n
    → AreLanes n (sel_l (zip2 t a (replicate n x)) (replicate n y) (replicate n z))
    (λ k. cond (t (get_or a k 0) x) y z)
lanes_of_choice n t a x y z p =
    let tests = zip2 t a (replicate n x) in
    let same : length a ≡ length (replicate {A = ℕ} n x) = p ∙ sym (length-replicate n x) in
    let long : length tests ≡ n = length-zip2 t a (replicate n x) same ∙ p in
    let ones : length tests ≡ length (replicate {A = ℕ} n y) = long ∙ sym (length-replicate n y) in
    let twos : length tests ≡ length (replicate {A = ℕ} n z) = long ∙ sym (length-replicate n z) in
    record {
      long = length-sel_l tests (replicate n y) (replicate n z) ones twos ∙ long;
      each = λ k below.
          let test : get_or tests k false ≡ t (get_or a k 0) x =
          get_or-zip2 t a (replicate n x) k 0 0 false (omega arith) (omega (arith, length-replicate n x))
          ∙ ap (t (get_or a k 0)) (get_or-replicate n k x 0 below) in
          get_or-sel_l tests (replicate n y) (replicate n z) k 0 (omega arith) (omega (arith, length-replicate n y))
          (omega (arith, length-replicate n z))
          ∙ (ap (λ b. cond b (get_or (replicate n y) k 0) (get_or (replicate n z) k 0)) test
          ∙ (ap (λ m. cond (t (get_or a k 0) x) m (get_or (replicate n z) k 0)) (get_or-replicate n k y 0 below)
          ∙ ap (cond (t (get_or a k 0) x) y) (get_or-replicate n k z 0 below)));
    }

-- lanes that begin at the same place, by another sum
pub lanes_from : {w : ℕ} → (lanes : List ℕ) (f : ℕ → ℕ) (m n : ℕ) → m ≡ n → AreLanes w lanes (λ k. f (m + k))
    → AreLanes w lanes (λ k. f (n + k))
lanes_from {w} lanes f m n same has = subst (λ j. AreLanes w lanes (λ k. f (j + k))) same has

module _ (js : List ℕ) (f : ℕ → ℕ) (lanes : HasWide js f) (small : (k : ℕ) → k < 32 → f k < 16) where
  -- positions in each half of a vector of 32
  pub wide_positions_fit : SwzOk w8 16 32 0 js
  wide_positions_fit =
      let long = lanes.long in
      SwzOk-from_below w8 16 2 32 0 js refl (omega arith)
      (Each1-from_get_or (λ j. j < 16) js 0
      (λ k l. let below : k < 32 = omega arith in omega (arith, lanes.each k below, small k below)))

  -- the entries there, if both halves are the same table
  pub wide_of_positions : (table twice : List ℕ) → HasWide twice (λ k. get_or (take 16 table) (k % 16) 0)
      → HasWide (swz_l w8 16 twice 0 js) (λ k. get_or table (f k) 0)
  wide_of_positions table twice has =
      let long = lanes.long in
      record {
        long = length-swz_l w8 16 twice 0 js ∙ long;
        each = λ k below.
            let is = lanes.each k below in
            let least = small k below in
            let at = 16 * ((0 + k) / 16) + get_or js k 0 in
            let inside : at < 32 = omega arith in
            let place : at % 16 ≡ f k = omega arith in
            get_or-swz_l_below w8 16 twice 0 js k (omega arith) (omega arith)
            ∙ (has.each at inside
            ∙ (ap (λ j. get_or (take 16 table) j 0) place ∙ get_or-take 16 table (f k) 0 least));
      }

unset_is : (x : ℕ) → not (not (eqb x 0)) ≡ true → x ≡ 0
unset_is x e = grind (arith, nat_tests)

set_not : (x : ℕ) → not (not (eqb x 0)) ≡ false → x ≢ 0
set_not x e none = grind (arith, nat_tests)

abbrev pub set_lanes : ℕ → List ℕ → ℕ
set_lanes n lanes = mask_l (map (top 7) (zip2 (λ a b. cond (not (eqb a b)) 255 0) lanes (replicate n 0))) % 2 ^ 64

module _ (n : ℕ) (few : n ≤ 64) (lanes : List ℕ) (long : length lanes ≡ n) where
  set_is : set_lanes n lanes ≡ mask_l (map (λ x. not (eqb x 0)) lanes)
  set_is = bitmask_splat w8 (λ a b. not (eqb a b)) lanes n 0 long few

  in_front : (m : ℕ) → m ≤ prefix_len (λ x. not (not (eqb x 0))) lanes → (k : ℕ) → k < m → get_or lanes k 0 ≡ 0
  in_front m short k below =
      unset_is _ (prefix_len_passes (λ x. not (not (eqb x 0))) lanes k 0 (omega arith))

  pub none_set : set_lanes n lanes ≡ 0 → (k : ℕ) → k < n → get_or lanes k 0 ≡ 0
  none_set none = in_front n (omega (arith, leading_from_mask_l (λ x. not (eqb x 0)) lanes (sym set_is ∙ none)))

  first_is : set_lanes n lanes ≢ 0
      → count_trailing_zeros 64 (set_lanes n lanes) ≡ prefix_len (λ x. not (not (eqb x 0))) lanes
  first_is some =
      ap (count_trailing_zeros 64) set_is
      ∙ trailing_mask_l (λ x. not (eqb x 0)) 64 lanes (omega arith) (omega (arith, set_is))

  pub first_few : set_lanes n lanes ≢ 0 → count_trailing_zeros 64 (set_lanes n lanes) ≤ n
  first_few some = omega (arith, first_is some, prefix_len-le-length (λ x. not (not (eqb x 0))) lanes)

  pub first_zeros : set_lanes n lanes ≢ 0 → (k : ℕ) → k < count_trailing_zeros 64 (set_lanes n lanes)
      → get_or lanes k 0 ≡ 0
  first_zeros some = in_front (count_trailing_zeros 64 (set_lanes n lanes)) (omega (arith, first_is some))

  pub first_stops : set_lanes n lanes ≢ 0 → count_trailing_zeros 64 (set_lanes n lanes) < n
      → get_or lanes (count_trailing_zeros 64 (set_lanes n lanes)) 0 ≢ 0
  first_stops some below none =
      let m = prefix_len (λ x. not (not (eqb x 0))) lanes in
      let here : get_or lanes m 0 ≡ 0 = ap (λ k. get_or lanes k 0) (sym (first_is some)) ∙ none in
      let stops = prefix_len_stops (λ x. not (not (eqb x 0))) lanes 0 (omega (arith, first_is some)) in
      set_not (get_or lanes m 0) stops here

place_of : ℕ → ℕ
place_of j = cond (ltb j 16) j 255

places_are : (j : ℕ) → j < 32 → get_or PLACES j 0 ≡ place_of j
unfolding place_of
places_are j below = get_or-map-range_with_len place_of 0 32 j j 0 below (omega arith)

small : (j : ℕ) → j < 16 → zeroes 16 w8 j ≡ false
small j below = lt-leb 128 j (omega arith)

-- a place is a lane, or gives 0
place_is : (j : ℕ) → T (zeroes 16 w8 (place_of j) || ltb (place_of j) 16)
unfolding place_of
place_is j = elim (cases_lt j 16) [
  | inl below ↦ subst (λ t. T (zeroes 16 w8 (cond t j 255) || ltb (cond t j 255) 16)) (sym (lt-ltb j 16 below))
      (subst (λ t. T (zeroes 16 w8 j || t)) (sym (lt-ltb j 16 below)) (grind arith))
  | inr not ↦ subst (λ t. T (zeroes 16 w8 (cond t j 255) || ltb (cond t j 255) 16)) (sym (le-ltb j 16 not)) tt
]

module _ (n : ℕ) (few : n ≤ 16) where
  -- the places from one on
  abbrev pub places_from : List ℕ
  places_from = chunk 0 16 (slice_range PLACES n 32)

  places_long : length places_from ≡ 16
  places_long = length-chunk 0 16 (slice_range PLACES n 32)
      (omega (arith, length-take (32 - n) (drop n PLACES), length-drop n PLACES))

  place_at : (k : ℕ) → k < 16 → get_or places_from k 0 ≡ place_of (n + k)
  place_at k below =
      get_or-chunk 0 16 (slice_range PLACES n 32) k 0 below
      ∙ (ap (λ j. get_or (slice_range PLACES n 32) j 0) (zero-add k)
      ∙ (get_or-take (32 - n) (drop n PLACES) k 0 (omega arith)
      ∙ (get_or-drop n PLACES k 0 ∙ places_are (n + k) (omega arith))))

  pub places_fit : SwzOk w8 16 16 0 places_from
  places_fit = SwzOk-from_Each1 w8 16 1 16 0 places_from (omega arith) (omega (arith, places_long))
      (Each1-from_get_or (λ j. T (zeroes 16 w8 j || ltb j 16)) places_from 0
      (λ k below. subst (λ j. T (zeroes 16 w8 j || ltb j 16)) (sym (place_at k (omega (arith, places_long))))
      (place_is (n + k))))

  -- the lanes from one on, followed by zeros
  pub lanes_after : (lanes : List ℕ) → length lanes ≡ 16
      → HasLanes (swz_l w8 16 lanes 0 places_from) (λ k. get_or lanes (n + k) 0)
  unfolding place_of
  lanes_after lanes long = record {
    long = length-swz_l w8 16 lanes 0 places_from ∙ places_long;
    each = λ k below.
        get_or-swz_l w8 16 lanes 0 places_from k (omega (arith, places_long))
        ∙ (ap (λ j. cond (zeroes 16 w8 j) 0 (get_or lanes (16 * ((0 + k) / 16) + j) 0)) (place_at k below)
        ∙ elim (cases_lt (n + k) 16) [
          | inl before ↦
              ap (λ t. cond (zeroes 16 w8 (cond t (n + k) 255)) 0
              (get_or lanes (16 * ((0 + k) / 16) + cond t (n + k) 255) 0)) (lt-ltb (n + k) 16 before)
              ∙ (ap (λ t. cond t 0 (get_or lanes (16 * ((0 + k) / 16) + (n + k)) 0)) (small (n + k) before)
              ∙ ap (λ j. get_or lanes j 0) (omega arith))
          | inr not ↦
              ap (λ t. cond (zeroes 16 w8 (cond t (n + k) 255)) 0
              (get_or lanes (16 * ((0 + k) / 16) + cond t (n + k) 255) 0)) (le-ltb (n + k) 16 not)
              ∙ sym (get_or_past lanes (n + k) 0 (omega (arith, long)))
        ]);
  }

-- the last 16 bytes before an end, without those before an offset
pub rest_of_last : (haystack : List ℕ) (at end : ℕ) → at ≤ end → end < at + 16 → 16 ≤ end → end ≤ length haystack
    → (last lanes : List ℕ) → last ≡ chunk (end - 16) 16 haystack
    → HasLanes lanes (λ k. get_or last (16 - (end - at) + k) 0)
    → HasLanes lanes (λ k. get_or (take end haystack) (at + k) 0)
rest_of_last haystack at end ordered few enough inside last lanes is has = record {
  long = has.long;
  each = λ k below.
      let n = 16 - (end - at) in
      let place : end - 16 + (n + k) ≡ at + k = omega arith in
      has.each k below
      ∙ (ap (λ l. get_or l (n + k) 0) is
      ∙ elim (cases_lt (n + k) 16) [
        | inl before ↦
            get_or-chunk (end - 16) 16 haystack (n + k) 0 before
            ∙ (ap (λ j. get_or haystack j 0) place ∙ sym (get_or-take end haystack (at + k) 0 (omega arith)))
        | inr not ↦
            get_or_past (chunk (end - 16) 16 haystack) (n + k) 0
            (omega (arith, length-chunk (end - 16) 16 haystack (omega arith)))
            ∙ sym (get_or_past (take end haystack) (at + k) 0 (omega (arith, length-take end haystack)))
      ]);
}
