-- Places at which a haystack has no pair of bytes.
use Rattle.std.proofs.Common.{◌≡◌, ◌≢◌, ℕ, ◌+◌, ◌-◌, ◌%◌, ◌<◌, ◌≤◌, ◌∙◌, List, ap, arith, bit_and, bit_or, cond}
use Rattle.std.proofs.Common.{[], Bool, eqb, false, get_or, inl, inr, ltb, min, refl, subst, sym, take, true}
use Rattle.std.proofs.lemmas.List.{get_or-take}
use Rattle.std.proofs.lemmas.Bool.{cases_lt, eq-eqb, eqb-true, le-ltb, lt-ltb}
use Rattle.std.proofs.lemmas.Bool.Decides.{nat_tests}
use Rattle.std.specs.Int.Bits.{and_zero_l, and_zero_r}
use Rattle.literal_base.specs.Occurs.{IsValidSpan}
use Rattle.literal_base.specs.declared.search.Span.{Span}
use Rattle.literal_fingerprints.specs.RarePairs.{HasBytes, HasPair, HasPairOfEarlier, NoPairBegins, first_offset}
use Rattle.literal_fingerprints.specs.RarePairs.{has_between}
use Rattle.literal_fingerprints.specs.declared.pair.RarePair.{RarePair}
use Rattle.literal_fingerprints.specs.Inside.Hits.{NoneHit, hit, hit_from, pair_hit, with_between}
use Rattle.literal_fingerprints.specs.Inside.Lanes.{AreLanes, HasBack, HasLanes, HasWide}
use Rattle.literal_base.proofs.lemmas.Callers.{bytes_at}
use Rattle.literal_fingerprints.proofs.lemmas.Sets.{meets}

abbrev lane_of : Bool → ℕ
lane_of t = cond t 255 0

set_by : (t : Bool) → lane_of t ≢ 0 → t ≡ true
set_by true some = refl
set_by false some = absurd (some refl)

-- a byte that is hit is the rare one
pub is_hit : (rare mask byte : ℕ) → hit rare mask byte ≢ 0 → bit_or byte mask ≡ rare
is_hit rare mask byte some = eqb-true _ _ (set_by (eqb (bit_or byte mask) rare) some)

-- and the rare one is hit
pub hits : (rare mask byte : ℕ) → bit_or byte mask ≡ rare → hit rare mask byte ≡ 255
hits rare mask byte is = ap lane_of (eq-eqb _ _ is)

some_of : (a b : ℕ) → bit_and a b ≢ 0 → (a ≢ 0) × (b ≢ 0)
some_of a b some = (
  λ none. some (ap (λ x. bit_and x b) none ∙ and_zero_l b),
  λ none. some (ap (bit_and a) none ∙ and_zero_r a),
)

ends_of : (three : Bool) (a b : ℕ) → with_between three a b ≢ 0 → a ≢ 0
ends_of true a b some = (some_of a b some).0
ends_of false a b some = some

between_of : (three : Bool) (a b : ℕ) → with_between three a b ≢ 0 → three ≡ true → b ≢ 0
between_of true a b some is = (some_of a b some).1
between_of false a b some is = absurd (cc is)

all_hit : (three : Bool) (a b c : ℕ) → a ≡ 255 → c ≡ 255 → (three ≡ true → b ≡ 255)
    → with_between three (bit_and a c) b ≡ 255
all_hit true a b c first second between =
    meets (bit_and a c) b 255 255 (meets a c 255 255 first second) (between refl)
all_hit false a b c first second between = meets a c 255 255 first second

pub far_by : (pair : RarePair) → has_between pair ≡ true → 2 ≤ pair.apart
far_by pair known = grind (arith, nat_tests)

pub some_by : (pair : RarePair) → has_between pair ≡ true → pair.between ≢ 0
some_by pair known none = grind (arith, nat_tests)

-- hits are 255 or 0
all_bits : (three a b c : Bool)
    → bit_and (with_between three (bit_and (lane_of a) (lane_of b)) (lane_of c)) 255
    ≡ with_between three (bit_and (lane_of a) (lane_of b)) (lane_of c)
all_bits true true true true = refl
all_bits true true true false = refl
all_bits true true false true = refl
all_bits true true false false = refl
all_bits true false true true = refl
all_bits true false true false = refl
all_bits true false false true = refl
all_bits true false false false = refl
all_bits false true true c = refl
all_bits false true false c = refl
all_bits false false true c = refl
all_bits false false false c = refl

-- lanes with equal values
pub same_lanes : (n : ℕ) (lanes : List ℕ) (f g : ℕ → ℕ) → AreLanes n lanes f → ((k : ℕ) → k < n → f k ≡ g k)
    → AreLanes n lanes g
same_lanes n lanes f g has same = record { long = has.long; each = λ k below. has.each k below ∙ same k below }

module _ (pair : RarePair) (first_mask second_mask : ℕ) where
  -- the hits of a text are those of the haystack, if the compared bytes are the same
  same_hit : (three : Bool) (apart : ℕ) (haystack : List ℕ) (text : ℕ → ℕ) (k : ℕ) → text 0 ≡ get_or haystack k 0
      → text apart ≡ get_or haystack (k + apart) 0 → (three ≡ true → text 1 ≡ get_or haystack (k + 1) 0)
      → pair_hit pair first_mask second_mask three apart text
      ≡ hit_from pair first_mask second_mask three apart haystack k
  same_hit true apart haystack text k first second between =
      meets _ _ _ _
      (meets _ _ _ _ (ap (hit pair.first.byte first_mask) first) (ap (hit pair.second.byte second_mask) second))
      (ap (hit pair.between first_mask) (between refl))
  same_hit false apart haystack text k first second between =
      meets _ _ _ _ (ap (hit pair.first.byte first_mask) first) (ap (hit pair.second.byte second_mask) second)

  module _ (three : Bool) (apart : ℕ) (haystack : List ℕ) (origin : ℕ) where
    abbrev NoneBefore : ℕ → Type 0
    NoneBefore = NoneHit pair first_mask second_mask three apart haystack origin

    -- the lanes of the vector at an offset have the hits of the pairs of which the second byte is there
    abbrev pub PairLanes : ℕ → List ℕ → ℕ → Type 0
    PairLanes width lanes at = (k : ℕ) → k < width → origin + apart ≤ at + k
        → get_or lanes k 0 ≡ hit_from pair first_mask second_mask three apart haystack (at + k - apart)

    pub lanes_at : apart ≤ 3 → (width at : ℕ) (lanes : List ℕ) → origin + 16 ≤ at
        → AreLanes width lanes (λ k. pair_hit pair first_mask second_mask three apart
        (λ j. get_or haystack (at + (16 - apart + k + j) - 16) 0)) → PairLanes width lanes at
    lanes_at few width at lanes after has k below far =
        let byte = λ (n : ℕ). get_or haystack n 0 in
        let first : at + (16 - apart + k + 0) - 16 ≡ at + k - apart = omega (arith, few) in
        let second : at + (16 - apart + k + apart) - 16 ≡ at + k - apart + apart = omega (arith, few) in
        let between : at + (16 - apart + k + 1) - 16 ≡ at + k - apart + 1 = omega (arith, few) in
        has.each k below
        ∙ same_hit three apart haystack (λ j. byte (at + (16 - apart + k + j) - 16)) (at + k - apart) (ap byte first)
        (ap byte second) (λ _. ap byte between)

    -- the bytes of the first vector, twice, without what is compared with the first of them
    module _ (few : apart ≤ 3) (wide : three ≡ true → 2 ≤ apart) (lanes all : List ℕ)
        (has : HasLanes lanes (λ k. pair_hit pair first_mask second_mask three apart
        (λ j. get_or haystack (origin + (16 - apart + k + j) % 16) 0)))
        (later : HasLanes all (λ k. cond (ltb k apart) 0 (bit_and (get_or lanes k 0) 255)))
      where
        pub first_far : (n : ℕ) → n < 16 → get_or all n 0 ≢ 0 → apart ≤ n
        first_far n below some = elim (cases_lt n apart) [
          | inl before ↦ absurd (some (later.each n below
              ∙ ap (λ t. cond t 0 (bit_and (get_or lanes n 0) 255)) (lt-ltb n apart before)))
          | inr after ↦ after
        ]

        pub first_lanes : PairLanes 16 all origin
        first_lanes k below far =
            let byte = λ (n : ℕ). get_or haystack n 0 in
            let first : origin + (16 - apart + k + 0) % 16 ≡ origin + k - apart = omega (arith, few) in
            let second : origin + (16 - apart + k + apart) % 16 ≡ origin + k - apart + apart = omega (arith, few) in
            let same = same_hit three apart haystack
            (λ j. get_or haystack (origin + (16 - apart + k + j) % 16) 0) (origin + k - apart) (ap byte first)
            (ap byte second)
            (λ is. ap byte (omega (arith, few, wide is))) in
            later.each k below
            ∙ (ap (λ t. cond t 0 (bit_and (get_or lanes k 0) 255)) (le-ltb k apart (omega arith))
            ∙ (ap (λ n. bit_and n 255) (has.each k below ∙ same) ∙ all_bits three _ _ _))

    module _ (width at : ℕ) (lanes : List ℕ) (has : PairLanes width lanes at) (after : origin ≤ at) where
      -- more offsets at which there is none
      pub none_more : (n : ℕ) → n ≤ width → ((k : ℕ) → k < n → get_or lanes k 0 ≡ 0) → NoneBefore at
          → NoneBefore (at + n)
      none_more n within zero old k later below = elim (cases_lt (k + apart) at) [
        | inl before ↦ old k later before
        | inr not ↦
            let lane = k + apart - at in
            let same : at + lane - apart ≡ k = omega arith in
            ap (hit_from pair first_mask second_mask three apart haystack) (sym same)
            ∙ (sym (has lane (omega arith) (omega arith)) ∙ zero lane (omega arith))
      ]

      pub is_pair : (n : ℕ) → n < width → get_or lanes n 0 ≢ 0 → (k : ℕ) → origin ≤ k → k + apart ≡ at + n
          → hit_from pair first_mask second_mask three apart haystack k ≢ 0
      is_pair n below stops k after place none =
          let same : at + n - apart ≡ k = omega arith in
          stops (has n below (omega arith)
          ∙ (ap (hit_from pair first_mask second_mask three apart haystack) same ∙ none))

module _ (pair : RarePair) (first_mask second_mask : ℕ) (three : Bool) (apart offset : ℕ)
    (is_first : first_mask ≡ pair.first.mask) (is_second : second_mask ≡ pair.second.mask)
    (is_three : three ≡ has_between pair) (is_apart : apart ≡ min pair.apart 3) (is_offset : offset ≡ min pair.offset 2)
    (haystack : List ℕ)
  where
    pub few : apart ≤ 3
    few = omega arith

    pub wide : three ≡ true → 2 ≤ apart
    wide known = omega (arith, far_by pair (sym is_three ∙ known))

    abbrev HitAt : ℕ → ℕ
    HitAt = hit_from pair first_mask second_mask three apart haystack

    -- the lanes of the first vector, and where they may be set
    pub first_vector : (start : ℕ) (here pairs later : List ℕ) → HasLanes here (λ k. get_or haystack (start + k) 0)
        → ((bytes : ℕ → ℕ) → HasLanes here bytes → HasLanes here (λ k. bytes (16 + k))
        → HasLanes pairs (λ k. pair_hit pair first_mask second_mask three apart (λ j. bytes (16 - apart + k + j))))
        → HasLanes later (λ k. cond (ltb k apart) 0 (bit_and (get_or pairs k 0) 255))
        → PairLanes pair first_mask second_mask three apart haystack start 16 later start
        × ((n : ℕ) → n < 16 → get_or later n 0 ≢ 0 → apart ≤ n)
    first_vector start here pairs later has paired without =
        let byte = λ (n : ℕ). get_or haystack n 0 in
        let hits = paired (λ k. byte (start + k % 16))
        (same_lanes 16 here _ _ has (λ k below. ap byte (omega arith)))
        (same_lanes 16 here _ _ has (λ k below. ap byte (omega arith))) in (
          first_lanes pair first_mask second_mask three apart haystack start few wide pairs later hits without,
          first_far pair first_mask second_mask three apart haystack start few wide pairs later hits without,
        )

    -- the lanes of later vectors
    pub later_vector : (start at : ℕ) (before here pairs : List ℕ) → start + 16 ≤ at
        → HasLanes before (λ k. get_or haystack (at + k - 16) 0) → HasLanes here (λ k. get_or haystack (at + k) 0)
        → ((bytes : ℕ → ℕ) → HasLanes before bytes → HasLanes here (λ k. bytes (16 + k))
        → HasLanes pairs (λ k. pair_hit pair first_mask second_mask three apart (λ j. bytes (16 - apart + k + j))))
        → PairLanes pair first_mask second_mask three apart haystack start 16 pairs at
    later_vector start at before here pairs after old new paired =
        let byte = λ (n : ℕ). get_or haystack n 0 in
        lanes_at pair first_mask second_mask three apart haystack start few 16 at pairs after
        (paired (λ k. byte (at + k - 16)) old (same_lanes 16 here _ _ new (λ k below. ap byte (omega arith))))

    pub wide_vector : (start at : ℕ) (before here pairs : List ℕ) → start + 16 ≤ at
        → HasBack before (λ k. get_or haystack (at + k - 16) 0) → HasWide here (λ k. get_or haystack (at + k) 0)
        → ((bytes : ℕ → ℕ) → HasBack before bytes → HasWide here (λ k. bytes (16 + k))
        → HasWide pairs (λ k. pair_hit pair first_mask second_mask three apart (λ j. bytes (16 - apart + k + j))))
        → PairLanes pair first_mask second_mask three apart haystack start 32 pairs at
    wide_vector start at before here pairs after old new paired =
        let byte = λ (n : ℕ). get_or haystack n 0 in
        lanes_at pair first_mask second_mask three apart haystack start few 32 at pairs after
        (paired (λ k. byte (at + k - 16)) old (same_lanes 32 here _ _ new (λ k below. ap byte (omega arith))))

    -- no pattern with the pair begins where the haystack has no pair that lies in the span
    pub no_pair_begins : (span : Span) → IsValidSpan haystack span → (place : ℕ)
        → ((p : ℕ) → span.start ≤ p → p < place → p + (offset + apart) < span.end → HitAt (p + offset) ≡ 0)
        → NoPairBegins pair haystack span place
    no_pair_begins span valid place none patterns ignore_case all i begin before occurs =
        let is = all i [] occurs.is_pattern in
        let bytes = bytes_at patterns ignore_case haystack span valid i begin occurs in
        let inside = is.inside in
        let after = occurs.after_start in
        let own = first_offset pair in
        let at = begin + offset in
        let byte = λ (k : ℕ). get_or haystack k 0 in
        let here : begin + own ≡ at = omega (arith, is_offset) in
        let next : begin + (own + 1) ≡ at + 1 = omega (arith, is_offset) in
        let there : begin + (own + min pair.apart 3) ≡ at + apart = omega (arith, is_offset, is_apart) in
        let first = hits pair.first.byte first_mask (byte at)
        (ap (bit_or (byte at)) is_first
        ∙ subst (λ j. bit_or (byte j) pair.first.mask ≡ pair.first.byte) here
        (is.first _ (bytes own (omega arith)))) in
        let second = hits pair.second.byte second_mask (byte (at + apart))
        (ap (bit_or (byte (at + apart))) is_second
        ∙ subst (λ j. bit_or (byte j) pair.second.mask ≡ pair.second.byte) there
        (is.second _ (bytes (own + min pair.apart 3) inside))) in
        let between : three ≡ true → hit pair.between first_mask (byte (at + 1)) ≡ 255 =
        λ known.
        let has : has_between pair ≡ true = sym is_three ∙ known in
        let far = far_by pair has in
        hits pair.between first_mask (byte (at + 1))
        (ap (bit_or (byte (at + 1))) is_first
        ∙ subst (λ j. bit_or (byte j) pair.first.mask ≡ pair.between) next
        (is.between _ (bytes (own + 1) (omega arith)) has)) in
        absurd (omega (
          arith,
          sym (all_hit three _ _ _ first second between) ∙ none begin after before (omega (
            arith,
            occurs.before_end,
            is_offset,
            is_apart,
          )),
        ))

    -- none begins before a place, if no lane is set before one after the place's pair
    pub none_upto : (span : Span) → IsValidSpan haystack span → (width at : ℕ) (lanes : List ℕ)
        → PairLanes pair first_mask second_mask three apart haystack span.start width lanes at → span.start ≤ at
        → NoneHit pair first_mask second_mask three apart haystack span.start at → (n place : ℕ) → n ≤ width
        → ((k : ℕ) → k < n → get_or lanes k 0 ≡ 0)
        → ((p : ℕ) → span.start ≤ p → p < place → p + (offset + apart) < span.end → p + (offset + apart) < at + n)
        → NoPairBegins pair haystack span place
    none_upto span valid width at lanes has after old n place within zero low =
        let none = none_more pair first_mask second_mask three apart haystack span.start width at lanes has after n
        within zero old in
        no_pair_begins span valid place
        (λ p later before inside. none (p + offset) (omega (arith, later)) (omega (arith, low p later before inside)))

    -- where none is of which the second byte lies before a place
    pub none_by : (start at place : ℕ) → ((p : ℕ) → start ≤ p → p < place → p + (offset + apart) < at)
        → NoneHit pair first_mask second_mask three apart haystack start at → (p : ℕ) → start ≤ p → p < place
        → HitAt (p + offset) ≡ 0
    none_by start at place low none p after before =
        none (p + offset) (omega arith) (omega (arith, low p after before))

    has_bytes : (k : ℕ) → HitAt k ≢ 0 → HasBytes pair haystack k
    has_bytes k some =
        let byte = λ (j : ℕ). get_or haystack j 0 in
        let ends = some_of _ _ (ends_of three _ _ some) in (
          ap (bit_or (byte k)) (sym is_first) ∙ is_hit pair.first.byte first_mask (byte k) ends.0,
          λ known.
              ap (bit_or (byte (k + 1))) (sym is_first)
              ∙ is_hit pair.between first_mask (byte (k + 1)) (between_of three _ _ some (is_three ∙ known)),
          subst (λ d. bit_or (byte (k + d)) pair.second.mask ≡ pair.second.byte) is_apart
              (ap (bit_or (byte (k + apart))) (sym is_second)
              ∙ is_hit pair.second.byte second_mask (byte (k + apart)) ends.1),
        )

    -- where a lane is set, the haystack has the pair, if it lies behind the start
    pub has_pair : (start width at : ℕ) (lanes : List ℕ)
        → PairLanes pair first_mask second_mask three apart haystack start width lanes at → start ≤ at → (n : ℕ)
        → n < width → get_or lanes n 0 ≢ 0 → start + offset + apart ≤ at + n
        → HasPair pair haystack (at + n - (offset + apart))
    has_pair start width at lanes has after n below stops low =
        let k = at + n - (offset + apart) + first_offset pair in
        has_bytes k (is_pair pair first_mask second_mask three apart haystack start width at lanes has after n
        below stops k (omega (arith, is_offset)) (omega (arith, is_offset)))

    -- and where the pattern would begin before the start, the pair is one of an earlier pattern
    pub has_earlier : (start width : ℕ) (lanes : List ℕ)
        → PairLanes pair first_mask second_mask three apart haystack start width lanes start → (n : ℕ) → n < width
        → get_or lanes n 0 ≢ 0 → apart ≤ n → n < offset + apart → HasPairOfEarlier pair haystack start
    has_earlier start width lanes has n below stops inside low =
        let k = n - apart in (
          k,
          omega (arith, is_offset),
          has_bytes (start + k) (is_pair pair first_mask second_mask three apart haystack start width start lanes
              has (omega arith) n below stops (start + k) (omega arith) (omega arith)),
        )

    -- up to an end, the lanes of the bytes before it are those of the haystack
    hits_upto : (end k : ℕ) → k + apart < end
        → hit_from pair first_mask second_mask three apart (take end haystack) k ≡ HitAt k
    hits_upto end k below =
        let text = λ (j : ℕ). get_or (take end haystack) (k + j) 0 in
        let byte = λ (j : ℕ) (before : j < end). get_or-take end haystack j 0 before in
        let here : text 0 ≡ get_or (take end haystack) k 0 = ap (λ j. get_or (take end haystack) j 0) (omega arith) in
        sym (same_hit pair first_mask second_mask three apart (take end haystack) text k here refl (λ _. refl))
        ∙ same_hit pair first_mask second_mask three apart haystack text k (here ∙ byte k (omega arith))
        (byte (k + apart) below) (λ known. byte (k + 1) (omega (arith, wide known)))

    pub lanes_upto_end : (start at end : ℕ) (lanes : List ℕ) → end ≤ at + 16
        → PairLanes pair first_mask second_mask three apart (take end haystack) start 16 lanes at
        → PairLanes pair first_mask second_mask three apart haystack start (end - at) lanes at
    lanes_upto_end start at end lanes few has k below far =
        has k (omega arith) far ∙ hits_upto end (at + k - apart) (omega arith)
