-- The trails of four walks through the parts of a block.
use Rattle.std.proofs.Common.{◌≡◌, ℕ, ◌+◌, ◌*◌, ◌<◌, ◌≤◌, ◌^◌, ◌%◌, ◌-◌, ◌∙◌, List, ap, arith, bit_or, false, inl, inr}
use Rattle.std.proofs.Common.{leb, length, slice_index, subst, sym}
use Rattle.std.proofs.lemmas.Bool.{cases_lt, leb-false}
use Rattle.std.proofs.lemmas.Nat.{le_or_l, le_or_r}
use Rattle.literal_base.specs.declared.search.Span.{Span}
use Rattle.literal_leftmost.specs.Inside.Backward.{NoneFrom, back_tables_by}
use Rattle.literal_leftmost.specs.Inside.Leftmost.{AreLanes, AreSteps, HaveRows, HoldAfter, IsLane, IsLimit, IsStep}
use Rattle.literal_leftmost.specs.Inside.Trail.{AreShortCells, HaveCrossed, IsShortCell}
use Rattle.literal_leftmost.specs.Prepared.{BackTables}
use Rattle.literal_leftmost.specs.SearchValue.{SearchValue}
use Rattle.literal_leftmost.specs.declared.backward.Backward.{Backward}
use Rattle.literal_leftmost.specs.declared.lanes.Lanes.{Lanes}
use Rattle.literal_leftmost.proofs.lemmas.Leftmost.{held_in_four, none_more, set_four}

-- a walk reads one number more
one_crossed : (p : BackTables) (haystack : List ℕ) (span : Span) (end at next upto code read : ℕ) → at < end
    → next ≡ at + 1 → IsStep p haystack span end at code → (read < 2 ^ 31 → NoneFrom p haystack span.end next upto)
    → bit_or read code < 2 ^ 31 → NoneFrom p haystack span.end at upto
one_crossed p haystack span end at next upto code read before next_is step so_far small =
    none_more p haystack span end at code before step upto next next_is (omega (arith, small, le_or_r read code))
    (so_far (omega (arith, small, le_or_l read code)))

-- so do four
pub four_crossed : (p : BackTables) (haystack : List ℕ) (span : Span) (at part step next upto : ℕ) (read codes : Lanes)
    → step < part → next ≡ step + 1 → AreSteps p haystack span at part step codes
    → HaveCrossed p haystack span.end at part next upto read
    → HaveCrossed p haystack span.end at part step upto (record {
      first = bit_or read.first codes.first;
      second = bit_or read.second codes.second;
      third = bit_or read.third codes.third;
      fourth = bit_or read.fourth codes.fourth;
    })
four_crossed p haystack span at part step next upto read codes before next_is steps so_far =
    let one = one_crossed p haystack span in
    record {
      first = one (at + part) (at + step) (at + next) (at + upto) codes.first read.first (omega (arith, before))
          (omega (arith, next_is)) steps.first so_far.first;
      second = one (at + 2 * part) (at + part + step) (at + part + next) (at + part + upto) codes.second read.second
          (omega (arith, before)) (omega (arith, next_is)) steps.second so_far.second;
      third = one (at + 3 * part) (at + 2 * part + step) (at + 2 * part + next) (at + 2 * part + upto) codes.third
          read.third (omega (arith, before)) (omega (arith, next_is)) steps.third so_far.third;
      fourth = one (at + 4 * part) (at + 3 * part + step) (at + 3 * part + next) (at + 3 * part + upto) codes.fourth
          read.fourth (omega (arith, before)) (omega (arith, next_is)) steps.fourth so_far.fourth;
    }

-- a walk that began far enough after an end began far enough after an earlier one
pub lane_near : (p : BackTables) (haystack : List ℕ) (span : Span) (end near at row : ℕ) → near ≤ end
    → IsLane p haystack span end at row → IsLane p haystack span near at row
lane_near p haystack span end near at row before lane = record {
  from = lane.from;
  after = lane.after;
  inside = lane.inside;
  far = elim lane.far [
    | inl all ↦ inl all
    | inr far ↦ inr (omega (arith, before, far))
  ];
  stands = lane.stands;
}

-- the number of a trail for the row of a walk and what it read
abbrev pub IsCellFor : ℕ → ℕ → ℕ → Type 0
IsCellFor row read cell = (cell % 2 ^ 31 ≡ row) × (cell < 2 ^ 31 → leb (2 ^ 31) read ≡ false)

-- is that for a step
short_cell : (p : BackTables) (haystack : List ℕ) (span : Span) (at i from upto end row cell read : ℕ)
    → from ≡ at + 128 * i → upto ≡ at + 128 * i + 128 → upto ≤ end → IsLane p haystack span end upto row
    → (read < 2 ^ 31 → NoneFrom p haystack span.end from upto) → IsCellFor row read cell
    → IsShortCell p haystack span at i cell
short_cell p haystack span at i from upto end row cell read from_is upto_is before lane none is =
    let to = at + 128 * i + 128 in
    let there = subst (λ n. IsLane p haystack span end n row) upto_is lane in
    record {
      lane = subst (IsLane p haystack span to to) (sym is.0)
          (lane_near p haystack span end to to row (omega (arith, before, upto_is)) there);
      none = λ small k after inside. none (leb-false (2 ^ 31) read (is.1 small)) k (omega (arith, after, from_is))
          (omega (arith, inside, upto_is));
    }

-- those of four walks are those for a step of each part
pub cells_in_four : (p : BackTables) (haystack : List ℕ) (span : Span) (at steps i next from left : ℕ)
    (cells : List ℕ) (lanes read codes : Lanes) → next ≡ i + 1 → next ≤ steps → from ≡ 128 * i → left ≡ 128 * i + 128
    → 4 * steps ≤ length cells → AreLanes p haystack span at (128 * steps) left lanes
    → HaveCrossed p haystack span.end at (128 * steps) from left read → IsCellFor lanes.first read.first codes.first
    → IsCellFor lanes.second read.second codes.second → IsCellFor lanes.third read.third codes.third
    → IsCellFor lanes.fourth read.fourth codes.fourth
    → HoldAfter (IsShortCell p haystack span at) cells 0 steps next
    → HoldAfter (IsShortCell p haystack span at) (set_four cells i steps codes) 0 steps i
cells_in_four p haystack span at steps i next from left cells lanes read codes next_is before from_is left_is room are
    none first second third fourth so_far =
    let part = 128 * steps in
    let one = short_cell p haystack span at in
    held_in_four (IsShortCell p haystack span at) 0 steps i next cells codes next_is before room
    (one (0 + i) (at + from) (at + left) (at + part) lanes.first codes.first read.first (omega (arith, from_is))
    (omega (arith, left_is)) (omega (arith, left_is, before, next_is)) are.first none.first first)
    (one (0 + steps + i) (at + part + from) (at + part + left) (at + 2 * part) lanes.second codes.second read.second
    (omega (arith, from_is)) (omega (arith, left_is)) (omega (arith, left_is, before, next_is)) are.second none.second
    second)
    (one (0 + 2 * steps + i) (at + 2 * part + from) (at + 2 * part + left) (at + 3 * part) lanes.third codes.third
    read.third (omega (arith, from_is)) (omega (arith, left_is)) (omega (arith, left_is, before, next_is)) are.third
    none.third third)
    (one (0 + 3 * steps + i) (at + 3 * part + from) (at + 3 * part + left) (at + 4 * part) lanes.fourth codes.fourth
    read.fourth (omega (arith, from_is)) (omega (arith, left_is)) (omega (arith, left_is, before, next_is)) are.fourth
    none.fourth fourth) so_far

-- the same walk at the same offset
lane_at : (p : BackTables) (haystack : List ℕ) (span : Span) (end at to row : ℕ) → end ≡ to → at ≡ to
    → IsLane p haystack span to to row → IsLane p haystack span end at row
lane_at p haystack span end at to row end_is at_is lane =
    subst (λ n. IsLane p haystack span n at row) (sym end_is)
    (subst (λ n. IsLane p haystack span to n row) (sym at_is) lane)

-- the rows to which four numbers lead
abbrev pub rows_of : Lanes → Lanes
rows_of codes = record {
  first = codes.first % 2 ^ 31;
  second = codes.second % 2 ^ 31;
  third = codes.third % 2 ^ 31;
  fourth = codes.fourth % 2 ^ 31;
}

-- four numbers of a list
abbrev pub four_of : List ℕ → ℕ → Lanes
four_of cells i = record {
  first = slice_index cells i;
  second = slice_index cells (i + 1);
  third = slice_index cells (i + 2);
  fourth = slice_index cells (i + 3);
}

module _ (p : BackTables) (haystack : List ℕ) (span : Span) (start steps i at : ℕ) (cells : List ℕ)
    (at_is : at ≡ start + 512 * i) (inside : 4 * i + 4 ≤ steps) (are : AreShortCells p haystack span start cells steps)
  where
    cell_at : (k : ℕ) → 4 * i ≤ k → k < 4 * i + 4 → IsShortCell p haystack span start k (slice_index cells k)
    cell_at k after before =
        let same : k - 0 ≡ k = omega arith in
        subst (λ n. IsShortCell p haystack span start k (slice_index cells n)) same
        (are k (omega arith) (omega (arith, before, inside)))

    -- from there four walks go on
    pub lanes_in_four : (codes rows : Lanes) → codes ≡ four_of cells (4 * i) → rows ≡ rows_of codes
        → AreLanes p haystack span at 128 128 rows
    lanes_in_four codes rows codes_are rows_are =
        subst (AreLanes p haystack span at 128 128) (sym (rows_are ∙ ap rows_of codes_are)) (record {
          first = lane_at p haystack span (at + 128) (at + 128) _ _ (omega (arith, at_is)) (omega (arith, at_is))
              (cell_at (4 * i) (omega arith) (omega arith)).lane;
          second = lane_at p haystack span (at + 2 * 128) (at + 128 + 128) _ _ (omega (arith, at_is))
              (omega (arith, at_is)) (cell_at (4 * i + 1) (omega arith) (omega arith)).lane;
          third = lane_at p haystack span (at + 3 * 128) (at + 2 * 128 + 128) _ _ (omega (arith, at_is))
              (omega (arith, at_is)) (cell_at (4 * i + 2) (omega arith) (omega arith)).lane;
          fourth = lane_at p haystack span (at + 4 * 128) (at + 3 * 128 + 128) _ _ (omega (arith, at_is))
              (omega (arith, at_is)) (cell_at (4 * i + 3) (omega arith) (omega arith)).lane;
        })

    -- where the numbers say so, no pattern begins
    pub none_in_four : HaveRows (2 ^ 31) (four_of cells (4 * i)) → NoneFrom p haystack span.end at (at + 512)
    none_in_four small k after before =
        elim (cases_lt k (at + 128)) [
          | inl one ↦ (cell_at (4 * i) (omega arith) (omega arith)).none small.first k (omega (arith, after, at_is))
              (omega (arith, one, at_is))
          | inr other ↦ elim (cases_lt k (at + 256)) [
            | inl two ↦ (cell_at (4 * i + 1) (omega arith) (omega arith)).none small.second k
                (omega (arith, other, at_is)) (omega (arith, two, at_is))
            | inr more ↦ elim (cases_lt k (at + 384)) [
              | inl three ↦ (cell_at (4 * i + 2) (omega arith) (omega arith)).none small.third k
                  (omega (arith, more, at_is)) (omega (arith, three, at_is))
              | inr last ↦ (cell_at (4 * i + 3) (omega arith) (omega arith)).none small.fourth k
                  (omega (arith, last, at_is)) (omega (arith, before, at_is))
            ]
          ]
        ]

-- the rows of walks are below the limit
pub rows_of_lanes : (b : Backward) (search : SearchValue) (haystack : List ℕ) (span : Span) (at part left limit : ℕ)
    (codes rows : Lanes) → IsLimit b limit → rows ≡ rows_of codes
    → AreLanes (back_tables_by search b) haystack span at part left rows → HaveRows limit rows
rows_of_lanes b search haystack span at part left limit codes rows limit_is rows_are are = grind arith

-- no marks are needed after the ends of parts
pub none_after : (R : ℕ → ℕ → Type 0) (numbers : List ℕ) (at part : ℕ) → HoldAfter R numbers at part part
none_after R numbers at part = record {
  first = λ k after before. absurd (omega (arith, after, before));
  second = λ k after before. absurd (omega (arith, after, before));
  third = λ k after before. absurd (omega (arith, after, before));
  fourth = λ k after before. absurd (omega (arith, after, before));
}
