-- What walks through parts of a span tell of the offsets of the parts.
use Rattle.std.proofs.Common.{◌≡◌, ℕ, ◌+◌, ◌*◌, ◌<◌, ◌≤◌, ◌⊎◌, ◌^◌, ◌%◌, List, Option, Some, None, arith}
use Rattle.std.proofs.Common.{◌∙◌, IfSome, Err, Ok, Result, ap, false, is_some, get_or, inl, inr, length, set}
use Rattle.std.proofs.Common.{subst, sym, true}
use Rattle.std.proofs.lemmas.Bool.{cases_lt, false≢true}
use Rattle.std.proofs.lemmas.List.{get_or-set_other, get_or-set_same, length-set}
use Rattle.std.specs.Result.{IsOkAnd}
use Rattle.literal_base.specs.Counts.{Counts}
use Rattle.literal_base.specs.Leftmost.{IsLeftmostMatch}
use Rattle.literal_base.specs.MatchValue.{MatchValue}
use Rattle.literal_base.specs.Occurs.{between}
use Rattle.literal_base.specs.declared.search.Span.{Span}
use Rattle.literal_leftmost.specs.Inside.Backward.{AreBackFor, HasReadBack, HoldIn, IsMark, NoneBeginsAt, NoneFrom}
use Rattle.literal_leftmost.specs.Inside.Backward.{back_tables_by}
use Rattle.literal_leftmost.specs.Inside.Leftmost.{AreLanes, AreMarksAfter, AreSteps, HaveRows, HoldAfter, IsFirstStart}
use Rattle.literal_fingerprints.specs.CandidateScans.{ahead_by_pair}
use Rattle.literal_fingerprints.specs.declared.candidates.CandidateScan.{CandidateScan}
use Rattle.literal_fingerprints.specs.declared.pair.RarePair.{RarePair}
use Rattle.literal_leftmost.specs.Inside.Leftmost.{IsLane, IsLimit, ahead_by, owed_by}
use Rattle.literal_leftmost.specs.Inside.Leftmost.{IsStep, NoneAfter}
use Rattle.literal_leftmost.specs.Inside.Leftmost.{ReadsFor}
use Rattle.literal_leftmost.specs.Prepared.{AreBackTables, BackTables}
use Rattle.literal_leftmost.specs.SearchValue.{SearchValue}
use Rattle.literal_leftmost.specs.declared.backward.Backward.{Backward}
use Rattle.literal_leftmost.specs.declared.backward.PatternStart.{PatternStart}
use Rattle.literal_leftmost.specs.declared.lanes.Lanes.{Lanes}
use Rattle.literal_rows.specs.declared.damaged.Damaged.{Damaged}
use Rattle.literal_leftmost.proofs.lemmas.Backward.{mark_in, read_one, stands_nowhere}

pair_few : (pair : Option RarePair) → ahead_by_pair pair ≤ 37
pair_few None = omega arith
pair_few (Some pair) = omega arith

-- a scan for candidates reads few bytes ahead
pub ahead_few : (scan : Option CandidateScan) → ahead_by scan ≤ 37
ahead_few None = omega arith
ahead_few (Some scan) = pair_few scan.pair

-- nor does it look up many bytes more than three times those that it passes over
pub owed_few : (scan : Option CandidateScan) → owed_by scan ≤ 19
owed_few None = omega arith
owed_few (Some scan) = omega arith

-- a walk that has read nothing
pub lane_begins : (p : BackTables) → AreBackTables p → (haystack : List ℕ) → ((i : ℕ) → get_or haystack i 0 < 256)
    → (span : Span) (end from at : ℕ) → at ≡ from → from ≤ span.end → (from ≡ span.end) ⊎ (end + p.longest ≤ from + 1)
    → IsLane p haystack span end at 0
lane_begins p are haystack bytes span end from at same inside far = grind (arith, stands_nowhere)

-- a walk reads one byte more
pub lane_step : (p : BackTables) → AreBackTables p → (haystack : List ℕ) → ((i : ℕ) → get_or haystack i 0 < 256)
    → (span : Span) → span.end ≤ length haystack → (end next at to row code : ℕ) → next ≡ at + 1 → to ≡ at
    → IsLane p haystack span end next row
    → code ≡ get_or p.rows (row + get_or p.classes (get_or haystack at 0) 0) 0 → IsStep p haystack span end to code
lane_step p are haystack bytes span valid end next at to row code next_is to_is lane is =
    let after = lane.after in
    let inside = lane.inside in
    let one = read_one p are haystack bytes lane.from at row code (omega (arith, after, next_is))
    (omega (arith, inside, valid))
    (subst (λ n. HasReadBack p haystack lane.from n row) next_is lane.stands) is in
    let far : at < end → (lane.from ≡ span.end) ⊎ (at + p.longest ≤ lane.from) = λ before. elim lane.far [
      | inl all ↦ inl all
      | inr near ↦ inr (omega (arith, near, before))
    ] in
    subst (λ n. IsStep p haystack span end n code) (sym to_is) (record {
      lane = record {
        from = lane.from;
        after = omega (arith, after, next_is);
        inside = inside;
        far = lane.far;
        stands = one.stands;
      };
      mark = λ before. mark_in p are haystack span.end at lane.from inside (far before) code one.mark;
    })

-- the same offset, written in another way
pub lane_there : (p : BackTables) (haystack : List ℕ) (span : Span) (end at to row : ℕ) → at ≡ to
    → IsLane p haystack span end at row → IsLane p haystack span end to row
lane_there p haystack span end at to row same lane = subst (λ n. IsLane p haystack span end n row) same lane

-- a number below 2^31 leads to itself
pub lane_small : (p : BackTables) (haystack : List ℕ) (span : Span) (end at code : ℕ) → code < 2 ^ 31
    → IsStep p haystack span end at code → IsLane p haystack span end at code
lane_small p haystack span end at code small step =
    let same : code % 2 ^ 31 ≡ code = omega (arith, small) in
    subst (IsLane p haystack span end at) same step.lane

-- where no pattern begins, the number is below the limit of the rows
below_if_none : (b : Backward) (search : SearchValue) → AreBackFor search b → (haystack : List ℕ) (span : Span)
    (end at code limit : ℕ) → IsLimit b limit → at < end
    → IsStep (back_tables_by search b) haystack span end at code
    → NoneBeginsAt (back_tables_by search b) haystack span.end at → code < limit
below_if_none b search is haystack span end at code limit limit_is before step none =
    grind (arith, cases_lt, lane_small)

module _ (p : BackTables) (haystack : List ℕ) (span : Span) (end at code : ℕ) (before : at < end)
    (step : IsStep p haystack span end at code)
  where
    -- none does
    pub none_more : (upto next : ℕ) → next ≡ at + 1 → code < 2 ^ 31 → NoneFrom p haystack span.end next upto
        → NoneFrom p haystack span.end at upto
    none_more upto next next_is small none = λ k after less.
        grind (arith, cases_lt)

    none_here : (upto next : ℕ) → next ≡ at + 1 → code < 2 ^ 31 → (first : Option PatternStart)
        → IsFirstStart p haystack span.end (between next upto) first
        → IsFirstStart p haystack span.end (between at upto) first
    none_here upto next next_is small None none = none_more upto next next_is small none
    none_here upto next next_is small (Some begun) first =
        (first.0, none_more begun.at next next_is small first.1)

    -- what is then the first offset at which one begins
    pub first_on : (upto next : ℕ) → next ≡ at + 1 → (first result : Option PatternStart)
        → (2 ^ 31 ≤ code → result ≡ Some (record { at = at; code = code })) → (code < 2 ^ 31 → result ≡ first)
        → IsFirstStart p haystack span.end (between next upto) first
        → IsFirstStart p haystack span.end (between at upto) result
    first_on upto next next_is first result begins none behind = grind (arith, cases_lt, none_here)

-- four walks read a number each at once
pub steps_in_four : (p : BackTables) → AreBackTables p → (haystack : List ℕ)
    → ((i : ℕ) → get_or haystack i 0 < 256) → (span : Span) → span.end ≤ length haystack
    → (at part next left here : ℕ) (now codes : Lanes) → next ≡ left + 1 → here ≡ at + left
    → AreLanes p haystack span at part next now
    → codes.first ≡ get_or p.rows (now.first + get_or p.classes (get_or haystack here 0) 0) 0
    → codes.second ≡ get_or p.rows (now.second + get_or p.classes (get_or haystack (here + part) 0) 0) 0
    → codes.third ≡ get_or p.rows (now.third + get_or p.classes (get_or haystack (here + 2 * part) 0) 0) 0
    → codes.fourth ≡ get_or p.rows (now.fourth + get_or p.classes (get_or haystack (here + 3 * part) 0) 0) 0
    → AreSteps p haystack span at part left codes
steps_in_four p are haystack bytes span valid at part next left here now codes next_is here_is lanes one two three
    four =
    let step = lane_step p are haystack bytes span valid in
    record {
      first = step (at + part) (at + next) here (at + left) now.first codes.first (omega (arith, next_is, here_is))
          (omega (arith, here_is)) lanes.first one;
      second = step (at + 2 * part) (at + part + next) (here + part) (at + part + left) now.second codes.second
          (omega (arith, next_is, here_is)) (omega (arith, here_is)) lanes.second two;
      third = step (at + 3 * part) (at + 2 * part + next) (here + 2 * part) (at + 2 * part + left) now.third codes.third
          (omega (arith, next_is, here_is)) (omega (arith, here_is)) lanes.third three;
      fourth = step (at + 4 * part) (at + 3 * part + next) (here + 3 * part) (at + 3 * part + left) now.fourth
          codes.fourth (omega (arith, next_is, here_is)) (omega (arith, here_is)) lanes.fourth four;
    }

-- the rows to which they lead are below the limit
pub rows_of_steps : (b : Backward) (search : SearchValue) (haystack : List ℕ) (span : Span) (at part left limit : ℕ)
    (codes : Lanes) → IsLimit b limit → AreSteps (back_tables_by search b) haystack span at part left codes
    → HaveRows limit (record {
      first = codes.first % 2 ^ 31;
      second = codes.second % 2 ^ 31;
      third = codes.third % 2 ^ 31;
      fourth = codes.fourth % 2 ^ 31;
    })
rows_of_steps b search haystack span at part left limit codes limit_is steps = grind arith

-- where nothing begins in the parts, the numbers lead on
pub rows_if_none : (b : Backward) (search : SearchValue) → AreBackFor search b → (haystack : List ℕ) (span : Span)
    (at part left limit : ℕ) (codes : Lanes) → IsLimit b limit → left < part
    → AreSteps (back_tables_by search b) haystack span at part left codes
    → NoneFrom (back_tables_by search b) haystack span.end at (at + 4 * part) → HaveRows limit codes
rows_if_none b search is haystack span at part left limit codes limit_is before steps none =
    grind (arith, below_if_none)

module _ (p : BackTables) (haystack : List ℕ) (span : Span) (at part left limit : ℕ) (codes : Lanes)
    (small : limit ≤ 2 ^ 31) (rows : HaveRows limit codes) (steps : AreSteps p haystack span at part left codes)
  where
    first_row : codes.first < 2 ^ 31
    first_row = omega (arith, small, rows.first)

    second_row : codes.second < 2 ^ 31
    second_row = omega (arith, small, rows.second)

    third_row : codes.third < 2 ^ 31
    third_row = omega (arith, small, rows.third)

    fourth_row : codes.fourth < 2 ^ 31
    fourth_row = omega (arith, small, rows.fourth)

    -- where they do, the walks go on
    pub lanes_on : AreLanes p haystack span at part left codes
    lanes_on = grind (arith, first_row, fourth_row, lane_small, second_row, third_row)

    -- and nothing begins there
    pub none_on_four : (next : ℕ) → next ≡ left + 1 → left < part → NoneAfter p haystack span.end at part next
        → NoneAfter p haystack span.end at part left
    none_on_four next next_is before none = grind (arith, first_row, fourth_row, none_more, second_row, third_row)

-- where nothing begins before an offset, the match that begins there is the leftmost
pub leftmost_from : (p : BackTables) (haystack : List ℕ) (span : Span) (at : ℕ) (found : MatchValue)
    → span.start ≤ at → NoneFrom p haystack span.end span.start at → found.start ≡ at
    → IsLeftmostMatch p.search.query p.search.ignore_case haystack (between at span.end) found
    → IsLeftmostMatch p.search.query p.search.ignore_case haystack span found
leftmost_from p haystack span at found after none here leftmost = grind arith

-- and what is known of two parts, one behind the other, is known of both
pub none_on : (p : BackTables) (haystack : List ℕ) (end from at upto : ℕ) → NoneFrom p haystack end from at
    → NoneFrom p haystack end at upto → NoneFrom p haystack end from upto
none_on p haystack end from at upto before behind = λ k after less. elim (cases_lt k at) [
  | inl early ↦ before k after early
  | inr late ↦ behind k late less
]

-- what is the first offset of a part is that of a longer one, where nothing begins before the part
pub part_on : (p : BackTables) (haystack : List ℕ) (end from start upto : ℕ) → NoneFrom p haystack end from start
    → (first : Option PatternStart) → IsFirstStart p haystack end (between start upto) first
    → IsFirstStart p haystack end (between from upto) first
part_on p haystack end from start upto before None none = none_on p haystack end from start upto before none
part_on p haystack end from start upto before (Some begun) first =
    (first.0, none_on p haystack end from start begun.at before first.1)

-- nothing begins in a part that has no first such offset
pub no_first : (p : BackTables) (haystack : List ℕ) (end start upto : ℕ) (first : Option PatternStart)
    → is_some first ≡ false → IsFirstStart p haystack end (between start upto) first
    → NoneFrom p haystack end start upto
no_first p haystack end start upto None none is = is
no_first p haystack end start upto (Some begun) some is = absurd (false≢true (sym some))

-- and if it has one, that is the first of a part that ends elsewhere
pub some_first : (p : BackTables) (haystack : List ℕ) (end start upto other : ℕ) (first : Option PatternStart)
    → is_some first ≡ true → IsFirstStart p haystack end (between start upto) first
    → IsFirstStart p haystack end (between start other) first
some_first p haystack end start upto other None some is = absurd (false≢true some)
some_first p haystack end start upto other (Some begun) some is = is

-- what is looked up for it, if there is one
pub found_reads : (longest : ℕ) (span : Span) (old new : ℕ) (first : Option PatternStart) → is_some first ≡ true
    → IfSome first (λ begun. ReadsFor longest span old new (Some begun)) → ReadsFor longest span old new first
found_reads longest span old new None some reads = absurd (false≢true some)
found_reads longest span old new (Some begun) some reads = reads

pub ok_part_on : (p : BackTables) (haystack : List ℕ) (end from start upto : ℕ) → NoneFrom p haystack end from start
    → (result : Result (Option PatternStart) Damaged)
    → IsOkAnd result (IsFirstStart p haystack end (between start upto))
    → IsOkAnd result (IsFirstStart p haystack end (between from upto))
ok_part_on p haystack end from start upto before (Ok first) is = part_on p haystack end from start upto before first is
ok_part_on p haystack end from start upto before (Err damaged) is = is

-- one step more
pub one_more : (a b : Counts) → a ≡ b
    → (let t : Counts = record a { scanned = a.scanned + 1 } in t)
    ≡ (let t : Counts = record b { scanned = b.scanned + 1 } in t)
one_more a b same = ap (λ (n : Counts). let n' : Counts = record n { scanned = n.scanned + 1 } in n') same

-- a number of another offset stays
pub held_kept : (R : ℕ → ℕ → Type 0) (numbers : List ℕ) (at from upto slot number : ℕ) → at ≤ from
    → (at + slot < from) ⊎ (upto ≤ at + slot) → HoldIn R numbers at from upto
    → HoldIn R (set numbers slot number) at from upto
held_kept R numbers at from upto slot number after apart are k behind before = grind (arith, get_or-set_other)

-- and one more is written
pub held_on : (R : ℕ → ℕ → Type 0) (numbers : List ℕ) (at to next upto slot number : ℕ) → at ≤ to → next ≡ to + 1
    → at + slot ≡ to → slot < length numbers → R to number → HoldIn R numbers at next upto
    → HoldIn R (set numbers slot number) at to upto
held_on R numbers at to next upto slot number after next_is slot_is inside holds are k behind before =
    grind (arith, cases_lt, get_or-set_other, get_or-set_same)

-- four numbers are written, one in each of four neighbouring parts
abbrev pub set_four : List ℕ → ℕ → ℕ → Lanes → List ℕ
set_four marks step part codes =
    set (set (set (set marks step codes.first) (step + part) codes.second) (step + 2 * part) codes.third)
    (step + 3 * part) codes.fourth

-- for one offset more of each part
pub held_in_four : (R : ℕ → ℕ → Type 0) (at part step next : ℕ) (marks : List ℕ) (codes : Lanes) → next ≡ step + 1
    → next ≤ part → 4 * part ≤ length marks → R (at + step) codes.first → R (at + part + step) codes.second
    → R (at + 2 * part + step) codes.third → R (at + 3 * part + step) codes.fourth → HoldAfter R marks at part next
    → HoldAfter R (set_four marks step part codes) at part step
held_in_four R at part step next marks codes next_is before room first second third fourth are =
    let marks1 = set marks step codes.first in
    let marks2 = set marks1 (step + part) codes.second in
    let marks3 = set marks2 (step + 2 * part) codes.third in
    let long1 : length marks1 ≡ length marks = length-set marks step codes.first in
    let long2 : length marks2 ≡ length marks = length-set marks1 (step + part) codes.second ∙ long1 in
    let long3 : length marks3 ≡ length marks = length-set marks2 (step + 2 * part) codes.third ∙ long2 in
    let kept = held_kept R in
    let on = held_on R in
    record {
      first =
          kept marks3 at (at + step) (at + part) (step + 3 * part) codes.fourth (omega arith)
          (inr (omega (arith, next_is)))
          (kept marks2 at (at + step) (at + part) (step + 2 * part) codes.third (omega arith) (inr (omega arith))
          (kept marks1 at (at + step) (at + part) (step + part) codes.second (omega arith) (inr (omega arith))
          (on marks at (at + step) (at + next) (at + part) step codes.first (omega arith) (omega (arith, next_is))
          (omega arith) (omega (arith, room, before, next_is)) first
          are.first)));
      second =
          kept marks3 at (at + part + step) (at + 2 * part) (step + 3 * part) codes.fourth (omega arith)
          (inr (omega arith))
          (kept marks2 at (at + part + step) (at + 2 * part) (step + 2 * part) codes.third (omega arith)
          (inr (omega arith))
          (on marks1 at (at + part + step) (at + part + next) (at + 2 * part) (step + part) codes.second (omega arith)
          (omega (arith, next_is)) (omega arith) (omega (arith, room, before, long1, next_is))
          second
          (kept marks at (at + part + next) (at + 2 * part) step codes.first (omega arith)
          (inl (omega (arith, before, next_is))) are.second)));
      third =
          kept marks3 at (at + 2 * part + step) (at + 3 * part) (step + 3 * part) codes.fourth (omega arith)
          (inr (omega arith))
          (on marks2 at (at + 2 * part + step) (at + 2 * part + next) (at + 3 * part) (step + 2 * part) codes.third
          (omega arith) (omega (arith, next_is)) (omega arith) (omega (arith, room, before, long2, next_is))
          third
          (kept marks1 at (at + 2 * part + next) (at + 3 * part) (step + part) codes.second (omega arith)
          (inl (omega (arith, before, next_is)))
          (kept marks at (at + 2 * part + next) (at + 3 * part) step codes.first (omega arith)
          (inl (omega (arith, before, next_is))) are.third)));
      fourth =
          on marks3 at (at + 3 * part + step) (at + 3 * part + next) (at + 4 * part) (step + 3 * part) codes.fourth
          (omega arith) (omega (arith, next_is)) (omega arith) (omega (arith, room, before, long3, next_is))
          fourth
          (kept marks2 at (at + 3 * part + next) (at + 4 * part) (step + 2 * part) codes.third (omega arith)
          (inl (omega (arith, before, next_is)))
          (kept marks1 at (at + 3 * part + next) (at + 4 * part) (step + part) codes.second (omega arith)
          (inl (omega (arith, before, next_is)))
          (kept marks at (at + 3 * part + next) (at + 4 * part) step codes.first (omega arith)
          (inl (omega (arith, before, next_is))) are.fourth)));
    }

-- those of the numbers that four walks read are marks
pub marks_in_four : (p : BackTables) (haystack : List ℕ) (span : Span) (at part step next : ℕ) (marks : List ℕ)
    (codes : Lanes) → next ≡ step + 1 → next ≤ part → 4 * part ≤ length marks
    → AreSteps p haystack span at part step codes → AreMarksAfter p haystack span.end marks at part next
    → AreMarksAfter p haystack span.end (set_four marks step part codes) at part step
marks_in_four p haystack span at part step next marks codes next_is before room steps are =
    held_in_four (IsMark p haystack span.end) at part step next marks codes next_is before room
    (steps.first.mark (omega (arith, before, next_is))) (steps.second.mark (omega (arith, before, next_is)))
    (steps.third.mark (omega (arith, before, next_is))) (steps.fourth.mark (omega (arith, before, next_is))) are

-- of cleared marks each says that nothing begins, which is so behind some offsets of each part
pub cleared_marks : (p : BackTables) (haystack : List ℕ) (end : ℕ) (marks : List ℕ) (at part left : ℕ)
    → ((k : ℕ) → k < 4 * part → get_or marks k 0 ≡ 0) → NoneAfter p haystack end at part left
    → AreMarksAfter p haystack end marks at part left
cleared_marks p haystack end marks at part left cleared none = grind arith

-- and what holds of all offsets of each part holds of those of a block
pub held_of_four : (R : ℕ → ℕ → Type 0) (numbers : List ℕ) (at part : ℕ) → HoldAfter R numbers at part 0
    → HoldIn R numbers at at (at + 4 * part)
held_of_four R numbers at part are k after before = grind (arith, cases_lt)
