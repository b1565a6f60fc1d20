-- The bytes that a stream looks up.
use Rattle.std.proofs.Common.{Bool, None, Option, Some, refl, ◌≡◌, ℕ, ◌+◌, ◌-◌, ◌*◌, ◌/◌, ◌<◌, ◌≤◌, ◌∙◌, ap, arith}
use Rattle.std.proofs.Common.{false, inl, inr, length, max, sym, true, ◌⊎◌}
use Rattle.std.specs.Option.{is_none}
use Rattle.std.specs.declared.io.Error.{Error}
use Rattle.std.proofs.lemmas.Bool.{cases_Bool}
use Rattle.std.specs.Bool.{if◌then◌else◌}
use Rattle.std.proofs.Math.Nat.{add-mul, mul-add, mul-le-mul_right}
use Rattle.literal_base.specs.Counts.{Counts}
use Rattle.literal_base.specs.declared.search.Span.{Span}
use Rattle.literal_pieces.specs.Stream.{ScansMore, bytes_read, most_words_scanned}
use Rattle.literal_leftmost.specs.SearchValue.{most_scanned}
use Rattle.literal_rows.specs.Patterns.{longest_of}
use Rattle.literal_words.specs.WholeWords.{ScansWordsBy, most_at_start}
use Rattle.literal_leftmost.specs.Inside.Cursor.{IsCursor, IsIn, look_ups_of, looked_in}
use Rattle.literal_pieces.specs.Inside.Sought.{AreTablesOf, margin_of, most_in_block, reach_of, search_of, SoughtValue}
use Rattle.literal_pieces.specs.Inside.Sought.{by_matches, by_words}
use Rattle.literal_pieces.specs.Inside.Stream.{AreHeldFrom, IsOpen, IsSearchIn, IsWindow, done_to, held, kept_back}
use Rattle.literal_pieces.specs.Inside.Stream.{looked_in_block, looked_so_far}
use Rattle.literal_leftmost.specs.declared.backward.Marks.{Marks}
use Rattle.literal_leftmost.specs.declared.cursor.Cursor.{Cursor}
use Rattle.literal_leftmost.specs.declared.cursor.Room.{Room}
use Rattle.literal_leftmost.specs.declared.cursor.Room.TheVariants.{Block, Trailed}
use Rattle.literal_pieces.specs.declared.reading.Reading.{Reading}
use Rattle.literal_pieces.specs.declared.sought.BlockSearch.{BlockSearch}
use Rattle.literal_leftmost.specs.declared.so_far.SoFar.TheVariants.{NoneBefore}
use Rattle.literal_pieces.specs.declared.window.Window.{Window}
use Rattle.literal_words.specs.declared.word_search.Words as word_search
use Rattle.literal_leftmost.proofs.lemmas.Iterations.{scanned_on}
use Rattle.literal_leftmost.proofs.lemmas.Passes.{paid_and_marked, paid_on, thrice}
use Rattle.literal_pieces.proofs.lemmas.Streams.{block_long}

-- the bound of a list is the sum of the bounds of its parts
pub scanned_parts : (longest n m : ℕ) → most_scanned longest (n + m) ≡ most_scanned longest n + most_scanned longest m
unfolding most_scanned
scanned_parts longest n m = mul-add (3 + longest / 262000) n m

-- so it is in a block
most_in_parts : (s : SoughtValue) (n m : ℕ) → most_in_block s (n + m) ≡ most_in_block s n + most_in_block s m
unfolding most_words_scanned
most_in_parts (by_matches plain) n m = scanned_parts (longest_of plain.query.patterns) n m
most_in_parts (by_words words) n m =
    let longest = longest_of words.search.query.patterns in
    omega (arith, scanned_parts longest n m, add-mul n m (most_at_start longest))

most_grows : (s : SoughtValue) (n m : ℕ) → n ≤ m → most_in_block s n ≤ most_in_block s m
most_grows s n m more =
    let whole : n + (m - n) ≡ m = omega (arith, more) in
    omega (arith, ap (most_in_block s) whole, most_in_parts s n (m - n))

-- a block that begins in the first half of another or later
pub block_paid_for : (s : SoughtValue) (start len at : ℕ) → start ≤ at → len ≤ 2 * (at - start)
    → 2 * most_in_block s start + most_in_block s len ≤ 2 * most_in_block s at
block_paid_for s start len at later long =
    let gone = at - start in
    let whole : start + gone ≡ at = omega (arith, later) in
    omega (
      arith,
      ap (most_in_block s) whole,
      most_in_parts s start gone,
      most_in_parts s gone gone,
      most_grows s len (gone + gone) (omega (arith, long)),
    )

-- what the state of an iteration has looked up of its span at most, and where it is
few_looked : (longest : ℕ) (span : Span) (at : ℕ) (m : Marks) (room : Room) → IsIn longest span at m room
    → ((looked_in longest span m room).most ≤ most_scanned longest (span.end - span.start))
    × (span.start ≤ at) × (at ≤ span.end)
few_looked longest span at m (Block numbers) is =
    let placed = is.placed in (
      omega (arith, placed.known_inside, thrice longest (span.end - span.start)),
      placed.after,
      placed.inside,
    )
few_looked longest span at m (Trailed trail) is = (
  omega (
    arith,
    is.known,
    is.part.inside,
    paid_and_marked longest (span.end - span.start),
    paid_on longest (trail.block.end - span.start) (span.end - span.start) (omega (arith, is.part.inside)),
  ),
  is.marks.after,
  is.marks.inside,
)

-- the length by which the tables of a search go is that of its longest pattern
longest_by : (s : SoughtValue) (w : word_search.Words) → AreTablesOf s w
    → w.backward.table.longest ≡ longest_of (search_of s).query.patterns
longest_by (by_matches plain) w tables = tables.1.tables.longest
longest_by (by_words words) w tables = grind arith

-- a search has looked up in its block at most the bound of all of it
pub few_in_block : (s : SoughtValue) (b : BlockSearch) → AreTablesOf s b.words
    → IsCursor b.words.backward.table.longest b.span b.cursor
    → looked_in_block s b ≤ most_in_block s (b.span.end - b.span.start)
unfolding most_words_scanned
few_in_block (by_matches plain) b tables cursor =
    let longest = b.words.backward.table.longest in
    let is = longest_by (by_matches plain) b.words tables in
    let few = few_looked longest b.span b.cursor.at b.cursor.marks b.cursor.room cursor in
    rw (sym is) few.0
few_in_block (by_words words) b tables cursor =
    let longest = b.words.backward.table.longest in
    let is = longest_by (by_words words) b.words tables in
    let few = few_looked longest b.span b.cursor.at b.cursor.marks b.cursor.room cursor in
    let inside : b.cursor.at - b.span.start ≤ b.span.end - b.span.start = omega (arith, few.2) in
    rw (sym is) (omega (arith, few.0, mul-le-mul_right (most_at_start longest) inside))

-- a search for whole words, which goes on in its block, looks up what the bound of its block grows by
pub words_in_block : (longest : ℕ) (span : Span) (c d : Cursor) (t0 t1 : Counts) → IsCursor longest span c
    → IsCursor longest span d
    → ScansWordsBy longest c.at d.at (look_ups_of longest span c) (look_ups_of longest span d) t0 t1
    → ScansMore ((look_ups_of longest span c).most + (c.at - span.start) * most_at_start longest)
    ((look_ups_of longest span d).most + (d.at - span.start) * most_at_start longest) t0 t1
words_in_block longest span c d t0 t1 before after scans =
    let k = most_at_start longest in
    let here : (c.at - span.start) + span.start ≡ c.at =
    omega (arith, (few_looked longest span c.at c.marks c.room before).1) in
    let there : (d.at - span.start) + span.start ≡ d.at =
    omega (arith, (few_looked longest span d.at d.marks d.room after).1) in
    record {
      others = scans.at_most.others;
      most = omega (
        arith,
        scans.at_most.most,
        add-mul (c.at - span.start) span.start k,
        ap (λ n. n * k) here,
        add-mul (d.at - span.start) span.start k,
        ap (λ n. n * k) there,
      );
    }

-- the block of a window ends where the held bytes do
block_ends : (s : SoughtValue) (w : Window) (r : Reading) (at : ℕ) (b : BlockSearch) → IsWindow w → b.is_begun ≡ true
    → IsSearchIn s w r at b
    → (w.offset - w.passed) + b.span.end ≡ w.offset + length (held w)
block_ends s w r at b window begun is =
    omega (arith, (is.through begun).whole, block_long w window, window.begins)

-- what a search has looked up so far, by whether it has begun
pub begun_so_far : (s : SoughtValue) (w : Window) (at : ℕ) (b : BlockSearch) → b.is_begun ≡ true
    → looked_so_far s w at b
    ≡ 2 * most_in_block s ((w.offset - w.passed) + b.span.start) + looked_in_block s b
unfolding looked_so_far
begun_so_far s w at b begun = rw begun refl

pub idle_so_far : (s : SoughtValue) (w : Window) (at : ℕ) (b : BlockSearch) → b.is_begun ≡ false
    → looked_so_far s w at b ≡ 2 * most_in_block s at
unfolding looked_so_far
idle_so_far s w at b idle = rw idle refl

-- nothing at first
pub none_so_far : (s : SoughtValue) (w : Window) (b : BlockSearch) → b.is_begun ≡ false → looked_so_far s w 0 b ≡ 0
none_so_far s w b idle = omega (arith, idle_so_far s w 0 b idle, most_in_parts s 0 0)

-- what it has looked up stays while its block stays
pub same_so_far : (s : SoughtValue) (w v : Window) (at : ℕ) (b : BlockSearch)
    → v.offset - v.passed ≡ w.offset - w.passed → looked_so_far s v at b ≡ looked_so_far s w at b
unfolding looked_so_far
same_so_far s w v at b same =
    ap (λ n. if b.is_begun then 2 * most_in_block s (n + b.span.start) + looked_in_block s b
    else 2 * most_in_block s at) same

margin_small : (s : SoughtValue) → margin_of s ≤ 1
margin_small (by_matches plain) = omega arith
margin_small (by_words words) = omega arith

-- nothing more is looked up than all bytes that were read, twice
few_so_far : (s : SoughtValue) (w : Window) (r : Reading) (at to : ℕ) (b : BlockSearch) → IsWindow w
    → IsSearchIn s w r at b → to ≤ w.offset + length (held w)
    → looked_so_far s w to b ≤ 2 * most_in_block s (w.offset + length (held w))
few_so_far s w r at to b window is within = elim (cases_Bool b.is_begun) [
  | inl begun ↦
      let through = is.through begun in
      let ends = block_ends s w r at b window begun is in
      let start = (w.offset - w.passed) + b.span.start in
      let now = begun_so_far s w to b begun in
      omega (
        arith,
        now,
        few_in_block s b is.tables through.cursor,
        block_paid_for s start (b.span.end - b.span.start) (w.offset + length (held w))
            (omega (arith, through.valid.ordered, ends)) (omega (arith, through.valid.ordered, ends)),
      )
  | inr idle ↦
      let now = idle_so_far s w to b idle in
      omega (arith, now, most_grows s to (w.offset + length (held w)) within)
]

-- a search goes on at an offset: all bytes before the last ones, which may decide about a match if more can be read,
-- were passed over
pub record IsPast (reach : ℕ) (r : Reading) (end to : ℕ) : Type 0 where
  pub within : to ≤ end
  pub past : (IsOpen r × (end < to + max reach 1)) ⊎ (to ≡ end)

-- so it goes on after the last match that is known from a block
pub past_block : (reach at base len offset end : ℕ) (r : Reading) (is_whole : Bool) (error : Option Error)
    → r.is_whole ≡ is_whole → r.error ≡ error → offset ≡ max (at - base) (len - kept_back reach is_whole)
    → base + len ≡ end → base ≤ at → at ≤ end
    → IsPast reach r end (if is_none error then offset + base else end)
past_block reach at base len offset end r false None whole fails is ends after within = record {
  within = omega (arith, is, ends, after, within);
  past = inl ((whole, fails), omega (arith, is, ends, after, within));
}
past_block reach at base len offset end r true None whole fails is ends after within =
    let all : offset + base ≡ end = omega (arith, is, ends, after, within) in
    record { within = omega (arith, all); past = inr all }
past_block reach at base len offset end r is_whole (Some error) whole fails is ends after within =
    record { within = omega arith; past = inr refl }

-- a block costs no more than the bytes that are passed over with it, twice
pub block_passed : (s : SoughtValue) (w : Window) (r : Reading) (at to : ℕ) (b : BlockSearch) → IsWindow w
    → IsSearchIn s w r at b → b.is_begun ≡ true → IsPast (reach_of s) r (w.offset + length (held w)) to
    → 2 * most_in_block s ((w.offset - w.passed) + b.span.start) + most_in_block s (b.span.end - b.span.start)
    ≤ 2 * most_in_block s to
block_passed s w r at to b window is begun far =
    let ordered = (is.through begun).valid.ordered in
    let ends = block_ends s w r at b window begun is in
    let start = (w.offset - w.passed) + b.span.start in
    let len = b.span.end - b.span.start in
    elim far.past [
      | inl near ↦
          let long = is.long begun near.0 in
          block_paid_for s start len to (omega (arith, ordered, ends, long, near.1, margin_small s))
          (omega (arith, ordered, ends, long, near.1, margin_small s))
      | inr all ↦ block_paid_for s start len to (omega (arith, ordered, ends, all)) (omega (arith, ordered, ends, all))
    ]

-- a block begins behind the one before
pub paid_on_going_on : (s : SoughtValue) (w v : Window) (r : Reading) (at : ℕ) (b n : BlockSearch) → IsWindow w
    → AreHeldFrom (margin_of s) at w → IsSearchIn s w r at b
    → (b.is_begun ≡ true → IsOpen r × (w.offset + length (held w) < at + max (reach_of s) 1))
    → v.offset ≡ w.offset → v.passed ≡ 0 → n.is_begun ≡ true → n.span.start ≡ at - v.offset
    → looked_so_far s w at b ≤ looked_so_far s v at n
paid_on_going_on s w v r at b n window from is over same none begun start =
    let begin = from.begin in
    let reach = from.reach in
    let next = begun_so_far s v at n begun in
    let here : (v.offset - v.passed) + n.span.start ≡ at = omega (arith, same, none, start, begin) in
    let here_is = ap (most_in_block s) here in
    elim (cases_Bool b.is_begun) [
      | inl was ↦
          omega (
            arith,
            next,
            here_is,
            begun_so_far s w at b was,
            few_in_block s b is.tables (is.through was).cursor,
            block_passed s w r at at b window is was (record { within = reach; past = inl (over was) }),
          )
      | inr idle ↦ omega (arith, next, here_is, idle_so_far s w at b idle)
    ]

-- two calls scan what both bounds grow by
pub scans_on : {a b d e : ℕ} {t0 t1 t2 : Counts} → ScansMore a b t0 t1 → ScansMore b d t1 t2 → e ≡ d
    → ScansMore a e t0 t2
scans_on {a} {b} {d} {e} {t0} {t1} {t2} first next same = record {
  others = scanned_on t0 t1 t2 first.others next.others;
  most = omega (arith, first.most, same, next.most);
}

-- once no more can be read, all bytes are done with
all_done : (reach at offset end : ℕ) (is_whole : Bool) (error : Option Error)
    → ¬ ((is_whole ≡ false) × (error ≡ None)) → offset ≡ max at (end - kept_back reach is_whole) → at ≤ end
    → (if is_none error then offset else end) ≡ end
all_done reach at offset end false None closed is within = absurd (closed (refl, refl))
all_done reach at offset end true None closed is within = omega (arith, is, within)
all_done reach at offset end is_whole (Some error) closed is within = refl

-- a search that is past all bytes that were read
module _ (s : SoughtValue) (w v : Window) (r : Reading) (offset : ℕ) (b : BlockSearch)
    (same : v.offset - v.passed ≡ w.offset - w.passed) (past : v.offset ≡ w.offset + length (held w))
  where
    pub done_at_end : (at : ℕ) → ¬ IsOpen r
        → offset ≡ max at ((w.offset + length (held w)) - kept_back (reach_of s) r.is_whole)
        → at ≤ w.offset + length (held w)
        → looked_so_far s v v.offset b ≡ looked_so_far s w (done_to w r (NoneBefore offset)) b
    done_at_end at closed is within =
        same_so_far s w v v.offset b same
        ∙ ap (λ n. looked_so_far s w n b) (past
        ∙ sym (all_done (reach_of s) at offset (w.offset + length (held w)) r.is_whole r.error closed is within))

    pub few_at_end : IsWindow w → IsSearchIn s w r offset b
        → looked_so_far s v v.offset b ≤ 2 * most_in_block s (bytes_read (margin_of s) v.offset (held v))
    few_at_end window is =
        omega (
          arith,
          most_grows s (w.offset + length (held w)) (bytes_read (margin_of s) v.offset (held v)) (omega (arith, past)),
          same_so_far s w v v.offset b same,
          few_so_far s w r offset v.offset b window is (omega (arith, past)),
        )

-- a search that continues in its window
pub few_in_window : (s : SoughtValue) (w : Window) (r : Reading) (at : ℕ) (b : BlockSearch) → IsWindow w
    → AreHeldFrom (margin_of s) at w → IsSearchIn s w r at b
    → looked_so_far s w at b ≤ 2 * most_in_block s (bytes_read (margin_of s) at (held w))
few_in_window s w r at b window from is =
    let begin = from.begin in
    omega (
      arith,
      few_so_far s w r at at b window is from.reach,
      most_grows s (w.offset + length (held w)) (bytes_read (margin_of s) at (held w)) (omega (arith, begin)),
    )
