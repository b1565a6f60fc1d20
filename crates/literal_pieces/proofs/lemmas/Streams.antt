-- Texts that are read piece by piece.
use Rattle.std.proofs.lemmas.Grind.{common_steps}
use Rattle.std.proofs.Common.{◌≡◌, ℕ, ◌+◌, ◌-◌, ◌≤◌, ◌<◌, ◌^◌, ◌++◌, [], ◌∷◌, List, Ok, Err, map, Option, None, Some}
use Rattle.std.proofs.Common.{length, take, drop, ap, subst, sym, arith, append_assoc, append-nil, length-append, Bool}
use Rattle.std.proofs.Common.{IfSome, true, false, ◌∙◌, refl}
use Rattle.std.proofs.KnownBytes.{Consumes-trans}
use Rattle.std.proofs.Math.Seq.{take-append-add}
use Rattle.std.proofs.lemmas.Option.{none-some}
use Rattle.std.proofs.lemmas.List.{drop-append-le, drop-drop, drop-take, length-drop, length-take-le, take-append-drop}
use Rattle.std.proofs.lemmas.List.{take-append-le}
use Rattle.std.specs.List.{slice_range}
use Rattle.std.specs.Io.KnownBytes.{Consumes, IsAtEnd}
use Rattle.std.specs.IoError.{error_kind}
use Rattle.std.specs.Iterator.{Yields}
use Rattle.std.specs.Option.{option_map}
use Rattle.std.specs.declared.io.Error.{Error}
use Rattle.std.specs.declared.io.ErrorKind.{ErrorKind}
use Rattle.literal_base.specs.MatchValue.{MatchValue}
use Rattle.literal_leftmost.specs.SearchValue.{SearchValue}
use Rattle.literal_rows.specs.Patterns.{longest_of}
use Rattle.literal_pieces.specs.Stream.{EndsFailed, EndsWhole, GivesAhead, GoesBehind, IsFirstAhead, KnowsEnd}
use Rattle.literal_pieces.specs.Stream.{PassesOver, ReadsOn, StreamValue, known, stream_over}
use Rattle.literal_pieces.specs.Inside.Stream.{GoesThrough, HasGoneOn, HasPassed, HasReadOn, IsOpen, IsSoundReading}
use Rattle.literal_pieces.specs.Inside.Stream.{IsWindow, block, held, looked_so_far, stream_value}
use Rattle.literal_pieces.specs.declared.reading.Reading.{Reading}
use Rattle.literal_pieces.specs.declared.sought.BlockSearch.{BlockSearch}
use Rattle.literal_pieces.specs.Inside.Sought.{SoughtValue}
use Rattle.literal_pieces.specs.declared.window.Window.{Window}
pub use Rattle.literal_rows.proofs.lemmas.Arrays.{length_part, part_behind}

-- a part, and what was written behind it
pub part_and_more : (xs written behind : List ℕ) (start end n : ℕ) → start ≤ end → end ≤ length xs
    → n ≤ length written
    → slice_range (take end xs ++ (written ++ behind)) start (end + n) ≡ slice_range xs start end ++ take n written
part_and_more xs written behind start end n ordered inside room =
    let end_is : start + (end - start) ≡ end = omega (arith, ordered) in
    let first : drop start (take end xs) ≡ slice_range xs start end = grind (arith, drop-take) in
    let all : drop start (take end xs ++ (written ++ behind)) ≡ slice_range xs start end ++ (written ++ behind) =
    grind (arith, drop-append-le, length-take-le) in
    let len = length_part xs start end ordered inside in
    let whole : (end + n) - start ≡ length (slice_range xs start end) + n = omega (arith, len, ordered) in
    grind (arith, take-append-add, take-append-le)

-- what holds of a search from an offset on
pub record GoesFrom (IsFirst : List ℕ → ℕ → Option MatchValue → Type 0) (Begins : List ℕ → ℕ → ℕ → ℕ → Type 0)
    : Type 0 where
  pub after : (text : List ℕ) (from i p : ℕ) → Begins text from i p → from ≤ p
  pub later : (text : List ℕ) (from to i p : ℕ) → to ≤ p → Begins text from i p → Begins text to i p
  pub first : (text : List ℕ) (from to : ℕ) (answer : Option MatchValue) → from ≤ to
      → ((i p : ℕ) → Begins text from i p → to ≤ p) → IsFirst text to answer → IsFirst text from answer

-- an offset behind what a window holds can be told
pub held_fits : (w : Window) → IsWindow w → w.offset + length (held w) < 2 ^ 64
held_fits w sound = omega (arith, length_part w.bytes.items w.start w.end sound.ordered sound.inside)

-- the block of a window is what was passed in it, and what is held
block_behind : (w : Window) → IsWindow w → drop w.passed (block w) ≡ held w
block_behind w sound =
    let start : (w.start - w.passed) + w.passed ≡ w.start = omega (arith, sound.passed) in
    sym (part_behind w.bytes.items (w.start - w.passed) w.end w.passed (omega (arith, sound.passed, sound.ordered)))
    ∙ ap (λ n. slice_range w.bytes.items n w.end) start

pub block_is : (w : Window) → IsWindow w → block w ≡ take w.passed (block w) ++ held w
block_is w sound =
    sym (take-append-drop w.passed (block w)) ∙ ap (λ l. take w.passed (block w) ++ l) (block_behind w sound)

pub block_long : (w : Window) → IsWindow w → length (block w) ≡ w.passed + length (held w)
block_long w sound =
    omega (
      arith,
      length_part w.bytes.items (w.start - w.passed) w.end (omega (arith, sound.ordered)) sound.inside,
      length_part w.bytes.items w.start w.end sound.ordered sound.inside,
      sound.passed,
      sound.ordered,
    )

pub gone_long : (w : Window) → IsWindow w → length (take w.passed (block w)) ≡ w.passed
gone_long w sound = length-take-le w.passed (block w) (omega (arith, block_long w sound))

-- where reading is over and did not fail, all was read
pub read_whole : (is_whole : Bool) (failure : Option ErrorKind) (error : Option Error)
    → failure ≡ option_map error_kind error → ¬ ((is_whole ≡ false) × (error ≡ None)) → failure ≡ None
    → is_whole ≡ true
read_whole is_whole failure error is closed none = grind (arith, none-some)

-- and where it failed, not all was read
pub read_in_part : (is_whole : Bool) (failure : Option ErrorKind) (error : Option Error) (kind : ErrorKind)
    → failure ≡ option_map error_kind error → (is_whole ≡ true → error ≡ None) → failure ≡ Some kind
    → is_whole ≡ false
read_in_part is_whole failure error kind is apart failed = grind arith

-- where reading had failed it stays so
failed_on : (failure : Option ErrorKind) (r s : Reading) (first piece : List ℕ)
    → r.failure ≡ option_map error_kind r.error
    → IfSome failure (λ kind. (first ≡ []) × (r.failure ≡ Some kind)) → HasReadOn r piece s
    → IfSome failure (λ kind. (first ++ piece ≡ []) × (s.failure ≡ Some kind))
failed_on None r s first piece sound before on = tt
failed_on (Some kind) r s first piece sound before on =
    let closed : ¬ IsOpen r = grind (arith, none-some) in
    let still = on closed in (
      ap (λ l. l ++ piece) before.0 ∙ still.0,
      ap (λ (q : Reading). q.failure) still.1 ∙ before.1,
    )

-- a piece is read after another
reads_more : (unread now left : Option (List ℕ)) (failure : Option ErrorKind) (r s : Reading) (first piece : List ℕ)
    → r.failure ≡ option_map error_kind r.error → ReadsOn unread failure first now r.failure
    → Consumes now left piece → HasReadOn r piece s → ReadsOn unread failure (first ++ piece) left s.failure
reads_more unread now left failure r s first piece sound reads consumed on = grind (arith, Consumes-trans, failed_on)

-- where the text had ended it stays so
ended_on : (is_whole : Bool) (r s : Reading) (first piece : List ℕ)
    → (is_whole ≡ true → (first ≡ []) × (r.is_whole ≡ true)) → HasReadOn r piece s
    → is_whole ≡ true → (first ++ piece ≡ []) × (s.is_whole ≡ true)
ended_on is_whole r s first piece before on is =
    let was = before is in
    let still = on (λ is_open. absurd (cc)) in (
      ap (λ l. l ++ piece) was.0 ∙ still.0,
      ap (λ (q : Reading). q.is_whole) still.1 ∙ was.1,
    )

-- a search as contracts see it, after bytes were passed over
pub value_past : (sought : SoughtValue) (w v : Window) (at to n : ℕ) (b : BlockSearch) (r s : Reading)
    (unread : Option (List ℕ)) (is_over : Bool) (bytes : List ℕ) → to ≡ n → held v ≡ bytes → s.failure ≡ r.failure
    → s.is_whole ≡ r.is_whole
    → stream_value sought v to b s unread is_over ≡ record (stream_value sought w at b r unread false) {
      held = bytes;
      offset = n;
      is_over = is_over;
      look_ups = looked_so_far sought v to b;
    }
value_past sought w v at to n b r s unread is_over bytes to_is held_is failure_is whole_is = grind arith

-- nothing is known to follow where nothing is left to be read
pub known_end : (unread : Option (List ℕ)) → IsAtEnd unread → known unread ≡ []
known_end unread over = grind arith

module _ (IsFirst : List ℕ → ℕ → Option MatchValue → Type 0) (Begins : List ℕ → ℕ → ℕ → ℕ → Type 0) (margin : ℕ)
    (goes : GoesFrom IsFirst Begins)
  where
    module _ (from now : ℕ) (bytes : List ℕ) (later : from ≤ now)
        (within : (now - margin) - (from - margin) ≤ length bytes)
        (passed : PassesOver IsFirst Begins margin from now bytes)
      where
        abbrev cut : ℕ
        cut = (now - margin) - (from - margin)

        -- the same text, cut where the bytes ahead begin now
        cut_here : (before : List ℕ) → (before ++ take cut bytes) ++ drop cut bytes ≡ before ++ bytes
        cut_here before = grind (arith, append_assoc, take-append-drop)

        cut_len : (before : List ℕ) → length before ≡ from - margin
            → length (before ++ take cut bytes) ≡ now - margin
        cut_len before len = grind (arith, length-append, length-take-le)

        -- an answer for what is ahead now is one for what was ahead before bytes were passed over
        ahead_before : (answer : Option MatchValue) → IsFirstAhead IsFirst Begins margin now answer (drop cut bytes)
            → IsFirstAhead IsFirst Begins margin from answer bytes
        ahead_before answer leftmost = λ before len.
            goes.first (before ++ bytes) from now answer later (passed before len)
            (subst (λ (text : List ℕ). IsFirst text now answer) (cut_here before)
            (leftmost (before ++ take cut bytes) (cut_len before len)))

        -- and bytes that are passed over now are passed over from before
        passes_more : (to : ℕ) → PassesOver IsFirst Begins margin now to (drop cut bytes)
            → PassesOver IsFirst Begins margin from to bytes
        passes_more to more = λ before len i p begins.
            more (before ++ take cut bytes) (cut_len before len) i p
            (subst (λ (text : List ℕ). Begins text now i p) (sym (cut_here before))
            (goes.later (before ++ bytes) from now i p (passed before len i p begins) begins))

    module _ (from now : ℕ) (seen rest : List ℕ) (before : HasPassed IsFirst Begins margin from now seen rest) where
      -- what is held, and whatever follows it, is what is ahead now
      rest_and_more : (more : List ℕ) → drop ((now - margin) - (from - margin)) (seen ++ more) ≡ rest ++ more
      rest_and_more more = grind (arith, drop-append-le)

      seen_within : (more : List ℕ) → (now - margin) - (from - margin) ≤ length (seen ++ more)
      seen_within more = omega (arith, before.within, length-append seen more)

      -- bytes that are passed over now, whatever follows
      pass_on : (to : ℕ) (more : List ℕ) → PassesOver IsFirst Begins margin now to (rest ++ more)
          → PassesOver IsFirst Begins margin from to (seen ++ more)
      pass_on to more none =
          passes_more from now (seen ++ more) before.later (seen_within more) (before.passed more) to
          (subst (PassesOver IsFirst Begins margin now to) (sym (rest_and_more more)) none)

      -- after more bytes are passed over
      passed_more : (to : ℕ) → now ≤ to → (to - margin) - (now - margin) ≤ length rest
          → ((more : List ℕ) → PassesOver IsFirst Begins margin now to (rest ++ more))
          → HasPassed IsFirst Begins margin from to seen (drop ((to - margin) - (now - margin)) rest)
      passed_more to later within none =
          let long : length rest ≡ length seen - ((now - margin) - (from - margin)) = grind (arith, length-drop) in
          let sum : ((now - margin) - (from - margin)) + ((to - margin) - (now - margin))
          ≡ (to - margin) - (from - margin) = omega (arith, later, before.later) in
          record {
            later = omega (arith, before.later, later);
            within = omega (arith, within, long, before.within, later, before.later);
            rest_is = grind (arith, drop-drop);
            passed = λ more. pass_on to more (none more);
          }

      -- the answer for what is held, and for what follows it, is the answer
      first_ahead : (more : List ℕ) (answer : Option MatchValue)
          → IsFirstAhead IsFirst Begins margin now answer (rest ++ more)
          → IsFirstAhead IsFirst Begins margin from answer (seen ++ more)
      first_ahead more answer first =
          ahead_before from now (seen ++ more) before.later (seen_within more) (before.passed more) answer
          (subst (IsFirstAhead IsFirst Begins margin now answer) (sym (rest_and_more more)) first)

    -- a search that has not read anything yet
    pub gone_nowhere : (m : StreamValue) → HasGoneOn IsFirst Begins margin m m
    gone_nowhere m = grind (arith, append-nil)

    -- it passes over bytes
    pub gone_past : (old now new : StreamValue) (to : ℕ) → now.offset ≤ to
        → (to - margin) - (now.offset - margin) ≤ length now.held
        → ((more : List ℕ) → PassesOver IsFirst Begins margin now.offset to (now.held ++ more))
        → new ≡ record now {
          held = drop ((to - margin) - (now.offset - margin)) now.held;
          offset = to;
          look_ups = new.look_ups;
        }
        → HasGoneOn IsFirst Begins margin old now → HasGoneOn IsFirst Begins margin old new
    gone_past old now new to later within none is gone =
        let passed = passed_more old.offset now.offset (old.held ++ gone.piece) now.held gone.passed to later within
        none in
        grind arith

    -- it reads on
    pub gone_on : (old : StreamValue) (sought : SoughtValue) (w v : Window) (at : ℕ) (b d : BlockSearch) (r s : Reading)
        (unread left : Option (List ℕ)) → IsSoundReading r unread
        → (piece : List ℕ) × Consumes unread left piece × (held v ≡ held w ++ piece) × HasReadOn r piece s
        → HasGoneOn IsFirst Begins margin old (stream_value sought w at b r unread false)
        → HasGoneOn IsFirst Begins margin old (stream_value sought v at d s left false)
    gone_on old sought w v at b d r s unread left sound read gone =
        let passed = gone.passed in
        record {
          piece = gone.piece ++ read.0;
          search_is = gone.search_is;
          is_over = gone.is_over;
          reads = reads_more old.unread unread left old.failure r s gone.piece read.0 sound.failure gone.reads read.1
              read.3;
          stays = ended_on old.is_whole r s gone.piece read.0 gone.stays read.3;
          passed = grind (arith, append_assoc, drop-append-le, length-append);
        }

    module _ (old now new : StreamValue) (gone : HasGoneOn IsFirst Begins margin old now) where
      abbrev seen : List ℕ
      seen = old.held ++ gone.piece

      -- how much is read then
      gone_len : (now.offset - margin) + length now.held ≡ (old.offset - margin) + length seen
      gone_len = grind (arith, length-drop)

      -- what is known of the end of the text
      knows_end : new.unread ≡ now.unread → new.is_whole ≡ now.is_whole → (now.is_whole ≡ true → IsAtEnd now.unread)
          → KnowsEnd old gone.piece new
      knows_end unread_is whole_is end = record {
        stays = λ whole. let was = gone.stays whole in (was.0, whole_is ∙ was.1);
        end = λ whole. subst IsAtEnd (sym unread_is) (end (sym whole_is ∙ whole));
      }

      -- where it ends, past all bytes that were read
      over_all : new ≡ record now {
        held = [];
        offset = (now.offset - margin) + length now.held;
        is_over = true;
        look_ups = new.look_ups;
      } → new ≡ stream_over IsFirst Begins margin old gone.piece new
      over_all is =
          let same = gone.search_is in
          let len = gone_len in
          grind arith

      -- what it gives where it goes on behind a match
      pub goes_behind : (found : MatchValue)
          → ((more : List ℕ) → (now.is_whole ≡ true → more ≡ [])
          → IsFirstAhead IsFirst Begins margin now.offset (Some found) (now.held ++ more))
          → (now.is_whole ≡ true → IsAtEnd now.unread)
          → now.offset < found.end → found.end ≤ (now.offset - margin) + length now.held → found.end < 2 ^ 64
          → new ≡ record now {
            held = drop ((found.end - margin) - (now.offset - margin)) now.held;
            offset = found.end;
            look_ups = new.look_ups;
          }
          → GoesBehind IsFirst Begins margin old found new
      goes_behind found first end some within fits is =
          let passed = gone.passed in
          let len = gone_len in
          let unread_is : new.unread ≡ now.unread = ap (λ (m : StreamValue). m.unread) is in
          let whole_is : new.is_whole ≡ now.is_whole = ap (λ (m : StreamValue). m.is_whole) is in
          let failure_is : new.failure ≡ now.failure = ap (λ (m : StreamValue). m.failure) is in
          let sum : ((now.offset - margin) - (old.offset - margin))
          + ((found.end - margin) - (now.offset - margin))
          ≡ (found.end - margin) - (old.offset - margin) = omega (arith, some, passed.later) in
          let held_is : drop ((found.end - margin) - (now.offset - margin)) now.held
          ≡ drop ((found.end - margin) - (old.offset - margin)) seen =
          ap (drop ((found.end - margin) - (now.offset - margin))) passed.rest_is
          ∙ (drop-drop ((found.end - margin) - (now.offset - margin))
          ((now.offset - margin) - (old.offset - margin)) seen
          ∙ ap (λ n. drop n seen) sum) in
          let same = gone.search_is in
          let still = gone.is_over in
          record {
            piece = gone.piece;
            reads = rw (unread_is, failure_is) gone.reads;
            knows = knows_end unread_is whole_is end;
            leftmost = λ more over.
                first_ahead old.offset now.offset seen now.held passed more (Some found)
                (first more (λ whole. over (whole_is ∙ whole)));
            some = omega (arith, some, passed.later);
            within = omega (arith, within, len);
            fits = fits;
            goes_on = grind arith;
          }

      -- where it is over
      pub ends_whole : now.is_whole ≡ true → IsAtEnd now.unread → now.failure ≡ None
          → IsFirstAhead IsFirst Begins margin now.offset None now.held
          → new ≡ record now {
            held = [];
            offset = (now.offset - margin) + length now.held;
            is_over = true;
            look_ups = new.look_ups;
          }
          → EndsWhole IsFirst Begins margin old new
      ends_whole whole end sound nothing is =
          let unread_is : new.unread ≡ now.unread = ap (λ (m : StreamValue). m.unread) is in
          let whole_is : new.is_whole ≡ now.is_whole = ap (λ (m : StreamValue). m.is_whole) is in
          let failure_is : new.failure ≡ now.failure = ap (λ (m : StreamValue). m.failure) is in
          record {
            piece = gone.piece;
            reads = rw (unread_is, failure_is) gone.reads;
            knows = knows_end unread_is whole_is (λ _. end);
            is_whole = whole_is ∙ whole;
            end = rw unread_is end;
            no_failure = failure_is ∙ sound;
            nothing = subst (IsFirstAhead IsFirst Begins margin old.offset None) (append-nil seen)
                (first_ahead old.offset now.offset seen now.held gone.passed [] None
                (subst (IsFirstAhead IsFirst Begins margin now.offset None) (sym (append-nil now.held)) nothing));
            over = over_all is;
          }

      -- and where reading failed
      pub ends_failed : (error : Error) → (now.is_whole ≡ true → IsAtEnd now.unread)
          → now.failure ≡ Some (error_kind error)
          → ((more : List ℕ) → PassesOver IsFirst Begins margin now.offset
          ((now.offset - margin) + length now.held - (longest_of old.search.query.patterns + margin - 1))
          (now.held ++ more))
          → new ≡ record now {
            held = [];
            offset = (now.offset - margin) + length now.held;
            is_over = true;
            look_ups = new.look_ups;
          }
          → EndsFailed IsFirst Begins margin old error new
      ends_failed error end failed none is =
          let unread_is : new.unread ≡ now.unread = ap (λ (m : StreamValue). m.unread) is in
          let whole_is : new.is_whole ≡ now.is_whole = ap (λ (m : StreamValue). m.is_whole) is in
          let failure_is : new.failure ≡ now.failure = ap (λ (m : StreamValue). m.failure) is in
          let offset_is : new.offset ≡ (now.offset - margin) + length now.held = grind arith in
          record {
            piece = gone.piece;
            reads = rw (unread_is, failure_is) gone.reads;
            knows = knows_end unread_is whole_is end;
            failure = failure_is ∙ failed;
            nothing = λ more.
                subst (λ (n : ℕ). PassesOver IsFirst Begins margin old.offset
                (n - (longest_of old.search.query.patterns + margin - 1)) (seen ++ more)) (sym offset_is)
                (pass_on old.offset now.offset seen now.held gone.passed
                ((now.offset - margin) + length now.held - (longest_of old.search.query.patterns + margin - 1)) more
                (none more));
            over = over_all is;
          }

-- what is read of a known text, and what is then known to follow, is all that is ahead
pub seen_all : (held piece rest : List ℕ) (unread : Option (List ℕ)) → Consumes (Some rest) unread piece
    → (unread ≡ Some (known unread)) × ((held ++ piece) ++ known unread ≡ held ++ rest)
seen_all held piece rest unread taken = grind (arith, append_assoc)

-- and where nothing is left it is all
pub seen_whole : (held piece rest : List ℕ) (unread : Option (List ℕ)) → IsAtEnd unread
    → Consumes (Some rest) unread piece → held ++ piece ≡ held ++ rest
seen_whole held piece rest unread over taken = grind (arith, append-nil)

-- a list of all matches of a text from an offset on: it is the leftmost one, followed by those behind it
pub record GoesOverAll (IsFirst : List ℕ → ℕ → Option MatchValue → Type 0)
    (AreAll : List ℕ → ℕ → List MatchValue → Type 0) : Type 0 where
  pub none : (text : List ℕ) (from : ℕ) → IsFirst text from None → AreAll text from []
  pub some : (text : List ℕ) (from : ℕ) (found : MatchValue) (more : List MatchValue)
      → IsFirst text from (Some found) → AreAll text found.end more → AreAll text from (found ∷ more)

module _ (IsFirst : List ℕ → ℕ → Option MatchValue → Type 0) (Begins : List ℕ → ℕ → ℕ → ℕ → Type 0) (margin : ℕ)
    (search : SearchValue) (text : List ℕ)
  where
    -- behind a match it is in the text still
    stands_behind : (m : StreamValue) (found : MatchValue) (n : StreamValue)
        → GoesThrough IsFirst Begins margin search text m → GivesAhead IsFirst Begins margin m (Some (Ok found)) n
        → GoesThrough IsFirst Begins margin search text n
    stands_behind m found n stands step =
        let goes = step.2 in
        let seen = m.held ++ goes.piece in
        let k = (found.end - margin) - (m.offset - margin) in
        let taken = subst (λ (u : Option (List ℕ)). Consumes u n.unread goes.piece) stands.unread
        goes.reads.consumed in
        let all = seen_all m.held goes.piece stands.rest n.unread taken in
        let held : n.held ≡ drop k seen = ap (λ (v : StreamValue). v.held) goes.goes_on in
        let offset_is : n.offset ≡ found.end = ap (λ (v : StreamValue). v.offset) goes.goes_on in
        record {
          before = stands.before ++ take k seen;
          rest = known n.unread;
          search_is = ap (λ (v : StreamValue). v.search) goes.goes_on ∙ stands.search_is;
          unread = all.0;
          offset =
              let long = length-take-le k seen (omega (arith, goes.within, goes.some)) in
              omega (
                arith,
                length-append stands.before (take k seen),
                long,
                stands.offset,
                offset_is,
                goes.some,
              );
          whole = rw (
            held,
            append_assoc stands.before (take k seen) (drop k seen ++ known n.unread),
            ← append_assoc (take k seen) (drop k seen) (known n.unread),
            take-append-drop k seen,
            all.1,
          ) stands.whole;
          not_over = ap (λ (v : StreamValue). v.is_over) goes.goes_on ∙ stands.not_over;
        }

    -- and where it then is
    pub streamed_to : (m : StreamValue) (all : List MatchValue) (n : StreamValue)
        → GoesThrough IsFirst Begins margin search text m → Yields (GivesAhead IsFirst Begins margin) m (map Ok all) n
        → GoesThrough IsFirst Begins margin search text n
    streamed_to m [] n stands stays = subst (GoesThrough IsFirst Begins margin search text) stays stands
    streamed_to m (found ∷ rest) n stands run =
        streamed_to run.0 rest n (stands_behind m found run.0 stands run.1) run.2

    -- and then all of the text was read
    pub streamed_len : (m ended : StreamValue) → GoesThrough IsFirst Begins margin search text m
        → GivesAhead IsFirst Begins margin m None ended → ended.offset ≡ length text
    streamed_len m ended stands last = grind (arith, length-append, seen_whole)

    -- in front of an error nothing is missing but what begins in the last bytes that were read
    pub streamed_failed : (m : StreamValue) (error : Error) (ended : StreamValue)
        → GoesThrough IsFirst Begins margin search text m
        → GivesAhead IsFirst Begins margin m (Some (Err error)) ended
        → (i p : ℕ) → Begins text m.offset i p
        → ended.offset - (longest_of search.query.patterns + margin - 1) ≤ p
    streamed_failed m error ended stands last i p begins = grind (arith, common_steps, seen_all)

    module _ (AreAll : List ℕ → ℕ → List MatchValue → Type 0) (over : GoesOverAll IsFirst AreAll) where
      -- what it gives, in front of the list from where it then is, is the list from where it was
      pub streamed_first : (m : StreamValue) (all : List MatchValue) (n : StreamValue) (more : List MatchValue)
          → GoesThrough IsFirst Begins margin search text m
          → Yields (GivesAhead IsFirst Begins margin) m (map Ok all) n
          → AreAll text n.offset more → AreAll text m.offset (all ++ more)
      streamed_first m [] n more stands stays list = grind arith
      streamed_first m (found ∷ rest) n more stands run list =
          let step = run.1 in
          let goes = step.2 in
          let taken = subst (λ (u : Option (List ℕ)). Consumes u run.0.unread goes.piece) stands.unread
          goes.reads.consumed in
          let all_is = seen_all m.held goes.piece stands.rest run.0.unread taken in
          let whole : stands.before ++ ((m.held ++ goes.piece) ++ known run.0.unread) ≡ text = grind arith in
          let offset_is : run.0.offset ≡ found.end = ap (λ (v : StreamValue). v.offset) goes.goes_on in
          over.some text m.offset found (rest ++ more)
          (subst (λ (t : List ℕ). IsFirst t m.offset (Some found)) whole (goes.leftmost (known run.0.unread)
          (λ is. known_end run.0.unread (goes.knows.end is)) stands.before stands.offset))
          (subst (λ (k : ℕ). AreAll text k (rest ++ more)) offset_is
          (streamed_first run.0 rest n more (stands_behind m found run.0 stands step) run.2 list))

      -- up to its first None it is the whole list
      pub streamed_all : (m : StreamValue) (all : List MatchValue) (n ended : StreamValue)
          → GoesThrough IsFirst Begins margin search text m
          → Yields (GivesAhead IsFirst Begins margin) m (map Ok all) n
          → GivesAhead IsFirst Begins margin n None ended → AreAll text m.offset all
      streamed_all m all n ended stands run last =
          let there = streamed_to m all n stands run in
          let ends = last.1 there.not_over in
          let taken = subst (λ (u : Option (List ℕ)). Consumes u ended.unread ends.piece) there.unread
          ends.reads.consumed in
          let whole : there.before ++ (n.held ++ ends.piece) ≡ text = grind (arith, seen_whole) in
          subst (AreAll text m.offset) (append-nil all)
          (streamed_first m all n [] stands run (over.none text n.offset
          (subst (λ (t : List ℕ). IsFirst t n.offset None) whole (ends.nothing there.before there.offset))))

-- an iteration up to its first None, from where it was: what it read meanwhile, and all its matches
module _ (IsFirst : List ℕ → ℕ → Option MatchValue → Type 0) (Begins : List ℕ → ℕ → ℕ → ℕ → Type 0) (margin : ℕ)
    (AreAll : List ℕ → ℕ → List MatchValue → Type 0) (over : GoesOverAll IsFirst AreAll)
  where
    pub record HasReadAll (m : StreamValue) (all : List MatchValue) (ended : StreamValue) : Type 0 where
      pub piece : List ℕ
      pub reads : Consumes m.unread ended.unread piece
      pub stays : m.is_whole ≡ true → piece ≡ []
      pub are_all : (before : List ℕ) → length before ≡ m.offset - margin
          → AreAll (before ++ (m.held ++ piece)) m.offset all
      pub len : ended.offset ≡ (m.offset - margin) + length (m.held ++ piece)

    read_last : (m ended : StreamValue) → EndsWhole IsFirst Begins margin m ended → HasReadAll m [] ended
    read_last m ended ends = record {
      piece = ends.piece;
      reads = ends.reads.consumed;
      stays = λ whole. (ends.knows.stays whole).0;
      are_all = λ before len. over.none (before ++ (m.held ++ ends.piece)) m.offset (ends.nothing before len);
      len = ap (λ (v : StreamValue). v.offset) ends.over;
    }

    read_behind : (m : StreamValue) (found : MatchValue) (more : List MatchValue) (n ended : StreamValue)
        → GoesBehind IsFirst Begins margin m found n → HasReadAll n more ended → HasReadAll m (found ∷ more) ended
    read_behind m found more n ended goes rest =
        let seen = m.held ++ goes.piece in
        let k = (found.end - margin) - (m.offset - margin) in
        let held : n.held ≡ drop k seen = ap (λ (v : StreamValue). v.held) goes.goes_on in
        let offset_is : n.offset ≡ found.end = ap (λ (v : StreamValue). v.offset) goes.goes_on in
        let within : k ≤ length seen = omega (arith, goes.within, goes.some) in
        let longer = append_assoc m.held goes.piece rest.piece in
        record {
          piece = goes.piece ++ rest.piece;
          reads = Consumes-trans m.unread n.unread ended.unread goes.piece rest.piece goes.reads.consumed rest.reads;
          stays = λ whole.
              let was = goes.knows.stays whole in ap (λ l. l ++ rest.piece) was.0 ∙ rest.stays was.1;
          are_all = λ before len.
              let long = length-take-le k seen within in
              let here = rest.are_all (before ++ take k seen)
              (omega (arith, length-append before (take k seen), long, len, offset_is, goes.some)) in
              let text : (before ++ take k seen) ++ (n.held ++ rest.piece) ≡ before ++ (seen ++ rest.piece) = rw (
                held,
                append_assoc before (take k seen) (drop k seen ++ rest.piece),
                ← append_assoc (take k seen) (drop k seen) rest.piece,
                take-append-drop k seen,
              ) refl in
              subst (λ (l : List ℕ). AreAll (before ++ l) m.offset (found ∷ more)) longer
              (over.some (before ++ (seen ++ rest.piece)) m.offset found more
              (goes.leftmost rest.piece rest.stays before len)
              (subst (λ (n : ℕ). AreAll (before ++ (seen ++ rest.piece)) n more) offset_is
              (subst (λ (l : List ℕ). AreAll l n.offset more) text here)));
          len =
              let left = ap (λ (l : List ℕ). length l) held ∙ length-drop k seen in
              omega (
                arith,
                rest.len,
                length-append n.held rest.piece,
                left,
                within,
                offset_is,
                goes.some,
                length-append seen rest.piece,
                ap (λ (l : List ℕ). length l) longer,
              );
        }

    pub read_all : (m : StreamValue) (all : List MatchValue) (n ended : StreamValue) → m.is_over ≡ false
        → Yields (GivesAhead IsFirst Begins margin) m (map Ok all) n
        → GivesAhead IsFirst Begins margin n None ended → HasReadAll m all ended
    read_all m [] n ended not_over stays last =
        let here = subst (λ (v : StreamValue). GivesAhead IsFirst Begins margin v None ended) (sym stays) last in
        read_last m ended (here.1 not_over)
    read_all m (found ∷ more) n ended not_over run last =
        let goes = run.1.2 in
        read_behind m found more run.0 ended goes
        (read_all run.0 more n ended (ap (λ (v : StreamValue). v.is_over) goes.goes_on ∙ not_over) run.2 last)
