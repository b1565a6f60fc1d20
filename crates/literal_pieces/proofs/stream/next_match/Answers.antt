use Rattle.std.proofs.Common.{Option, ◌≡◌, ◌+◌, ◌-◌, ◌≤◌, ◌++◌, ◌∙◌, [], List, ℕ, None, Some, ap, append-nil, arith}
use Rattle.std.proofs.Common.{drop, false, length, length-append, refl, subst, sym, true}
use Rattle.std.specs.Bool.{if◌then◌else◌}
use Rattle.std.specs.Option.{is_none}
use Rattle.std.specs.declared.io.Error.{Error}
use Rattle.std.proofs.Math.Seq.{drop-length}
use Rattle.std.specs.IoError.{error_kind}
use Rattle.literal_rows.specs.Patterns.{longest_of}
use Rattle.literal_pieces.specs.Inside.Sought.{Begins, IsFirst, margin_of, reach_of, search_of}
use Rattle.literal_pieces.specs.Inside.Stream.{IsSearchIn, held, kept_back, looked_so_far, stream_value}
use Rattle.literal_pieces.proofs.lemmas.StreamCounts.{done_at_end, few_at_end, few_in_window, same_so_far, scans_on}
use Rattle.literal_pieces.proofs.lemmas.Sought.{goes_from, nothing_last, search_stays}
use Rattle.literal_pieces.proofs.lemmas.Streams.{ends_failed, ends_whole, goes_behind, gone_nowhere, gone_on, gone_past}
use Rattle.literal_pieces.proofs.lemmas.Streams.{held_fits, read_in_part, read_whole, value_past}
use Rattle.literal_pieces.proofs.stream.next_match.Goals as goal

pub loop-found-init : goal.loop-found-init
loop-found-init g c = record {
  sound = c.requires.sound;
  held = c.requires.held;
  search = c.requires.search;
  gone = grind (arith, goes_from, gone_nowhere);
  scans = record { others = refl; most = omega arith };
}

pub returns-in-Found-clause-gives : goal.returns-in-Found-clause-gives
returns-in-Found-clause-gives g c =
    let sought = c.args.sought.now in
    let margin = margin_of sought in
    let search = search_of sought in
    let at = c.loop-found.at in
    let old = stream_value sought c.args.window.now c.args.at.now c.args.ahead.now c.args.reading.now
    (g.R.Read.remaining c.args.reader.now) false in
    let before = c.loop-found.invariant in
    let v = c.next_known.new.window in
    let s = c.next_known.new.reading in
    let next = c.next_known.new.ahead in
    let left = g.R.Read.remaining c.next_known.new.reader in
    let one = c.in-Found.ensures in
    let found = c.in-Found.found in
    let margin_is = c.margin.ensures in
    let held_is = c.hold_from.ensures.held in
    let end_is = c.end.ensures.end in
    let begin = one.held.begin in
    goes_behind (IsFirst sought) (Begins sought) margin (goes_from sought) old
    (stream_value sought v at next s left false)
    (stream_value sought c.hold_from.new.self c.end.result next s left false)
    (gone_on (IsFirst sought) (Begins sought) margin (goes_from sought) old sought c.loop-found.window v at
    c.loop-found.ahead next c.loop-found.reading s _ left before.sound.reading one.read before.gone) found
    (λ more over. one.answers more over) one.sound.reading.whole
    (omega (arith, one.known.0, one.known.1)) (omega (arith, one.known.2, begin))
    (omega (arith, one.known.2, held_fits v one.sound.window))
    (value_past sought v c.hold_from.new.self at c.end.result found.end next s s left false _ end_is
    (held_is ∙ ap (λ n. drop n (held v)) (omega (arith, end_is, margin_is, begin))) refl refl)

pub returns-in-Found-clause-sound : goal.returns-in-Found-clause-sound
returns-in-Found-clause-sound g c =
    let sought = c.args.sought.now in
    let v = c.next_known.new.window in
    let one = c.in-Found.ensures in
    let margin_is = c.margin.ensures in (
      record {
        window = c.hold_from.ensures.window;
        room = omega (arith, one.sound.room, c.hold_from.ensures.room);
        reading = one.sound.reading;
      },
      rw margin_is at c.hold_from.ensures.from,
      search_stays sought v c.hold_from.new.self c.next_known.new.reading c.end.result c.next_known.new.ahead
          c.hold_from.ensures.block
          c.hold_from.ensures.begins
          (subst (λ (at : ℕ). IsSearchIn sought v c.next_known.new.reading at c.next_known.new.ahead)
          (sym c.end.ensures.end) one.search),
    )

pub returns-in-Found-clause-scans : goal.returns-in-Found-clause-scans
returns-in-Found-clause-scans g c =
    let sought = c.args.sought.now in
    let v = c.next_known.new.window in
    let next = c.next_known.new.ahead in
    scans_on c.loop-found.invariant.scans c.in-Found.ensures.scans
    (ap (λ n. looked_so_far sought c.hold_from.new.self n next) c.end.ensures.end
    ∙ same_so_far sought v c.hold_from.new.self c.in-Found.found.end next c.hold_from.ensures.begins)

pub returns-in-Found-clause-few : goal.returns-in-Found-clause-few
returns-in-Found-clause-few g c =
    let sound = returns-in-Found-clause-sound g c in
    few_in_window c.args.sought.now c.hold_from.new.self c.next_known.new.reading c.end.result c.next_known.new.ahead
    sound.0.window sound.1 sound.2

pub loop-found-preserved : goal.loop-found-preserved
loop-found-preserved g c =
    let sought = c.args.sought.now in
    let margin = margin_of sought in
    let search = search_of sought in
    let at = c.loop-found.at in
    let old = stream_value sought c.args.window.now c.args.at.now c.args.ahead.now c.args.reading.now
    (g.R.Read.remaining c.args.reader.now) false in
    let before = c.loop-found.invariant in
    let v = c.next_known.new.window in
    let s = c.next_known.new.reading in
    let next = c.next_known.new.ahead in
    let left = g.R.Read.remaining c.next_known.new.reader in
    let one = c.in-NoneBefore.ensures in
    let offset = c.in-NoneBefore.offset in
    let in_part = (c.if-is_open.ensures.0 refl).0 in
    let margin_is = c.margin-in-NoneBefore.ensures in
    let held_is = c.hold_from-in-NoneBefore.ensures.held in
    let begin = one.held.begin in
    let reach = one.held.reach in
    record {
      sound = grind arith;
      held = rw margin_is at c.hold_from-in-NoneBefore.ensures.from;
      search = search_stays sought v c.hold_from-in-NoneBefore.new.self s offset next
          c.hold_from-in-NoneBefore.ensures.block c.hold_from-in-NoneBefore.ensures.begins one.search;
      gone = gone_past (IsFirst sought) (Begins sought) margin (goes_from sought) old
          (stream_value sought v at next s left false)
          (stream_value sought c.hold_from-in-NoneBefore.new.self offset next s left false) offset
          (omega (arith, one.known)) (omega (arith, one.known, begin, reach))
          (λ more. one.answers more (λ is. absurd (cc)))
          (value_past sought v c.hold_from-in-NoneBefore.new.self at offset offset next s s left false _ refl
          (held_is ∙ ap (λ n. drop n (held v)) (omega (arith, margin_is, begin))) refl refl)
          (gone_on (IsFirst sought) (Begins sought) margin (goes_from sought) old sought c.loop-found.window v at
          c.loop-found.ahead next c.loop-found.reading s _ left before.sound.reading one.read before.gone);
      scans = scans_on before.scans one.scans
          (same_so_far sought v c.hold_from-in-NoneBefore.new.self offset next
          c.hold_from-in-NoneBefore.ensures.begins
          ∙ ap (λ (e : Option Error). looked_so_far sought v (if is_none e then offset else v.offset + length (held v))
          next) (sym (c.if-is_open.ensures.0 refl).1));
    }

pub returns-in-Some-clause-scans : goal.returns-in-Some-clause-scans
returns-in-Some-clause-scans g c =
    let v = c.next_known.new.window in
    let one = c.in-NoneBefore-2.ensures in
    let len = ap (λ (l : List ℕ). length l) c.held.ensures in
    scans_on c.loop-found.invariant.scans one.scans
    (done_at_end c.args.sought.now v c.pass.new.self c.next_known.new.reading c.in-NoneBefore-2.field-0
    c.next_known.new.ahead c.pass.ensures.begins (omega (arith, c.pass.ensures.offset, len)) c.loop-found.at
    (λ more. let is : false ≡ true = c.if-is_open.ensures.1 more in (cc)) one.known one.held.reach)

pub returns-in-Some-clause-few : goal.returns-in-Some-clause-few
returns-in-Some-clause-few g c =
    let one = c.in-NoneBefore-2.ensures in
    let len = ap (λ (l : List ℕ). length l) c.held.ensures in
    few_at_end c.args.sought.now c.next_known.new.window c.pass.new.self c.next_known.new.reading
    c.in-NoneBefore-2.field-0 c.next_known.new.ahead c.pass.ensures.begins
    (omega (arith, c.pass.ensures.offset, len)) one.sound.window one.search

pub returns-in-Some-clause-gives : goal.returns-in-Some-clause-gives
returns-in-Some-clause-gives g c =
    let sought = c.args.sought.now in
    let margin = margin_of sought in
    let search = search_of sought in
    let at = c.loop-found.at in
    let old = stream_value sought c.args.window.now c.args.at.now c.args.ahead.now c.args.reading.now
    (g.R.Read.remaining c.args.reader.now) false in
    let before = c.loop-found.invariant in
    let v = c.next_known.new.window in
    let s = c.next_known.new.reading in
    let next = c.next_known.new.ahead in
    let left = g.R.Read.remaining c.next_known.new.reader in
    let one = c.in-NoneBefore-2.ensures in
    let failure = c.take_error.ensures.failure in
    let same = c.take_error.ensures.is_whole in
    let failed : s.failure ≡ Some (error_kind c.in-Some.error) = sym failure ∙ c.in-Some.ensures.error in
    let in_part = read_in_part s.is_whole s.failure s.error (error_kind c.in-Some.error) one.sound.reading.failure
    one.sound.reading.apart failed in
    let behind : held c.pass.new.self ≡ [] = grind (arith, drop-length) in
    let len = ap (λ (l : List ℕ). length l) c.held.ensures in
    let begin = one.held.begin in
    let offset_is : c.pass.new.self.offset ≡ (at - margin) + length (held v) = grind arith in
    let far : (at - margin) + length (held v) - (longest_of search.query.patterns + margin - 1)
    ≤ c.in-NoneBefore-2.field-0 =
    omega (arith, one.known, begin, ap (kept_back (reach_of sought)) in_part) in
    ends_failed (IsFirst sought) (Begins sought) margin (goes_from sought) old
    (stream_value sought v at next s left false)
    (stream_value sought c.pass.new.self c.pass.new.self.offset next c.take_error.new.self left true)
    (gone_on (IsFirst sought) (Begins sought) margin (goes_from sought) old sought c.loop-found.window v at
    c.loop-found.ahead next c.loop-found.reading s _ left before.sound.reading one.read before.gone) c.in-Some.error
    one.sound.reading.whole
    failed
    (λ more prefix is i p begins.
    omega (arith, far, one.answers more (λ over. absurd (cc)) prefix is i p begins))
    (value_past sought v c.pass.new.self at c.pass.new.self.offset _ next s c.take_error.new.self left true [] offset_is
    behind failure same)

pub returns-in-None-clause-scans : goal.returns-in-None-clause-scans
returns-in-None-clause-scans g c =
    let v = c.next_known.new.window in
    let one = c.in-NoneBefore-2.ensures in
    let len = ap (λ (l : List ℕ). length l) c.held.ensures in
    scans_on c.loop-found.invariant.scans one.scans
    (done_at_end c.args.sought.now v c.pass.new.self c.next_known.new.reading c.in-NoneBefore-2.field-0
    c.next_known.new.ahead c.pass.ensures.begins (omega (arith, c.pass.ensures.offset, len)) c.loop-found.at
    (λ more. let is : false ≡ true = c.if-is_open.ensures.1 more in (cc)) one.known one.held.reach)

pub returns-in-None-clause-few : goal.returns-in-None-clause-few
returns-in-None-clause-few g c =
    let one = c.in-NoneBefore-2.ensures in
    let len = ap (λ (l : List ℕ). length l) c.held.ensures in
    few_at_end c.args.sought.now c.next_known.new.window c.pass.new.self c.next_known.new.reading
    c.in-NoneBefore-2.field-0 c.next_known.new.ahead c.pass.ensures.begins
    (omega (arith, c.pass.ensures.offset, len)) one.sound.window one.search

pub returns-in-None-clause-gives : goal.returns-in-None-clause-gives
returns-in-None-clause-gives g c =
    let sought = c.args.sought.now in
    let margin = margin_of sought in
    let search = search_of sought in
    let at = c.loop-found.at in
    let old = stream_value sought c.args.window.now c.args.at.now c.args.ahead.now c.args.reading.now
    (g.R.Read.remaining c.args.reader.now) false in
    let before = c.loop-found.invariant in
    let v = c.next_known.new.window in
    let s = c.next_known.new.reading in
    let next = c.next_known.new.ahead in
    let left = g.R.Read.remaining c.next_known.new.reader in
    let one = c.in-NoneBefore-2.ensures in
    let failure = c.take_error.ensures.failure in
    let same = c.take_error.ensures.is_whole in
    let none : s.failure ≡ None = sym failure ∙ c.in-None.ensures.error in
    let whole = read_whole s.is_whole s.failure s.error one.sound.reading.failure
    (λ more. let is : false ≡ true = c.if-is_open.ensures.1 more in (cc)) none in
    let behind : held c.pass.new.self ≡ [] = grind (arith, drop-length) in
    let len = ap (λ (l : List ℕ). length l) c.held.ensures in
    let begin = one.held.begin in
    let offset_is : c.pass.new.self.offset ≡ (at - margin) + length (held v) = grind arith in
    let far : (at - margin) + length (held v) ≤ c.in-NoneBefore-2.field-0 = grind arith in
    ends_whole (IsFirst sought) (Begins sought) margin (goes_from sought) old
    (stream_value sought v at next s left false)
    (stream_value sought c.pass.new.self c.pass.new.self.offset next c.take_error.new.self left true)
    (gone_on (IsFirst sought) (Begins sought) margin (goes_from sought) old sought c.loop-found.window v at
    c.loop-found.ahead next c.loop-found.reading s _ left before.sound.reading one.read before.gone) whole
    (one.sound.reading.whole whole) none
    (λ prefix is. nothing_last sought (prefix ++ held v) at one.not_empty (λ i p begins.
    omega (
      arith,
      far,
      is,
      length-append prefix (held v),
      one.answers [] (λ over. refl) prefix is i p
          (subst (λ (l : List ℕ). Begins sought (prefix ++ l) at i p) (sym (append-nil (held v))) begins),
    )))
    (value_past sought v c.pass.new.self at c.pass.new.self.offset _ next s c.take_error.new.self left true [] offset_is
    behind failure same)
