use Rattle.std.proofs.Common.{◌≡◌, ◌∙◌, Some, None, arith, false, refl, subst, sym}
use Rattle.std.specs.IoError.{error_kind}
use Rattle.literal_pieces.specs.Inside.OverlappingStream.{HasCome, overlapping_stream}
use Rattle.literal_pieces.specs.OverlappingStream.{OverlappingStreamValue}
use Rattle.literal_pieces.proofs.lemmas.OverlappingStreams.{comes_nowhere, comes_on, ends_here, fails_here, gives_first}
use Rattle.literal_pieces.proofs.lemmas.Streams.{held_fits, read_whole}
use Rattle.literal_pieces.proofs.overlapping_stream.next_occurrence.Goals as goal

-- from an equal value
went_on : (old now same new : OverlappingStreamValue) → same ≡ now → HasCome old now → HasCome same new
    → HasCome old new
went_on old now same new is come more = comes_on old now new come (subst (λ m. HasCome m new) is more)

pub loop-found-init : goal.loop-found-init
loop-found-init g c = grind (arith, comes_nowhere)

pub returns-in-Some-clause-gives : goal.returns-in-Some-clause-gives
returns-in-Some-clause-gives g c =
    let t = c.args.automaton.now in
    let unread = g.R.Read.remaining c.loop-found.reader in
    let so_far = c.loop-found.invariant in
    let (given_is, left, pattern_is, end_is, start_is) = c.in-Some.ensures.found in
    let same = c.in-Some.ensures.same in
    let fits = held_fits c.loop-found.window so_far.stream.window in
    gives_first
    (overlapping_stream t c.args.place.now c.args.window.now c.args.reading.now (g.R.Read.remaining c.args.reader.now)
    false)
    (overlapping_stream t c.loop-found.place c.loop-found.window c.loop-found.reading unread false) so_far.come
    c.loop-found.place.ending.now so_far.place.ending c.loop-found.place.given c.in-Some.found
    (overlapping_stream t c.next_ending.new.place c.loop-found.window c.loop-found.reading unread false)
    c.requires.place.text (record { long = c.requires.place.long; after = c.requires.place.after }) left refl
    pattern_is end_is start_is (omega arith) (grind arith)

pub loop-found-preserved : goal.loop-found-preserved
loop-found-preserved g c =
    let so_far = c.loop-found.invariant in
    let same = c.in_default.ensures.same in
    let one = c.go_on.ensures in
    let place_is : c.next_ending.new.place ≡ c.loop-found.place = grind arith in
    let come = went_on _ _ _ _ (grind arith) so_far.come one.come in
    let further = one.further (grind arith) in
    record { stream = one.stream; place = one.place; come = come; counted = grind arith; later = omega arith }

pub returns-in-Some-take_error-clause-gives : goal.returns-in-Some-take_error-clause-gives
returns-in-Some-take_error-clause-gives g c =
    let so_far = c.loop-found.invariant in
    let same = c.in_default.ensures.same in
    let one = c.go_on.ensures in
    let place_is : c.next_ending.new.place ≡ c.loop-found.place = grind arith in
    let come = went_on _ _ _ _ (grind arith) so_far.come one.come in
    let (empty, closed, all) = one.over (grind arith) in
    let failure = c.take_error.ensures.failure in
    let failed : c.go_on.new.reading.failure ≡ Some (error_kind c.in-Some-take_error.error) = grind arith in
    fails_here _ (overlapping_stream c.args.automaton.now c.go_on.new.place c.go_on.new.window c.go_on.new.reading
    (g.R.Read.remaining c.go_on.new.reader) false) come c.go_on.new.place.ending.now one.place.ending (grind arith)
    empty _ (grind arith)
    c.in-Some-take_error.error failed

pub returns-in-None-clause-gives : goal.returns-in-None-clause-gives
returns-in-None-clause-gives g c =
    let so_far = c.loop-found.invariant in
    let same = c.in_default.ensures.same in
    let one = c.go_on.ensures in
    let place_is : c.next_ending.new.place ≡ c.loop-found.place = grind arith in
    let come = went_on _ _ _ _ (grind arith) so_far.come one.come in
    let (empty, closed, all) = one.over (grind arith) in
    let failure = c.take_error.ensures.failure in
    let none : c.go_on.new.reading.failure ≡ None = sym failure ∙ c.in-None.ensures.error in
    let whole = read_whole c.go_on.new.reading.is_whole c.go_on.new.reading.failure c.go_on.new.reading.error
    one.stream.reading.failure closed none in
    ends_here _ (overlapping_stream c.args.automaton.now c.go_on.new.place c.go_on.new.window c.go_on.new.reading
    (g.R.Read.remaining c.go_on.new.reader) false) come c.go_on.new.place.ending.now one.place.ending (grind arith)
    empty _ (grind arith)
    (one.stream.reading.whole whole) none
