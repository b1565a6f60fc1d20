-- A text that is read piece by piece, and written with its matches rewritten.
use Rattle.std.proofs.Common.{◌≡◌, ℕ, ◌-◌, ◌<◌, ◌≤◌, ◌^◌, ◌++◌, [], inl, inr, IfErr, List, None, Option, Result, ap}
use Rattle.std.proofs.Common.{arith, drop, eqb-true, of_calls, subst, sym, true, ◌∙◌}
use Rattle.std.proofs.KnownBytes.{Consumes-trans}
use Rattle.std.proofs.lemmas.Bool.{cases_lt}
use Rattle.std.proofs.lemmas.List.{length-drop}
use Rattle.std.proofs.lemmas.Option.{none-some}
use Rattle.std.specs.Bool.{⊤}
use Rattle.std.specs.Borrow.{Bor, MutBor}
use Rattle.std.specs.Io.KnownBytes.{Consumes}
use Rattle.std.specs.Result.{IsErrAnd}
use Rattle.std.specs.declared.io.Error.{Error}
use Rattle.std.specs.declared.io.ErrorKind.{ErrorKind}
use Rattle.literal_base.specs.MatchValue.{MatchValue}
use Rattle.literal_pieces.specs.ReplacedStream.{StopsRewritingOf}
use Rattle.literal_pieces.specs.Inside.Rewriting.{IsOfFailure}
use Rattle.literal_pieces.specs.Inside.Sought.{AnswersAhead, margin_of, reach_of}
use Rattle.literal_pieces.specs.Inside.Stream.{IsSearchIn, held, kept_back}
use Rattle.literal_pieces.specs.declared.replace_stream.ReplaceStreamError.{ReplaceStreamError}
use Rattle.literal_leftmost.specs.declared.so_far.SoFar.TheVariants.{NoneBefore}
use Rattle.literal_pieces.proofs.lemmas.Rewritten.{all_rewritten, none_rewritten, turn_matched, turn_passed}
use Rattle.literal_pieces.proofs.replace_stream.rewrite.Goals.{in-Found+in_ok-put-in-Found+in_ok-after_write-in-Found}
use Rattle.literal_pieces.proofs.replace_stream.rewrite.Goals.{in-NoneBefore+in_ok-put-in-NoneBefore}
use Rattle.literal_pieces.proofs.lemmas.Sought.{search_stays}
use Rattle.literal_pieces.proofs.lemmas.Streams.{held_fits, read_whole}
use Rattle.literal_pieces.proofs.replace_stream.rewrite.Goals as goal

-- a write or a call that fails ends it
stops_writing : {F W A : Type 0} (contents : W → Option (List ℕ))
    (step : F → MatchValue → Bor (List ℕ) → MutBor W → Result ⊤ Error → MutBor W → F → Type 0)
    (AreMatches : List ℕ → ℕ → List MatchValue → Type 0) (reach : ℕ) (replace : F)
    (unread left held written : Option (List ℕ)) (text : List ℕ) (failure : Option ErrorKind)
    (result : Result A ReplaceStreamError) (error : ReplaceStreamError) → Consumes unread left text
    → IsOfFailure None failure error → IsErrAnd result (λ e. e ≡ error)
    → IfErr result (StopsRewritingOf contents step AreMatches reach replace unread left held written)
stops_writing contents step AreMatches reach replace unread left held written text failure result error reads is same =
    grind (arith, none-some)

pub loop-is_over-init : goal.loop-is_over-init
loop-is_over-init g c = grind (arith, none_rewritten)

pub returns-in_err-put-in-Found-clause-error : goal.returns-in_err-put-in-Found-clause-error
returns-in_err-put-in-Found-clause-error g c =
    let before = c.loop-is_over.invariant.rewritten in
    let read = c.next_known.ensures.read in
    stops_writing _ _ _ _ _ _ _ _ _ (before.text ++ read.0) c.put.new.failure c.from_residual.result _
    (Consumes-trans _ _ _ before.text read.0 before.reads read.1) c.in_err-put-in-Found.ensures.error
    c.from_residual.ensures.1

pub returns-in_err-after_write-in-Found-clause-error : goal.returns-in_err-after_write-in-Found-clause-error
returns-in_err-after_write-in-Found-clause-error g c =
    let before = c.loop-is_over.invariant.rewritten in
    let read = c.next_known.ensures.read in
    stops_writing _ _ _ _ _ _ _ _ _ (before.text ++ read.0) c.after_write.new.failure
    c.from_residual-in_err-after_write-in-Found.result _
    (Consumes-trans _ _ _ before.text read.0 before.reads read.1) c.in_err-after_write-in-Found.ensures.error
    c.from_residual-in_err-after_write-in-Found.ensures.1

pub returns-in_err-put-in-NoneBefore-clause-error : goal.returns-in_err-put-in-NoneBefore-clause-error
returns-in_err-put-in-NoneBefore-clause-error g c =
    let before = c.loop-is_over.invariant.rewritten in
    let read = c.next_known.ensures.read in
    stops_writing _ _ _ _ _ _ _ _ _ (before.text ++ read.0) c.put-in-NoneBefore.new.failure
    c.from_residual-in_err-put-in-NoneBefore.result _
    (Consumes-trans _ _ _ before.text read.0 before.reads read.1) c.in_err-put-in-NoneBefore.ensures.error
    c.from_residual-in_err-put-in-NoneBefore.ensures.1

pub loop-is_over-preserved : goal.loop-is_over-preserved
loop-is_over-preserved g c =
    let one = c.next_known.ensures in
    let so_far = c.loop-is_over.invariant in
    let (piece, consumed, seen_is, on) = one.read in
    let was = c.loop-is_over.reading.is_whole in
    let is = c.next_known.new.reading.is_whole in
    let still : was ≡ true → (is ≡ true) × (piece ≡ []) = grind arith in
    let v = c.next_known.new.window in
    let at = c.loop-is_over.at in
    let to = c.match-next_known.to in
    let begin = one.held.begin in
    let reach = one.held.reach in
    let margin_is = c.margin.ensures in
    let rest_is : held c.hold_from.new.self
    ≡ drop ((to - margin_of c.args.sought.now) - (at - margin_of c.args.sought.now)) (held v) =
    subst (λ (n : ℕ). held c.hold_from.new.self ≡ drop ((to - margin_of c.args.sought.now) - n) (held v)) begin
    (subst (λ (n : ℕ). held c.hold_from.new.self ≡ drop ((to - n) - v.offset) (held v)) margin_is
    c.hold_from.ensures.held) in
    record {
      sound = grind arith;
      held_from = rw margin_is at c.hold_from.ensures.from;
      search = search_stays c.args.sought.now v c.hold_from.new.self c.next_known.new.reading to c.next_known.new.ahead
          c.hold_from.ensures.block c.hold_from.ensures.begins (elim c.match-next_known.branch [
            | in-Found+in_ok-put-in-Found+in_ok-after_write-in-Found w ↦
                let there : w.in-Found.found.end ≡ to = sym (w.to-is ∙ w.end-to.ensures.end) in
                subst (λ (n : ℕ). IsSearchIn c.args.sought.now v c.next_known.new.reading n c.next_known.new.ahead)
                there w.in-Found.ensures.search
            | in-NoneBefore+in_ok-put-in-NoneBefore w ↦
                subst (λ (n : ℕ). IsSearchIn c.args.sought.now v c.next_known.new.reading n c.next_known.new.ahead)
                (sym w.to-is)
                w.in-NoneBefore.ensures.search
          ]);
      rewritten = elim c.match-next_known.branch [
        | in-Found+in_ok-put-in-Found+in_ok-after_write-in-Found w ↦
            let first = w.in-Found.ensures in
            let some = first.known.1 in
            let writes = w.in_ok-put-in-Found.ensures.written in
            let part_is = w.between.ensures in
            let again_is = w.between-bytes.ensures in
            let start_is = w.start.ensures.start in
            let end_is = w.end.ensures.end in
            let begin_is = w.start-in-Found.ensures.start in
            let told = w.after_write.ensures.told in
            let done = w.in_ok-after_write-in-Found.was in
            turn_matched _ _ _ _ _ _ was is at to (held c.loop-is_over.window) piece (held v)
            (held c.hold_from.new.self) _ _ _ _ still consumed seen_is so_far.rewritten rest_is w.in-Found.found _ _ _
            w.replace-answer.result _ c.match-next_known.replace
            (g.W.Write.contents c.match-next_known.writer) (grind arith) w.replace-answer.ensures w.replace-is
            (grind arith)
            first.known.0 first.known.1 (omega (arith, first.known.2, begin)) first.answers (grind arith) (grind arith)
            (grind arith)
        | in-NoneBefore+in_ok-put-in-NoneBefore w ↦
            let none = w.in-NoneBefore.ensures in
            let writes = w.in_ok-put-in-NoneBefore.ensures.written in
            let part_is = w.between-in-NoneBefore.ensures in
            let to_is : to ≡ w.in-NoneBefore.offset = w.to-is in
            turn_passed _ _ _ _ _ _ was is at to (held c.loop-is_over.window) piece (held v)
            (held c.hold_from.new.self) _ _ _ _ still consumed seen_is so_far.rewritten rest_is
            (g.W.Write.contents c.match-next_known.writer) c.match-next_known.replace w.replace-is
            (omega (arith, none.known, to_is)) (omega (arith, none.known, to_is, begin, reach))
            (subst (λ (n : ℕ). (more : List ℕ) → (is ≡ true → more ≡ [])
            → AnswersAhead c.args.sought.now at (held v ++ more) (NoneBefore n)) (sym to_is) none.answers) (grind arith)
      ];
      callable = elim c.match-next_known.branch [
        | in-Found+in_ok-put-in-Found+in_ok-after_write-in-Found w ↦
            search (of_calls, so_far.callable, w.replace-answer.ensures, w.replace-is)
        | in-NoneBefore+in_ok-put-in-NoneBefore w ↦ search (of_calls, so_far.callable, w.replace-is)
      ];
      over = grind (arith, eqb-true, length-drop);
    }

pub loop-is_over-smaller : goal.loop-is_over-smaller
loop-is_over-smaller g c =
    let at = c.loop-is_over.at in
    let to = c.match-next_known.to in
    let later : at ≤ to = elim c.match-next_known.branch [
      | in-Found+in_ok-put-in-Found+in_ok-after_write-in-Found w ↦
          omega (arith, w.in-Found.ensures.known.0, w.in-Found.ensures.known.1, w.end-to.ensures.end, w.to-is)
      | in-NoneBefore+in_ok-put-in-NoneBefore w ↦ omega (arith, w.in-NoneBefore.ensures.known, w.to-is)
    ] in
    let before = c.next_known.ensures.held.reach in
    let fits : at < 2 ^ 64 = omega (arith, before, held_fits c.next_known.new.window c.next_known.ensures.sound.window)
    in
    elim (cases_lt at to) [
      | inl on ↦ grind (arith, c.loop-is_over-test.true)
      | inr stays ↦ let same : to ≡ at = omega (arith, later, stays) in grind (arith, c.loop-is_over-test.true)
    ]

pub returns-clause-ok : goal.returns-clause-ok
returns-clause-ok g c =
    let so_far = c.loop-is_over.invariant in
    let s = c.loop-is_over.reading in
    let reading = so_far.sound.reading in
    let over = so_far.over c.loop-is_over-test.false in
    let whole = read_whole s.is_whole s.failure s.error reading.failure over.0
    (sym c.take_error.ensures.failure ∙ c.in-None.ensures.error) in
    let begin = so_far.held_from.begin in
    all_rewritten _ _ _ _ _ _ s.is_whole c.loop-is_over.at (held c.loop-is_over.window) _ _ _ whole
    (omega (arith, over.1, begin, ap (kept_back (reach_of c.args.sought.now)) whole)) over.2
    (reading.whole whole) so_far.rewritten
