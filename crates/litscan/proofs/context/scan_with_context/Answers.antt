use Rattle.std.proofs.Common.{◌≡◌, ◌+◌, ◌++◌, ◌∷◌, ◌∙◌, ◌&&◌, ◌<◌, None, Some, [], Bool, List, ℕ, false, not, true}
use Rattle.std.proofs.Common.{◌≤◌, ap, append-nil, arith, inr, length, map, refl, subst, sym}
use mir.Val.{bool_byte}
use Rattle.std.proofs.lemmas.Grind.{common_steps}
use Rattle.std.proofs.KnownBytes.{Consumes-nil}
use Rattle.std.proofs.lemmas.List.{length_push}
use Rattle.std.proofs.lemmas.List.Elements.{All-nil, All-push}
use Rattle.std.specs.List.{flat_map}
use Rattle.std.specs.Option.{IsSome}
use Rattle.std.specs.declared.io.ErrorKind.TheVariants.{FileTooLarge}
use Rattle.litscan.specs.Lines.{HasNoEnd, last_line, with_end, with_feed}
use Rattle.litscan.specs.Options.{is_enough, limit_of}
use Rattle.litscan.specs.Printed.{CannotRead, ReadsTooMany, counts}
use Rattle.litscan.proofs.lemmas.Lines.{lines_of-feeds, lines_of-split}
use Rattle.litscan.proofs.lemmas.Near.{Answers, NearSoFar, due_if, near_all, near_at_over, near_few, near_kept}
use Rattle.litscan.proofs.lemmas.Near.{near_more, near_new, near_scanned, none_due, one_if}
use Rattle.litscan.proofs.lemmas.Printing.{length-feeds_push}
use Rattle.litscan.proofs.lemmas.Reading.{begins_with, length-feeds_most, ok_gives, read_all, read_failed_if, read_more}
use Rattle.litscan.proofs.lemmas.Reading.{reads_any, reads_enough, reads_front, too_many_with}
use Rattle.litscan.proofs.context.scan_with_context.Goals as goal
use Rattle.litscan.proofs.context.scan_with_context.Goals.{else-not-enough, then-not-enough}
use Rattle.litscan.proofs.context.scan_with_context.Goals.{else-not-fed-via-else-not-fed}
use Rattle.litscan.proofs.context.scan_with_context.Goals.{else-not-fed-via-then-not-fed+else-is_empty}

no_last : (line : List ℕ) → length line ≡ 0 → last_line line ≡ []
no_last [] empty = refl
no_last (byte ∷ more) empty = absurd (omega (arith, empty))

one_last : (line : List ℕ) → 0 < length line → last_line line ≡ line ∷ []
one_last [] some = absurd (omega (arith, some))
one_last (byte ∷ more) some = refl

byte_is : (b : Bool) → bool_byte b ≡ one_if b
byte_is true = refl
byte_is false = refl

few_byte : (b : Bool) → one_if b ≤ 1
few_byte true = omega arith
few_byte false = omega arith

pub loop-alloc-init : goal.loop-alloc-init
loop-alloc-init g c =
    let new = c.new-context.ensures in
    record {
      seen = [];
      cs = [];
      out = [];
      so_far = near_new c.args.search.now c.args.options c.args.separator.now c.args.any c.args.name.now _
          c.new-context.result (ap (map (λ line. line.items)) new.held) new.number new.offset new.due new.any new.apart;
      whole = All-nil (HasNoEnd c.args.options.line_end);
      read = Consumes-nil _;
      offset_is = refl;
      next_offset_is =
          omega (
            arith,
            new.offset,
            ap (λ these. length (flat_map with_feed (map (λ line. line.items) these))) new.held,
          );
      next_number_is = omega (arith, new.number, ap (λ these. length (map (λ line. line.items) these)) new.held);
      small = omega arith;
    }

pub returns-then-is_done-clause-scanned : goal.returns-then-is_done-clause-scanned
returns-then-is_done-clause-scanned g c =
    let at = c.loop-alloc.invariant in
    let ends = none_due c.is_enough-enough.result c.loop-alloc.context.due
    (sym c.is_done.ensures ∙ c.if-is_done.true) in
    let enough : is_enough (limit_of c.args.options) c.loop-alloc.count ≡ true =
    sym (c.is_enough-enough.ensures ∙ ap (λ limit. is_enough limit c.loop-alloc.count) c.limit.ensures) ∙ ends.0 in
    subst (Answers c.args.search.now c.args.options c.args.separator.now c.args.any c.args.name.now _ _ _ _)
    (sym c.whole.ensures)
    (near_scanned at.so_far c.requires.context (flat_map (with_end c.args.options.line_end) at.seen)
    (lines_of-feeds c.args.options.line_end at.seen at.whole) None _ _
    (reads_enough _ _ _ (flat_map (with_end c.args.options.line_end) at.seen)
    (near_all at.so_far c.requires.context enough ends.1) at.read))

pub returns-in-Err-clause-scanned : goal.returns-in-Err-clause-scanned
returns-in-Err-clause-scanned g c =
    let at = c.loop-alloc.invariant in
    let so_far = near_kept at.so_far _ c.in-Err.ensures.kept in
    ok_gives _ _ _ c.failed_behind.result c.failed_behind.ensures
    (λ scanned is.
    subst (Answers c.args.search.now c.args.options c.args.separator.now c.args.any c.args.name.now _ _ _ _)
    (sym is.0)
    (near_scanned so_far c.requires.context (flat_map (with_end c.args.options.line_end) at.seen)
    (lines_of-feeds c.args.options.line_end at.seen at.whole) c.failure.result _ _
    (reads_front c.failure.result _ _ (g.R.Read.remaining c.loop-alloc.reader.inner) _
    (flat_map (with_end c.args.options.line_end) at.seen)
    (subst IsSome (sym c.failure.ensures) (read_failed_if _ _ c.in-Err.fault c.in-Err.ensures.error is.1)) at.read)))

pub pass_ahead-passed-requires-clause-number : goal.pass_ahead-passed-requires-clause-number
pass_ahead-passed-requires-clause-number g c =
    let at = c.loop-alloc.invariant in
    omega (arith, at.next_number_is, at.offset_is, length-feeds_most c.args.options.line_end at.seen)

pub returns-in-Err-read_line-clause-scanned : goal.returns-in-Err-read_line-clause-scanned
returns-in-Err-read_line-clause-scanned g c =
    let passed = c.in-Ok.ensures.passed in
    let here = near_at_over c.loop-alloc.invariant
    (λ enough. due_if c.is_enough-enough.result c.loop-alloc.context.due (sym c.is_done.ensures ∙ c.if-is_done.false)
    (c.is_enough-enough.ensures ∙ ap (λ limit. is_enough limit c.loop-alloc.count) c.limit.ensures ∙ enough))
    passed.1 passed.2 c.in-Ok.ensures.kept in
    let so_far = near_kept here.so_far _ c.in-Err-read_line.ensures.kept in
    let failure = c.failure-in-Err-read_line in
    ok_gives _ _ _ c.failed_behind-in-Err-read_line.result c.failed_behind-in-Err-read_line.ensures
    (λ scanned is.
    subst (Answers c.args.search.now c.args.options c.args.separator.now c.args.any c.args.name.now _ _ _ _)
    (sym is.0)
    (near_scanned so_far c.requires.context (flat_map (with_end c.args.options.line_end) here.seen)
    (lines_of-feeds c.args.options.line_end here.seen here.whole) failure.result _ _
    (reads_front failure.result _ _ (g.R.Read.remaining c.pass_ahead-passed.new.reader.inner) _
    (flat_map (with_end c.args.options.line_end) here.seen)
    (subst IsSome (sym failure.ensures)
    (read_failed_if _ _ c.in-Err-read_line.fault c.in-Err-read_line.ensures.error is.1)) here.read)))

pub returns-in_default-clause-scanned : goal.returns-in_default-clause-scanned
returns-in_default-clause-scanned g c =
    let passed = c.in-Ok.ensures.passed in
    let here = near_at_over c.loop-alloc.invariant
    (λ enough. due_if c.is_enough-enough.result c.loop-alloc.context.due (sym c.is_done.ensures ∙ c.if-is_done.false)
    (c.is_enough-enough.ensures ∙ ap (λ limit. is_enough limit c.loop-alloc.count) c.limit.ensures ∙ enough))
    passed.1 passed.2 c.in-Ok.ensures.kept in
    let so_far = near_kept here.so_far _ c.in-Ok-read_line.ensures.kept in
    subst (Answers c.args.search.now c.args.options c.args.separator.now c.args.any c.args.name.now _ _ _ _)
    (sym c.too_large.ensures)
    (near_scanned so_far c.requires.context (flat_map (with_end c.args.options.line_end) here.seen)
    (lines_of-feeds c.args.options.line_end here.seen here.whole) (Some FileTooLarge)
    (g.R.Read.remaining c.args.reader.now.inner) (g.R.Read.remaining c.read_line.new.reader.inner)
    (begins_with _ (g.R.Read.remaining c.pass_ahead-passed.new.reader.inner)
    (flat_map (with_end c.args.options.line_end) here.seen) here.read))

pub returns-in_default-clause-failed : goal.returns-in_default-clause-failed
returns-in_default-clause-failed g c =
    let passed = c.in-Ok.ensures.passed in
    let here = near_at_over c.loop-alloc.invariant
    (λ enough. due_if c.is_enough-enough.result c.loop-alloc.context.due (sym c.is_done.ensures ∙ c.if-is_done.false)
    (c.is_enough-enough.ensures ∙ ap (λ limit. is_enough limit c.loop-alloc.count) c.limit.ensures ∙ enough))
    passed.1 passed.2 c.in-Ok.ensures.kept in
    subst (λ scanned. CannotRead c.read_line.new.reader.failure
    (ReadsTooMany (g.R.Read.remaining c.args.reader.now.inner) (g.R.Read.remaining c.read_line.new.reader.inner))
    scanned.failure) (sym c.too_large.ensures)
    (inr (
      too_many_with c.args.options.line_end _ _ _
          (flat_map (with_end c.args.options.line_end) here.seen) c.read_line.new.line.items _ here.read
          c.in-Ok-read_line.ensures.bytes
          (omega (arith, c.in_default.ensures, here.offset_is, c.as_slice.ensures.len)),
      refl,
    ))

pub returns-then-is_empty-clause-scanned : goal.returns-then-is_empty-clause-scanned
returns-then-is_empty-clause-scanned g c =
    let passed = c.in-Ok.ensures.passed in
    let here = near_at_over c.loop-alloc.invariant
    (λ enough. due_if c.is_enough-enough.result c.loop-alloc.context.due (sym c.is_done.ensures ∙ c.if-is_done.false)
    (c.is_enough-enough.ensures ∙ ap (λ limit. is_enough limit c.loop-alloc.count) c.limit.ensures ∙ enough))
    passed.1 passed.2 c.in-Ok.ensures.kept in
    let so_far = near_kept here.so_far _ c.in-Ok-read_line.ensures.kept in
    let line = c.read_line.new.line.items in
    let unfed = c.if-not-fed.true in
    let empty : length line ≡ 0 = grind (arith, common_steps) in
    subst (Answers c.args.search.now c.args.options c.args.separator.now c.args.any c.args.name.now _ _ _ _)
    (sym c.whole-then-is_empty.ensures)
    (near_scanned so_far c.requires.context (flat_map (with_end c.args.options.line_end) here.seen ++ line)
    (lines_of-split c.args.options.line_end here.seen line here.whole c.in-Ok-read_line.ensures.whole
    ∙ ap (λ l. here.seen ++ l) (no_last line empty) ∙ append-nil here.seen) None _ _
    (reads_any _ _ _ (flat_map (with_end c.args.options.line_end) here.seen ++ line)
    (read_all c.args.options.line_end _ _ _ (flat_map (with_end c.args.options.line_end) here.seen) line
    c.in-Ok-read_line.fed unfed here.read c.in-Ok-read_line.ensures.bytes c.in-Ok-read_line.ensures.ended)))

pub take-taken-requires-clause-number : goal.take-taken-requires-clause-number
take-taken-requires-clause-number g c =
    let passed = c.in-Ok.ensures.passed in
    let here = near_at_over c.loop-alloc.invariant
    (λ enough. due_if c.is_enough-enough.result c.loop-alloc.context.due (sym c.is_done.ensures ∙ c.if-is_done.false)
    (c.is_enough-enough.ensures ∙ ap (λ limit. is_enough limit c.loop-alloc.count) c.limit.ensures ∙ enough))
    passed.1 passed.2 c.in-Ok.ensures.kept in
    omega (
      arith,
      length-feeds_most c.args.options.line_end here.seen,
      here.offset_is,
      here.next_number_is,
      c.in-Some.ensures,
    )

pub take-taken-requires-clause-offset : goal.take-taken-requires-clause-offset
take-taken-requires-clause-offset g c =
    let passed = c.in-Ok.ensures.passed in
    let here = near_at_over c.loop-alloc.invariant
    (λ enough. due_if c.is_enough-enough.result c.loop-alloc.context.due (sym c.is_done.ensures ∙ c.if-is_done.false)
    (c.is_enough-enough.ensures ∙ ap (λ limit. is_enough limit c.loop-alloc.count) c.limit.ensures ∙ enough))
    passed.1 passed.2 c.in-Ok.ensures.kept in
    omega (arith, here.next_offset_is, c.in-Some.ensures, c.as_slice.ensures.len)

pub overflow_add-count : goal.overflow_add-count
overflow_add-count g c =
    let passed = c.in-Ok.ensures.passed in
    let here = near_at_over c.loop-alloc.invariant
    (λ enough. due_if c.is_enough-enough.result c.loop-alloc.context.due (sym c.is_done.ensures ∙ c.if-is_done.false)
    (c.is_enough-enough.ensures ∙ ap (λ limit. is_enough limit c.loop-alloc.count) c.limit.ensures ∙ enough))
    passed.1 passed.2 c.in-Ok.ensures.kept in
    let one = c.from-count.ensures ∙ byte_is c.if-not-enough.to_count in
    omega (
      arith,
      near_few here.so_far,
      length-feeds_most c.args.options.line_end here.seen,
      here.offset_is,
      c.in-Some.ensures,
      one,
      few_byte c.if-not-enough.to_count,
    )

pub returns-then-not-fed-2-clause-scanned : goal.returns-then-not-fed-2-clause-scanned
returns-then-not-fed-2-clause-scanned g c =
    let passed = c.in-Ok.ensures.passed in
    let here = near_at_over c.loop-alloc.invariant
    (λ enough. due_if c.is_enough-enough.result c.loop-alloc.context.due (sym c.is_done.ensures ∙ c.if-is_done.false)
    (c.is_enough-enough.ensures ∙ ap (λ limit. is_enough limit c.loop-alloc.count) c.limit.ensures ∙ enough))
    passed.1 passed.2 c.in-Ok.ensures.kept in
    let search = c.args.search.now in
    let options = c.args.options in
    let so_far = near_kept here.so_far _ c.in-Ok-read_line.ensures.kept in
    let seen = here.seen in
    let line = c.read_line.new.line.items in
    let to_count = c.if-not-enough.to_count in
    let count = c.loop-alloc.count in
    let enough_is : c.is_enough-enough.result ≡ is_enough (limit_of options) count =
    c.is_enough-enough.ensures ∙ ap (λ limit. is_enough limit count) c.limit.ensures in
    let is : to_count ≡ (not (is_enough (limit_of options) count) && counts search options line) =
    elim c.if-not-enough.branch [
      | then-not-enough w ↦
          w.to_count-is ∙ w.counts-to_count.ensures
          ∙ ap (counts search options) w.as_slice-then-not-enough.ensures.value
          ∙ sym (ap (λ b. b && counts search options line) (ap not (sym enough_is ∙ w.if-not-enough.true)))
      | else-not-enough w ↦
          w.to_count-is ∙ ap not w.if-not-enough.false
          ∙ sym (ap (λ b. b && counts search options line) (ap not (sym enough_is ∙ w.if-not-enough.false)))
    ] in
    let some : is_enough (limit_of options) count ≡ true → 0 < c.pass_ahead-passed.new.self.due =
    λ enough. subst (λ n. 0 < n) (sym passed.2.over.due_is)
    (due_if c.is_enough-enough.result c.loop-alloc.context.due (sym c.is_done.ensures ∙ c.if-is_done.false)
    (enough_is ∙ enough)) in
    let taken = c.in_default-taken.ensures in
    let unfed = c.if-not-fed-2.true in
    let long : 0 < length line =
    elim c.else-not-fed.branch [
      | else-not-fed-via-then-not-fed+else-is_empty w ↦ grind (arith, common_steps)
      | else-not-fed-via-else-not-fed w ↦
          absurd (let both : true ≡ false = sym w.if-not-fed.false ∙ unfed in cc)
    ] in
    let one = c.from-count.ensures ∙ byte_is to_count in
    subst (Answers search options c.args.separator.now c.args.any c.args.name.now _ _ _ _)
    (sym (c.whole-then-not-fed-2.ensures ∙ ap (λ n. record { count = count + n; failure = None }) one))
    (near_scanned
    (near_kept (near_more so_far line taken.printed.0 to_count c.take-taken.new.self is some taken.due
    taken.follows.well taken.printed.1 taken.printed.2) _ c.in_ok-flush_line.ensures.kept)
    c.requires.context (flat_map (with_end c.args.options.line_end) seen ++ line)
    (lines_of-split c.args.options.line_end seen line here.whole c.in-Ok-read_line.ensures.whole
    ∙ ap (λ l. seen ++ l) (one_last line long)) None _ _
    (reads_any _ _ _ (flat_map (with_end c.args.options.line_end) seen ++ line)
    (read_all c.args.options.line_end _ _ _
    (flat_map (with_end c.args.options.line_end) seen) line c.in-Ok-read_line.fed unfed here.read
    c.in-Ok-read_line.ensures.bytes c.in-Ok-read_line.ensures.ended)))

pub loop-alloc-preserved : goal.loop-alloc-preserved
loop-alloc-preserved g c =
    let passed = c.in-Ok.ensures.passed in
    let here = near_at_over c.loop-alloc.invariant
    (λ enough. due_if c.is_enough-enough.result c.loop-alloc.context.due (sym c.is_done.ensures ∙ c.if-is_done.false)
    (c.is_enough-enough.ensures ∙ ap (λ limit. is_enough limit c.loop-alloc.count) c.limit.ensures ∙ enough))
    passed.1 passed.2 c.in-Ok.ensures.kept in
    let search = c.args.search.now in
    let options = c.args.options in
    let so_far = near_kept here.so_far _ c.in-Ok-read_line.ensures.kept in
    let seen = here.seen in
    let line = c.read_line.new.line.items in
    let to_count = c.if-not-enough.to_count in
    let count = c.loop-alloc.count in
    let enough_is : c.is_enough-enough.result ≡ is_enough (limit_of options) count =
    c.is_enough-enough.ensures ∙ ap (λ limit. is_enough limit count) c.limit.ensures in
    let is : to_count ≡ (not (is_enough (limit_of options) count) && counts search options line) =
    elim c.if-not-enough.branch [
      | then-not-enough w ↦
          w.to_count-is ∙ w.counts-to_count.ensures
          ∙ ap (counts search options) w.as_slice-then-not-enough.ensures.value
          ∙ sym (ap (λ b. b && counts search options line) (ap not (sym enough_is ∙ w.if-not-enough.true)))
      | else-not-enough w ↦
          w.to_count-is ∙ ap not w.if-not-enough.false
          ∙ sym (ap (λ b. b && counts search options line) (ap not (sym enough_is ∙ w.if-not-enough.false)))
    ] in
    let some : is_enough (limit_of options) count ≡ true → 0 < c.pass_ahead-passed.new.self.due =
    λ enough. subst (λ n. 0 < n) (sym passed.2.over.due_is)
    (due_if c.is_enough-enough.result c.loop-alloc.context.due (sym c.is_done.ensures ∙ c.if-is_done.false)
    (enough_is ∙ enough)) in
    let taken = c.in_default-taken.ensures in
    let fed = c.if-not-fed-2.false in
    let one = c.from-count.ensures ∙ byte_is to_count in
    let longer = length-feeds_push c.args.options.line_end seen line in
    record {
      seen = seen ++ line ∷ [];
      cs = here.cs ++ to_count ∷ [];
      out = here.out ++ taken.printed.0;
      so_far =
          subst (λ n. NearSoFar search options c.args.separator.now c.args.any c.args.name.now
          (g.W.Write.contents c.args.writer.now.inner) (g.W.Write.contents c.flush_line.new.writer.inner)
          (seen ++ line ∷ []) (here.cs ++ to_count ∷ []) (here.out ++ taken.printed.0) (count + n)
          c.take-taken.new.self) (sym one)
          (near_kept (near_more so_far line taken.printed.0 to_count c.take-taken.new.self is some taken.due
          taken.follows.well taken.printed.1 taken.printed.2) _ c.in_ok-flush_line.ensures.kept);
      whole = All-push (HasNoEnd c.args.options.line_end) seen line here.whole c.in-Ok-read_line.ensures.whole;
      read =
          read_more c.args.options.line_end _ _ _ seen line c.in-Ok-read_line.fed fed here.read
          c.in-Ok-read_line.ensures.bytes;
      offset_is = omega (arith, longer, c.in-Some.ensures, here.offset_is, c.as_slice.ensures.len);
      next_offset_is =
          omega (
            arith,
            taken.follows.offset_is,
            c.in-Some.ensures,
            here.next_offset_is,
            c.as_slice.ensures.len,
          );
      next_number_is = omega (arith, taken.follows.number_is, here.next_number_is, length_push seen line);
      small = omega (arith, c.in-Some.ensures);
    }
