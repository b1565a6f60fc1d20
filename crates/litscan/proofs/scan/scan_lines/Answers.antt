use Rattle.std.proofs.Common.{◌≡◌, ◌+◌, ◌++◌, None, Some, ◌∷◌, [], Bool, ℕ, Option, false, true}
use Rattle.std.proofs.Common.{refl, inr, sym, ap, subst, ◌∙◌, arith}
use Rattle.std.proofs.KnownBytes.{Appends-nil, Consumes-nil}
use Rattle.std.proofs.lemmas.List.{nil_from_length}
use Rattle.std.proofs.lemmas.List.Elements.{All-nil}
use Rattle.std.specs.Io.KnownBytes.{Consumes}
use Rattle.std.specs.List.{count_by, flat_map}
use Rattle.std.specs.Option.{IsSome}
use Rattle.std.specs.declared.io.ErrorKind.TheVariants.{FileTooLarge}
use Rattle.litscan.specs.Lines.{HasNoEnd, with_end}
use Rattle.litscan.specs.Inside.Passed.{lines_read}
use Rattle.litscan.specs.Options.{is_enough, is_silent, limit_of}
use Rattle.litscan.specs.Printed.{CannotRead, PrintsUnlessSilent, ReadsTooMany, counts}
use Rattle.litscan.specs.declared.options.Options.{Options}
use Rattle.litscan.proofs.lemmas.Passing.{Answers, ended_so_far, failed_so_far, few_so_far, kept_so_far, none_counted}
use Rattle.litscan.proofs.lemmas.Passing.{none_taken}
use Rattle.litscan.proofs.lemmas.Passing.{read_on}
use Rattle.litscan.proofs.lemmas.Passing.{scanned_so_far, taken_on}
use Rattle.litscan.proofs.lemmas.Printing.{prints_none}
use Rattle.litscan.proofs.lemmas.Reading.{begins_with, ok_gives, read_failed_if, reads_enough}
use Rattle.litscan.proofs.lemmas.Reading.{too_many_with}
use Rattle.litscan.proofs.scan.scan_lines.Goals as goal

-- where so many lines were not said to be enough, they are not
not_yet : (options : Options) (count : ℕ) {limit : Option ℕ} {said : Bool} → said ≡ is_enough limit count
    → limit ≡ limit_of options → said ≡ false → is_enough (limit_of options) count ≡ false
not_yet options count is same unsaid = ap (λ l. is_enough l count) (sym same) ∙ sym is ∙ unsaid

-- nor are they with no more
still_not : (options : Options) (count more : ℕ) → more ≡ 0 → is_enough (limit_of options) count ≡ false
    → is_enough (limit_of options) (count + more) ≡ false
still_not options count more none before =
    let same : count + more ≡ count = omega (arith, none) in
    ap (λ n. is_enough (limit_of options) n) same ∙ before

pub loop-options-init : goal.loop-options-init
loop-options-init g c = record {
  seen = [];
  out = [];
  so_far = record {
    whole = All-nil (HasNoEnd c.args.options.line_end);
    read = Consumes-nil _;
    lines_are = refl;
    offset_is = refl;
    stops = λ n below. absurd (omega (arith, below));
    counted = refl;
    written_are = Appends-nil _;
    printed = prints_none c.args.search.now c.args.options c.args.name.now (is_silent c.args.options) 1 0;
  };
  small = omega arith;
}

pub take_ahead-requires-clause-few : goal.take_ahead-requires-clause-few
take_ahead-requires-clause-few g c = (few_so_far c.loop-options.invariant.so_far).1

-- what was printed of the lines so far, where no more is read
pub returns-then-is_enough-clause-scanned : goal.returns-then-is_enough-clause-scanned
returns-then-is_enough-clause-scanned g c =
    let so_far = c.loop-options.invariant.so_far in
    let enough : is_enough (limit_of c.args.options) c.loop-options.count ≡ true =
    sym (c.is_enough.ensures ∙ ap (λ limit. is_enough limit c.loop-options.count) c.limit.ensures)
    ∙ c.if-is_enough.true in
    subst (Answers c.args.search.now c.args.options c.args.name.now _ _ _ _) (sym c.whole.ensures)
    (scanned_so_far so_far _ None
    (reads_enough _ _ _ (flat_map (with_end c.args.options.line_end) c.loop-options.invariant.seen) enough so_far.read))

pub returns-in-Err-clause-scanned : goal.returns-in-Err-clause-scanned
returns-in-Err-clause-scanned g c =
    ok_gives _ _ _ c.failed_behind.result c.failed_behind.ensures
    (λ scanned is. failed_so_far (kept_so_far c.loop-options.invariant.so_far _ (c.in-Err.ensures.kept is.1)) _ scanned
    is.0 (subst IsSome (sym c.failure.ensures) (read_failed_if _ _ c.in-Err.fault c.in-Err.ensures.error is.1)))

pub overflow_add-count : goal.overflow_add-count
overflow_add-count g c =
    let no = not_yet c.args.options c.loop-options.count c.is_enough.ensures c.limit.ensures c.if-is_enough.false in
    let takes = c.in-Ok.ensures.takes in
    omega (arith, few_so_far (taken_on c.loop-options.invariant.so_far no takes.1 takes.2), takes.2.small)

pub overflow_add-lines : goal.overflow_add-lines
overflow_add-lines g c =
    let no = not_yet c.args.options c.loop-options.count c.is_enough.ensures c.limit.ensures c.if-is_enough.false in
    let takes = c.in-Ok.ensures.takes in
    omega (arith, few_so_far (taken_on c.loop-options.invariant.so_far no takes.1 takes.2), takes.2.small)

pub overflow_add-offset : goal.overflow_add-offset
overflow_add-offset g c = omega (arith, c.in-Ok.ensures.takes.2.small)

pub returns-then-ahead-clause-scanned : goal.returns-then-ahead-clause-scanned
returns-then-ahead-clause-scanned g c =
    let so_far = c.loop-options.invariant.so_far in
    let no = not_yet c.args.options c.loop-options.count c.is_enough.ensures c.limit.ensures c.if-is_enough.false in
    let takes = c.in-Ok.ensures.takes in
    let end = c.in-Ok.ensures.end c.if-ahead.true in
    let none : takes.0 ≡ [] = nil_from_length takes.0 (omega (arith, end.0, takes.2.bytes_are)) in
    let prints = PrintsUnlessSilent (is_silent c.args.options) c.args.search.now c.args.options c.args.name.now
    (c.loop-options.lines + 1) c.loop-options.offset in
    subst (Answers c.args.search.now c.args.options c.args.name.now _ _ _ _) (sym c.whole-then-ahead.ensures)
    (ended_so_far so_far no _ _ [] takes.2.out false (c.loop-options.lines + 1) c.loop-options.offset
    c.in-Ok.ahead.count refl refl refl (λ k d below. absurd (omega (arith, below)))
    (subst (Consumes (g.R.Read.remaining c.loop-options.reader.inner)
    (g.R.Read.remaining c.take_ahead.new.reader.inner)) none takes.1) (λ _. end.1) takes.2.writes
    (subst (λ all. prints all takes.2.out) (none_taken takes.2 end.0) takes.2.printed)
    (none_counted takes.2 end.0))

pub loop-options-smaller-then-ahead-gt0 : goal.loop-options-smaller-then-ahead-gt0
loop-options-smaller-then-ahead-gt0 g c =
    omega (arith, c.in-Ok.ensures.takes.2.small, c.if-ahead-gt0.true)

pub loop-options-preserved-then-ahead-gt0 : goal.loop-options-preserved-then-ahead-gt0
loop-options-preserved-then-ahead-gt0 g c =
    let no = not_yet c.args.options c.loop-options.count c.is_enough.ensures c.limit.ensures c.if-is_enough.false in
    let takes = c.in-Ok.ensures.takes in
    record {
      seen = c.loop-options.invariant.seen ++ takes.2.taken;
      out = c.loop-options.invariant.out ++ takes.2.out;
      so_far = taken_on c.loop-options.invariant.so_far no takes.1 takes.2;
      small = takes.2.small;
    }

pub returns-in-Err-read_line-clause-scanned : goal.returns-in-Err-read_line-clause-scanned
returns-in-Err-read_line-clause-scanned g c =
    let no = not_yet c.args.options c.loop-options.count c.is_enough.ensures c.limit.ensures c.if-is_enough.false in
    let takes = c.in-Ok.ensures.takes in
    let here = taken_on c.loop-options.invariant.so_far no takes.1 takes.2 in
    let so_far = kept_so_far here _ c.in-Err-read_line.ensures.kept in
    ok_gives _ _ _ c.failed_behind-in-Err-read_line.result c.failed_behind-in-Err-read_line.ensures
    (λ scanned is. failed_so_far so_far _ scanned is.0
    (subst IsSome (sym c.failure-in-Err-read_line.ensures)
    (read_failed_if _ _ c.in-Err-read_line.fault c.in-Err-read_line.ensures.error is.1)))

pub returns-in_default-clause-scanned : goal.returns-in_default-clause-scanned
returns-in_default-clause-scanned g c =
    let no = not_yet c.args.options c.loop-options.count c.is_enough.ensures c.limit.ensures c.if-is_enough.false in
    let takes = c.in-Ok.ensures.takes in
    let here = taken_on c.loop-options.invariant.so_far no takes.1 takes.2 in
    let so_far = kept_so_far here _ c.in-Ok-read_line.ensures.kept in
    subst (Answers c.args.search.now c.args.options c.args.name.now _ _ _ _) (sym c.too_large.ensures)
    (scanned_so_far so_far (g.R.Read.remaining c.read_line.new.reader.inner) (Some FileTooLarge)
    (begins_with _ _ (flat_map (with_end c.args.options.line_end)
    (c.loop-options.invariant.seen ++ takes.2.taken)) so_far.read))

pub returns-in_default-clause-failed : goal.returns-in_default-clause-failed
returns-in_default-clause-failed g c =
    let no = not_yet c.args.options c.loop-options.count c.is_enough.ensures c.limit.ensures c.if-is_enough.false in
    let takes = c.in-Ok.ensures.takes in
    let here = taken_on c.loop-options.invariant.so_far no takes.1 takes.2 in
    subst (λ scanned. CannotRead c.read_line.new.reader.failure
    (ReadsTooMany (g.R.Read.remaining c.args.reader.now.inner) (g.R.Read.remaining c.read_line.new.reader.inner))
    scanned.failure) (sym c.too_large.ensures)
    (inr (
      too_many_with c.args.options.line_end _ _ _
          (flat_map (with_end c.args.options.line_end) (c.loop-options.invariant.seen ++ takes.2.taken))
          c.read_line.new.line.items _ here.read c.in-Ok-read_line.ensures.bytes
          (omega (arith, c.in_default.ensures, here.offset_is, c.as_slice-line.ensures.len)),
      refl,
    ))

pub overflow_add-lines-in-loop-options : goal.overflow_add-lines-in-loop-options
overflow_add-lines-in-loop-options g c =
    let no = not_yet c.args.options c.loop-options.count c.is_enough.ensures c.limit.ensures c.if-is_enough.false in
    let takes = c.in-Ok.ensures.takes in
    omega (arith, few_so_far (taken_on c.loop-options.invariant.so_far no takes.1 takes.2), c.in-Some.ensures)

pub overflow_add-count-in-loop-options : goal.overflow_add-count-in-loop-options
overflow_add-count-in-loop-options g c =
    let no = not_yet c.args.options c.loop-options.count c.is_enough.ensures c.limit.ensures c.if-is_enough.false in
    let takes = c.in-Ok.ensures.takes in
    omega (
      arith,
      few_so_far (taken_on c.loop-options.invariant.so_far no takes.1 takes.2),
      c.in-Some.ensures,
      c.in_ok-taken.ensures.few,
    )

pub returns-then-not-fed-clause-scanned : goal.returns-then-not-fed-clause-scanned
returns-then-not-fed-clause-scanned g c =
    let no = not_yet c.args.options c.loop-options.count c.is_enough.ensures c.limit.ensures c.if-is_enough.false in
    let takes = c.in-Ok.ensures.takes in
    let here = kept_so_far (taken_on c.loop-options.invariant.so_far no takes.1 takes.2) _
    c.in-Ok-read_line.ensures.kept in
    let still = still_not c.args.options c.loop-options.count _
    (none_counted takes.2 (omega (arith, c.if-ahead-gt0.false))) no in
    let fed = c.in-Ok-read_line.fed in
    let line = c.read_line.new.line.items in
    let taken = c.in_ok-taken.ensures.printed in
    let shown = c.as_slice-line.ensures.value in
    let number = c.loop-options.lines + c.in-Ok.ahead.lines + 1 in
    let prints = PrintsUnlessSilent (is_silent c.args.options) c.args.search.now c.args.options c.args.name.now number
    (c.loop-options.offset + c.in-Ok.ahead.bytes) in
    subst (Answers c.args.search.now c.args.options c.args.name.now _ _ _ _) (sym c.whole-then-not-fed.ensures)
    (ended_so_far here still _ _ line taken.0 fed number (c.loop-options.offset + c.in-Ok.ahead.bytes)
    c.in_ok-taken.taken c.if-not-fed.true refl (omega (arith, c.in-Some.ensures)) c.in-Ok-read_line.ensures.whole
    c.in-Ok-read_line.ensures.bytes c.in-Ok-read_line.ensures.ended taken.1
    (subst (λ l. prints (lines_read fed l) taken.0) shown taken.2)
    (c.in_ok-taken.ensures.counted
    ∙ ap (λ l. count_by (counts c.args.search.now c.args.options) (lines_read fed l)) shown))

pub loop-options-preserved : goal.loop-options-preserved
loop-options-preserved g c =
    let no = not_yet c.args.options c.loop-options.count c.is_enough.ensures c.limit.ensures c.if-is_enough.false in
    let takes = c.in-Ok.ensures.takes in
    let here = kept_so_far (taken_on c.loop-options.invariant.so_far no takes.1 takes.2) _
    c.in-Ok-read_line.ensures.kept in
    let still = still_not c.args.options c.loop-options.count _
    (none_counted takes.2 (omega (arith, c.if-ahead-gt0.false))) no in
    let fed = c.in-Ok-read_line.fed in
    let line = c.read_line.new.line.items in
    let taken = c.in_ok-taken.ensures.printed in
    let shown = c.as_slice-line.ensures.value in
    let number = c.loop-options.lines + c.in-Ok.ahead.lines + 1 in
    let prints = PrintsUnlessSilent (is_silent c.args.options) c.args.search.now c.args.options c.args.name.now number
    (c.loop-options.offset + c.in-Ok.ahead.bytes) in
    record {
      seen = (c.loop-options.invariant.seen ++ takes.2.taken) ++ line ∷ [];
      out = (c.loop-options.invariant.out ++ takes.2.out) ++ taken.0;
      so_far = read_on here still line taken.0 fed number (c.loop-options.offset + c.in-Ok.ahead.bytes) c.in-Some.end
          c.in_ok-taken.taken c.if-not-fed.false refl (omega (arith, c.in-Some.ensures))
          (omega (arith, c.in-Some.ensures, c.as_slice-line.ensures.len)) c.in-Ok-read_line.ensures.whole
          c.in-Ok-read_line.ensures.bytes taken.1 (subst (λ l. prints (lines_read fed l) taken.0) shown taken.2)
          (c.in_ok-taken.ensures.counted
          ∙ ap (λ l. count_by (counts c.args.search.now c.args.options) (lines_read fed l)) shown);
      small = omega (arith, c.in-Some.ensures);
    }
