use Rattle.std.proofs.Common.{◌≡◌, ℕ, ◌+◌, ◌-◌, ◌*◌, ◌<◌, ◌≤◌, ◌∙◌, IfOk, Err, None, Ok, Option, Result, Some, ap}
use Rattle.std.proofs.Common.{IfSome, MatchOption, is_some}
use Rattle.std.proofs.Common.{arith, inl, inr, refl, subst, sym}
use Rattle.std.proofs.lemmas.Bool.{cases_lt}
use Rattle.literal_base.specs.Counts.{Counts}
use Rattle.literal_leftmost.specs.Inside.Backward.{back_tables_by}
use Rattle.literal_base.specs.declared.search.Span.{Span}
use Rattle.literal_base.specs.Occurs.{between}
use Rattle.literal_fingerprints.specs.declared.candidates.CandidateScan.{CandidateScan}
use Rattle.literal_leftmost.specs.Inside.Leftmost.{IsFirstStart, IsProgress, LiesInPart, ReadsFor, owed_by, owed_in}
use Rattle.literal_leftmost.specs.Prepared.{scan_by, past_skipped}
use Rattle.literal_leftmost.specs.declared.backward.Backward.{Backward}
use Rattle.literal_leftmost.specs.SearchValue.{first_part}
use Rattle.literal_leftmost.specs.declared.leftmost.Progress.{Progress}
use Rattle.literal_leftmost.specs.declared.backward.PatternStart.{PatternStart}
use Rattle.literal_rows.specs.declared.damaged.Damaged.{Damaged}
use Rattle.literal_leftmost.proofs.lemmas.Leftmost.{found_reads, lane_begins, no_first, none_on, ok_part_on}
use Rattle.literal_leftmost.proofs.lemmas.Leftmost.{part_on, some_first}
use Rattle.literal_leftmost.proofs.lemmas.ScanIn.{for_scan, owed_is}
use Rattle.literal_leftmost.proofs.backward.Backward.first_after.Goals as goal

-- a walk through the rest of a span has looked up what is allowed for its answer
rest_reads : (longest : ℕ) (span : Span) (old now new at : ℕ) → old + at ≤ now + span.start
    → now + (span.end - at) + 11 * span.start ≤ old + 11 * at + 36 * first_part longest → at ≤ span.end
    → (result : Result (Option PatternStart) Damaged) → IfOk result (λ _. new + at ≡ now + span.end)
    → IfOk result (LiesInPart at span.end) → IfOk result (ReadsFor longest span old new)
rest_reads longest span old now new at least most inside (Ok None) all lies = omega (arith, all, least)
rest_reads longest span old now new at least most inside (Ok (Some begun)) all lies =
    (omega (arith, all, least), omega (arith, all, most, lies.0, inside))
rest_reads longest span old now new at least most inside (Err damaged) all lies = all

started : (b : Backward) (span : Span) (base now : ℕ) (f : Progress) (scan : Option CandidateScan)
    → MatchOption scan (past_skipped b.prints.now ≡ 0)
    (λ s. (0 < past_skipped b.prints.now) × (s ≡ scan_by b.prints.now))
    → IsProgress b span (owed_in b.prints.now) base now f → IsProgress b span (owed_by scan) base now f
started b span base now f scan is before =
    subst (λ n. IsProgress b span n base now f) (owed_is b.prints.now scan is) before

pub pass_on-progress-requires-clause-for_patterns : goal.pass_on-progress-requires-clause-for_patterns
pass_on-progress-requires-clause-for_patterns c =
    for_scan c.args.self.now c.scan_in.result c.scan_in.ensures

pub loop-block-init : goal.loop-block-init
loop-block-init c =
    let near = c.in_ok-near.near in
    let b = c.args.self.now in
    let span = c.args.span in
    let found = ap (λ f. is_some f) c.in_default.is in
    let later : (base : ℕ) → IsProgress b span (owed_in b.prints.now) base c.args.tally.now.scanned c.args.from
    → IsProgress b span c.owed_by-owed.result base c.look_first.new.tally.scanned near.progress =
    λ base before.
    subst (λ n. IsProgress b span n base c.look_first.new.tally.scanned near.progress) (sym c.owed_by-owed.ensures)
    (c.in_ok-near.ensures.progress base
    (started b span base c.args.tally.now.scanned c.args.from c.scan_in.result c.scan_in.ensures before) found) in
    let any = later c.requires.progress.0 c.requires.progress.1 in
    record {
      after = any.after;
      inside = any.inside;
      some = any.some;
      long = any.long;
      any = (c.requires.progress.0, any);
      progress = later;
      none = λ search is first.
          let tables = back_tables_by search b in
          let at = c.args.from.at in
          none_on tables c.args.haystack.now span.end span.start at near.progress.at first
          (subst (IsFirstStart tables c.args.haystack.now span.end (between at near.progress.at)) c.in_default.is
          (c.in_ok-near.ensures.first search is));
      others = c.in_ok-near.ensures.others;
    }

pub returns-in_err-near-clause-most : goal.returns-in_err-near-clause-most
returns-in_err-near-clause-most c base before =
    omega (
      arith,
      c.look_first.ensures.most base (started c.args.self.now c.args.span base c.args.tally.now.scanned
          c.args.from c.scan_in.result c.scan_in.ensures before),
    )

pub returns-in-Some-clause-most : goal.returns-in-Some-clause-most
returns-in-Some-clause-most c base before =
    omega (
      arith,
      c.in_ok-near.ensures.most base (started c.args.self.now c.args.span base c.args.tally.now.scanned
          c.args.from c.scan_in.result c.scan_in.ensures before),
    )

pub returns-in-Some-clause-counted : goal.returns-in-Some-clause-counted
returns-in-Some-clause-counted c base before =
    subst (λ f. IfSome f (λ begun. ReadsFor c.args.self.now.table.longest c.args.span base
    c.look_first.new.tally.scanned (Some begun))) c.in-Some.is (c.in_ok-near.ensures.found base
    (started c.args.self.now c.args.span base c.args.tally.now.scanned c.args.from c.scan_in.result c.scan_in.ensures
    before))

pub returns-then-is_some-clause-first : goal.returns-then-is_some-clause-first
returns-then-is_some-clause-first c = λ search is first.
    grind (arith, part_on, some_first)

pub returns-in_err-looked-clause-most : goal.returns-in_err-looked-clause-most
returns-in_err-looked-clause-most c base before =
    omega (arith, c.look_on.ensures.most base (c.loop-block.invariant.progress base before))

pub returns-then-is_some-clause-most : goal.returns-then-is_some-clause-most
returns-then-is_some-clause-most c base before =
    omega (arith, c.in_ok-looked.ensures.most base (c.loop-block.invariant.progress base before))

pub returns-then-is_some-clause-counted : goal.returns-then-is_some-clause-counted
returns-then-is_some-clause-counted c base before =
    found_reads c.args.self.now.table.longest c.args.span base c.look_on.new.tally.scanned
    c.in_ok-looked.looked.first (sym c.is_some.ensures ∙ c.if-is_some.true)
    (c.in_ok-looked.ensures.found base (c.loop-block.invariant.progress base before))

pub loop-block-preserved : goal.loop-block-preserved
loop-block-preserved c =
    let so_far = c.loop-block.invariant in
    let passed = c.pass_on-progress in
    let looked = c.in_ok-looked.looked in
    let none = sym c.is_some.ensures ∙ c.if-is_some.false in
    let b = c.args.self.now in
    let span = c.args.span in
    let on : (base : ℕ) → IsProgress b span c.owed_by-owed.result base c.loop-block.tally.scanned c.loop-block.progress
    → IsProgress b span c.owed_by-owed.result base passed.new.tally.scanned passed.result =
    λ base before.
    subst (λ n. IsProgress b span n base passed.new.tally.scanned passed.result) (sym c.owed_by-owed.ensures)
    (passed.ensures.progress base (c.in_ok-looked.ensures.progress base before none)) in
    let any = on so_far.any.0 so_far.any.1 in
    record {
      after = any.after;
      inside = any.inside;
      some = any.some;
      long = any.long;
      any = (so_far.any.0, any);
      progress = λ base before. on base (so_far.progress base before);
      none = λ search is first.
          let tables = back_tables_by search b in
          let haystack = c.args.haystack.now in
          none_on tables haystack span.end span.start looked.progress.at passed.result.at
          (none_on tables haystack span.end span.start c.loop-block.progress.at looked.progress.at
          (so_far.none search is first)
          (no_first tables haystack span.end c.loop-block.progress.at looked.progress.at looked.first none
          (c.in_ok-looked.ensures.first search is))) (passed.ensures.none search is);
      others = passed.ensures.others
          ∙ (ap (λ (t : Counts). let n : Counts = record t { scanned = passed.new.tally.scanned } in n)
          c.in_ok-looked.ensures.others
          ∙ ap (λ (t : Counts). let n : Counts = record t { scanned = passed.new.tally.scanned } in n)
          so_far.others);
    }

pub returns-clause-first : goal.returns-clause-first
returns-clause-first c = λ search is first.
    let tables = back_tables_by search c.args.self.now in
    let span = c.args.span in
    let at = c.loop-block.progress.at in
    ok_part_on tables c.args.haystack.now span.end span.start at span.end (c.loop-block.invariant.none search is first)
    c.first_in.result
    (c.first_in.ensures.first search is span.end span.end (omega arith)
    (lane_begins tables is.tables c.args.haystack.now (λ i. omega (arith, c.type_inv.haystack i)) span span.end span.end
    span.end refl (omega arith) (inl refl)) (λ k after before. absurd (omega (arith, after, before))))

pub returns-clause-counted : goal.returns-clause-counted
returns-clause-counted c base before =
    let span = c.args.span in
    let at = c.loop-block.progress.at in
    let progress = c.loop-block.invariant.progress base before in
    let most : c.loop-block.tally.scanned + (span.end - at) + 11 * span.start
    ≤ base + 11 * at + 36 * first_part c.args.self.now.table.longest =
    elim (cases_lt at span.end) [
      | inl earlier ↦
          omega
          (arith, progress.most, progress.near earlier, progress.after, c.in_default-four_parts_at.ensures.rest refl)
      | inr not ↦ omega (arith, progress.most, progress.after, not)
    ] in
    rest_reads c.args.self.now.table.longest span base c.loop-block.tally.scanned
    c.first_in.new.tally.scanned at progress.least most progress.inside c.first_in.result c.first_in.ensures.all
    (c.first_in.ensures.inside span.end (omega arith) tt)

pub returns-clause-most : goal.returns-clause-most
returns-clause-most c base before =
    let progress = c.loop-block.invariant.progress base before in
    omega (arith, progress.most, progress.inside, c.first_in.ensures.most)

-- what lies in a part of a span lies in the span
lies_on : (start at end : ℕ) → start ≤ at → (result : Result (Option PatternStart) Damaged)
    → IfOk result (LiesInPart at end) → IfOk result (LiesInPart start end)
lies_on start at end after (Ok None) lies = lies
lies_on start at end after (Ok (Some begun)) lies = (omega (arith, after, lies.0), lies.1, lies.2)
lies_on start at end after (Err damaged) lies = lies

pub returns-clause-lies : goal.returns-clause-lies
returns-clause-lies c =
    lies_on c.args.span.start c.loop-block.progress.at c.args.span.end c.loop-block.invariant.after c.first_in.result
    (c.first_in.ensures.inside c.args.span.end (omega arith) tt)
