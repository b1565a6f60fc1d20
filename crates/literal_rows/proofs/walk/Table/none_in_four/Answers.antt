use Rattle.std.proofs.Common.{[], ◌≡◌, ◌+◌, ◌*◌, ◌<◌, ◌^◌, ℕ, List, ap, arith, get_or, length, subst, suc, sym}
use Rattle.std.proofs.Common.{zero}
use Rattle.literal_base.specs.Counts.{Counts}
use Rattle.literal_rows.specs.Inside.Classes.{AreClasses}
use Rattle.literal_rows.specs.Inside.Walk.{NoneEndsIn, WalksOn, classes_by, rows_by}
use Rattle.literal_rows.specs.declared.walk.Table.{Table}
use Rattle.literal_rows.proofs.lemmas.Walk.{at_start, walks_further}
use Rattle.literal_rows.proofs.walk.Table.none_in_four.Goals as goal

-- one byte more of one of the spans, whose row, class and number are known
lane : (classes rows haystack : List ℕ) (width : ℕ) → AreClasses classes width
    → (start step at : ℕ) → at ≡ start + step → at < length haystack → get_or haystack at 0 < 256
    → (row code : ℕ) → WalksOn width rows 0 classes haystack start (start + step) row
    → (row + width < length rows → code ≡ get_or rows (row + get_or classes (get_or haystack at 0) 0) 0)
    → code < 2 ^ 31
    → WalksOn width rows 0 classes haystack start (start + (step + 1)) code
lane classes rows haystack width are start step at at_is inside is_byte row code walks code_if small =
    let next : at + 1 ≡ start + (step + 1) = omega arith in
    subst (λ (end : ℕ). WalksOn width rows 0 classes haystack start end code) next
    (walks_further width rows 0 classes haystack start at row
    (subst (λ (end : ℕ). WalksOn width rows 0 classes haystack start end row) (sym at_is) walks) (omega arith) inside
    (are.below (get_or haystack at 0) is_byte) code code_if small)

one_more : (a b : Counts) → a ≡ b
    → (let t : Counts = record a { scanned = a.scanned + 1 } in t)
    ≡ (let t : Counts = record b { scanned = b.scanned + 1 } in t)
one_more a b same = ap (λ (n : Counts). let n' : Counts = record n { scanned = n.scanned + 1 } in n') same

pub loop-step-preserved : goal.loop-step-preserved
loop-step-preserved c =
    let t = c.args.self.now in
    let haystack = c.args.haystack.now in
    let at = c.args.at in
    let block = c.args.block in
    let step = c.loop-step.step in
    let more = lane (classes_by t) (rows_by t) haystack t.width in
    let so_far = c.loop-step.invariant in
    let byte : (k : ℕ) → get_or haystack k 0 < 256 = λ k. omega (arith, c.type_inv.haystack k) in
    let sum : c.args.tally.now.scanned + 4 * step + 1 + 1 + 1 + 1 ≡ c.args.tally.now.scanned + 4 * (step + 1) =
    omega arith in
    record {
      first_within = omega (arith, c.if-first-limit.false);
      second_within = omega (arith, c.if-second-limit.false);
      third_within = omega (arith, c.if-third-limit.false);
      fourth_within = omega (arith, c.if-fourth-limit.false);
      first = λ are. more are at step (at + step) (omega arith) (omega arith) (byte (at + step))
          c.loop-step.first c.next_at-first.result (so_far.first are) (c.next_at-first.ensures.number are)
          (omega (arith, c.if-first-limit.false, c.requires.limit));
      second = λ are. more are (at + block) step (at + step + block) (omega arith) (omega arith)
          (byte (at + step + block)) c.loop-step.second c.next_at-second.result (so_far.second are)
          (c.next_at-second.ensures.number are)
          (omega (arith, c.if-second-limit.false, c.requires.limit));
      third = λ are. more are (at + 2 * block) step (at + step + 2 * block) (omega arith) (omega arith)
          (byte (at + step + 2 * block)) c.loop-step.third c.next_at-third.result (so_far.third are)
          (c.next_at-third.ensures.number are)
          (omega (arith, c.if-third-limit.false, c.requires.limit));
      fourth = λ are. more are (at + 3 * block) step (at + step + 3 * block) (omega arith) (omega arith)
          (byte (at + step + 3 * block)) c.loop-step.fourth c.next_at-fourth.result (so_far.fourth are)
          (c.next_at-fourth.ensures.number are)
          (omega (arith, c.if-fourth-limit.false, c.requires.limit));
      counted = grind (arith, one_more);
    }

-- all of one of the spans
whole : (t : Table) (haystack : List ℕ) (start start' step len row : ℕ) → start ≡ start' → step ≡ len
    → WalksOn t.width (rows_by t) 0 (classes_by t) haystack start (start + step) row
    → NoneEndsIn t haystack start' (start' + len)
whole t haystack start start' step len row same all walks =
    subst (λ (from : ℕ). NoneEndsIn t haystack from (from + len)) same
    (subst (λ (n : ℕ). NoneEndsIn t haystack start (start + n)) all
    (λ patterns recognises. (walks patterns recognises []
    (at_start patterns t.width (rows_by t) recognises)).1))

pub returns-clause-none : goal.returns-clause-none
returns-clause-none c = λ _ are k below.
    let t = c.args.self.now in
    let at = c.args.at in
    let block = c.args.block in
    let so_far = c.loop-step.invariant in
    let all = whole t c.args.haystack.now in
    let end : c.loop-step.step ≡ block + t.longest = omega (arith, c.loop-step-test.false, c.loop-step.auto.step-end) in
    by_lane (λ n. NoneEndsIn t c.args.haystack.now (at + n * block) (at + n * block + (block + t.longest))) k below
    (all at (at + 0 * block) c.loop-step.step _ c.loop-step.first (omega arith) end (so_far.first are))
    (all (at + block) (at + 1 * block) c.loop-step.step _ c.loop-step.second (omega arith) end (so_far.second are))
    (all (at + 2 * block) (at + 2 * block) c.loop-step.step _ c.loop-step.third (omega arith) end (so_far.third are))
    (all (at + 3 * block) (at + 3 * block) c.loop-step.step _ c.loop-step.fourth (omega arith) end (so_far.fourth are))
  where
    by_lane : (P : ℕ → Type 0) (k : ℕ) → k < 4 → P 0 → P 1 → P 2 → P 3 → P k
    by_lane P zero below a b c d = a
    by_lane P (suc zero) below a b c d = b
    by_lane P (suc (suc zero)) below a b c d = c
    by_lane P (suc (suc (suc zero))) below a b c d = d
    by_lane P (suc (suc (suc (suc k)))) below a b c d = absurd (omega arith)
