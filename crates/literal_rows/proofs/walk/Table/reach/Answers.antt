use Rattle.std.proofs.Common.{◌≡◌, ◌+◌, ◌-◌, ◌<◌, ℕ, arith, get_or, inl, inr, length, subst, sym}
use Rattle.literal_rows.specs.Inside.Walk.{IsFirstEnd, NoneEnds, WalksOn, classes_by, rows_by}
use Rattle.literal_rows.proofs.lemmas.Walk.{number_leads, reaches_end, walks_further}
use Rattle.literal_rows.proofs.walk.Table.reach.Goals as goal

pub loop-at-preserved : goal.loop-at-preserved
loop-at-preserved c =
    let t = c.args.self.now in
    let haystack = c.args.haystack.now in
    let at = c.loop-at.at in
    let start = c.args.span.start in
    let after = c.loop-at.auto.at in
    let inside : at < length haystack = omega (arith, c.loop-at-test.true, c.requires.valid.in_haystack) in
    let more : c.args.tally.now.scanned + (at - start) + 1 ≡ c.args.tally.now.scanned + (at + 1 - start) =
    omega arith in
    record {
      within = c.if-code-limit.false;
      walks = λ are. walks_further t.width (rows_by t) c.args.from (classes_by t) haystack start at c.loop-at.row
          (c.loop-at.invariant.walks are) after inside
          (are.below (get_or haystack at 0) (omega (arith, c.type_inv.haystack at))) c.code_at-code.result
          (c.code_at-code.ensures.number are)
          (omega (arith, c.if-code-limit.false, c.in_ok-limit.ensures.1));
      counted = grind arith;
    }

pub returns-then-code-eq0-clause-reaches : goal.returns-then-code-eq0-clause-reaches
returns-then-code-eq0-clause-reaches c = λ are patterns recognises text begins.
    let t = c.args.self.now in
    let haystack = c.args.haystack.now in
    let at = c.loop-at.at in
    let start = c.args.span.start in
    let inside : at < length haystack = omega (arith, c.loop-at-test.true, c.requires.valid.in_haystack) in
    subst (λ (row : ℕ). WalksOn t.width (rows_by t) c.args.from (classes_by t) haystack start (at + 1) row)
    c.if-code-eq0.true
    (walks_further t.width (rows_by t) c.args.from (classes_by t) haystack start at c.loop-at.row
    (c.loop-at.invariant.walks are) c.loop-at.auto.at inside
    (are.below (get_or haystack at 0) (omega (arith, c.type_inv.haystack at))) c.code_at-code.result
    (c.code_at-code.ensures.number are)
    (omega (arith, c.if-code-eq0.true))) patterns recognises text begins

pub returns-in_err-row-clause-reaches : goal.returns-in_err-row-clause-reaches
returns-in_err-row-clause-reaches c = λ are patterns recognises text begins.
    let t = c.args.self.now in
    let haystack = c.args.haystack.now in
    let at = c.loop-at.at in
    let inside : at < length haystack = omega (arith, c.loop-at-test.true, c.requires.valid.in_haystack) in
    let limit_is = c.in_ok-limit.ensures.2 in
    let few = recognises.few in
    elim (number_leads t.width (rows_by t) c.args.from (classes_by t) haystack c.args.span.start at c.loop-at.row
    (c.loop-at.invariant.walks are) c.loop-at.auto.at inside
    (are.below (get_or haystack at 0) (omega (arith, c.type_inv.haystack at))) c.code_at-code.result
    (c.code_at-code.ensures.number are) patterns recognises text begins) [
      | inl one ↦ absurd (omega (arith, one.0, one.1.fits, limit_is, few, c.if-code-limit.true))
      | inr one ↦ elim c.in_err-row.ensures [
        | inl small ↦ absurd (omega (arith, one.0, small))
        | inr large ↦ absurd (omega (arith, one.1.fits, limit_is, few, large))
      ]
    ]

pub returns-then-code-limit-clause-reaches : goal.returns-then-code-limit-clause-reaches
returns-then-code-limit-clause-reaches c = λ are patterns recognises text begins.
    let t = c.args.self.now in
    let haystack = c.args.haystack.now in
    let at = c.loop-at.at in
    let start = c.args.span.start in
    let inside : at < length haystack = omega (arith, c.loop-at-test.true, c.requires.valid.in_haystack) in
    subst (λ (row : ℕ). IsFirstEnd patterns t.width (rows_by t) recognises text (classes_by t) haystack start
    (record { row = row; end = at + 1 })) (sym c.in_ok-row.ensures.1)
    (reaches_end t.width (rows_by t) c.args.from (classes_by t) haystack start at c.loop-at.row
    (c.loop-at.invariant.walks are) c.loop-at.auto.at inside
    (are.below (get_or haystack at 0) (omega (arith, c.type_inv.haystack at))) c.code_at-code.result
    (c.code_at-code.ensures.number are)
    patterns recognises text begins c.in_ok-row.ensures.0)

pub returns-clause-reaches : goal.returns-clause-reaches
returns-clause-reaches c = λ are patterns recognises text begins.
    let t = c.args.self.now in
    let end : c.loop-at.at ≡ c.args.span.end = grind arith in
    subst (λ (upto : ℕ). NoneEnds patterns text (classes_by t) c.args.haystack.now c.args.span.start upto) end
    (c.loop-at.invariant.walks are patterns recognises text begins).1
