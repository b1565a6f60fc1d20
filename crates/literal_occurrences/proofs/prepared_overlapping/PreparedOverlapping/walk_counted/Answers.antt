use Rattle.std.proofs.Common.{◌≡◌, ◌+◌, ◌-◌, ◌<◌, ◌++◌, ℕ, List, ap, arith, get_or, inl, inr, length, refl, subst}
use Rattle.std.proofs.Common.{sym, slice_range}
use Rattle.literal_occurrences.specs.Automaton.{IsStateAfter}
use Rattle.literal_occurrences.specs.PreparedOverlapping.{tables_in}
use Rattle.literal_occurrences.proofs.lemmas.PreparedStates.{code_in, has_row, state_small, walked_end, walked_on}
use Rattle.literal_occurrences.proofs.lemmas.PreparedStates.{walked_to}
use Rattle.literal_occurrences.proofs.lemmas.PreparedStates.{walks_none}
use Rattle.literal_occurrences.proofs.prepared_overlapping.PreparedOverlapping.walk_counted.Goals as goal
use Rattle.literal_occurrences.proofs.prepared_overlapping.PreparedOverlapping.walk_counted.Goals.{else-span, then-span}

pub returns-in_err-row-clause-prepared : goal.returns-in_err-row-clause-prepared
returns-in_err-row-clause-prepared c = λ search prepared text is.
    absurd (c.in_err-row.ensures (has_row (tables_in search c.args.self.now) prepared.tables text c.args.state is))

pub loop-at-init : goal.loop-at-init
loop-at-init c = grind (arith, walks_none)

pub returns-in_err-_row-clause-prepared : goal.returns-in_err-_row-clause-prepared
returns-in_err-_row-clause-prepared c = λ search prepared text is.
    let t = tables_in search c.args.self.now in
    let table = c.table-table.ensures in
    let haystack = c.args.haystack.now in
    let at = c.loop-at.at in
    let start = c.args.span.start in
    let inside : at < length haystack = omega (arith, c.loop-at-test.true, c.requires.in_haystack) in
    let code = c.code_at-code.result in
    let to = walked_to t prepared.tables text haystack start c.args.state at c.loop-at.row c.loop-at.auto.at inside
    (c.loop-at.invariant.walks search prepared text is) (omega (arith, c.type_inv.haystack at)) code
    (code_in _ t.classes _ t.rows _ t.width c.loop-at.row (get_or haystack at 0) code table.classes table.width
    table.rows prepared.tables.classes c.code_at-code.ensures.number) in
    let more = text ++ slice_range haystack start (at + 1) in
    let row = has_row t prepared.tables more code to in
    let small = state_small t prepared.tables more code to in
    let few = prepared.tables.recognises.few in
    let long = ap (λ (l : List ℕ). length l) table.rows in
    let limit_is = c.in_ok-limit.ensures.2 in
    grind arith

pub returns-then-row-limit-clause-prepared : goal.returns-then-row-limit-clause-prepared
returns-then-row-limit-clause-prepared c = λ search prepared text is.
    let t = tables_in search c.args.self.now in
    let table = c.table-table.ensures in
    let haystack = c.args.haystack.now in
    let at = c.loop-at.at in
    let start = c.args.span.start in
    let walks = c.loop-at.invariant.walks search prepared text is in
    let inside : at < length haystack = omega (arith, c.loop-at-test.true, c.requires.in_haystack) in
    let code = c.code_at-code.result in
    let code_if = code_in _ t.classes _ t.rows _ t.width c.loop-at.row (get_or haystack at 0) code table.classes
    table.width table.rows prepared.tables.classes c.code_at-code.ensures.number in
    record {
      inside = omega (arith, c.loop-at-test.true);
      state = subst (IsStateAfter t (text ++ slice_range haystack start (at + 1))) (sym c.new.ensures)
          (walked_to t prepared.tables text haystack start c.args.state at c.loop-at.row c.loop-at.auto.at inside walks
          (omega (arith, c.type_inv.haystack at)) code code_if);
      none = λ end after before. walks.walked.none end after (omega arith);
      stops = inl (
        refl,
        omega (arith, c.loop-at.auto.at),
        walked_end t prepared.tables text haystack start c.args.state
            at c.loop-at.row c.loop-at.auto.at inside walks (omega (arith, c.type_inv.haystack at)) code code_if
            c.in_ok-_row.ensures.0,
      );
    }

pub loop-at-preserved : goal.loop-at-preserved
loop-at-preserved c =
    let haystack = c.args.haystack.now in
    let at = c.loop-at.at in
    let start = c.args.span.start in
    let table = c.table-table.ensures in
    let after = c.loop-at.auto.at in
    let inside : at < length haystack = omega (arith, c.loop-at-test.true, c.requires.in_haystack) in
    let code = c.code_at-code.result in
    let more : c.args.tally.now.scanned + (at - start) + 1 ≡ c.args.tally.now.scanned + (at + 1 - start) =
    omega arith in
    record {
      within = c.if-row-limit.false;
      walks = λ search prepared text is.
          let t = tables_in search c.args.self.now in
          walked_on t prepared.tables text haystack start c.args.state at c.loop-at.row c.loop-at.auto.at inside
          (c.loop-at.invariant.walks search prepared text is) (omega (arith, c.type_inv.haystack at)) code
          (code_in _ t.classes _ t.rows _ t.width c.loop-at.row (get_or haystack at 0) code table.classes table.width
          table.rows prepared.tables.classes c.code_at-code.ensures.number)
          (omega (arith, c.if-row-limit.false, c.in_ok-limit.ensures.1));
      counted = grind arith;
    }

pub returns-clause-prepared : goal.returns-clause-prepared
returns-clause-prepared c = λ search prepared text is.
    let t = tables_in search c.args.self.now in
    let haystack = c.args.haystack.now in
    let start = c.args.span.start in
    let walks = c.loop-at.invariant.walks search prepared text is in
    let end : c.loop-at.at ≡ c.args.span.end = grind arith in
    let number : c.if-span.state ≡ walks.number = grind arith in
    let after : IsStateAfter t (text ++ slice_range haystack start c.loop-at.at) c.if-span.state = grind arith in
    record {
      inside = omega arith;
      state = subst (λ (k : ℕ). IsStateAfter t (text ++ slice_range haystack start k) c.if-span.state) end after;
      none = λ k after before. walks.walked.none k after (omega arith);
      stops = inr (refl, refl, λ some. walks.walked.none c.args.span.end some (omega arith));
    }
