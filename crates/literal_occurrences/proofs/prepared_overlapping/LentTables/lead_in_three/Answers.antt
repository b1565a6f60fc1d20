use Rattle.std.proofs.Common.{◌≡◌, ◌+◌, ◌-◌, ◌*◌, ◌≤◌, ℕ, arith, refl, subst}
use Rattle.literal_occurrences.specs.Inside.Count.{IsWalk}
use Rattle.literal_occurrences.specs.Inside.LentTables.{AreFor, tables_by}
use Rattle.literal_occurrences.specs.Overlapping.{OverlappingValue}
use Rattle.literal_occurrences.proofs.lemmas.Count.{walk_begins}
use Rattle.literal_leftmost.proofs.lemmas.Leftmost.{one_more}
use Rattle.literal_occurrences.proofs.prepared_overlapping.LentTables.lead_in_three.Goals as goal

pub loop-step-init : goal.loop-step-init
loop-step-init c =
    let lead = c.saturating_sub-lead.result in
    let lead_is = c.saturating_sub-lead.ensures in
    let at = c.args.from.at in
    let part = c.args.part in
    let long = c.requires.four.long in
    let after = c.requires.walking.after in
    let some = c.requires.limit.some in
    let begins : (start : ℕ) → at + part ≤ start → (search : OverlappingValue) → AreFor search c.args.self.now
    → IsWalk (tables_by search c.args.self.now) c.args.haystack.now c.args.span start (start - lead + 0) 0 =
    λ start far search are. walk_begins (tables_by search c.args.self.now) are.tables c.args.haystack.now
    (λ i. omega (arith, c.type_inv.haystack i)) c.args.span c.requires.valid c.args.self.now.header.longest
    start (start - lead + 0) are.longest (omega (arith, lead_is, long, after, far)) (omega (arith, lead_is, long, far))
    in
    let sum : c.args.tally.now.scanned ≡ c.args.tally.now.scanned + 3 * 0 = omega arith in
    grind arith

pub returns-in_err-second-clause-prepared : goal.returns-in_err-second-clause-prepared
returns-in_err-second-clause-prepared c = λ search are after.
    let lead = c.saturating_sub-lead.result in
    let lead_is = c.saturating_sub-lead.ensures in
    let at = c.args.from.at + c.args.part - lead + c.loop-step.step in
    let inside = c.requires.four.inside in
    let long = c.requires.four.long in
    absurd (c.in_err-second.ensures.prepared search are c.args.span (c.args.from.at + c.args.part) at (at + 1)
    c.requires.valid (omega (arith, lead_is, long, inside, c.loop-step-test.true)) refl refl
    (c.loop-step.invariant.second search are))

pub returns-in_err-third-clause-prepared : goal.returns-in_err-third-clause-prepared
returns-in_err-third-clause-prepared c = λ search are after.
    let lead = c.saturating_sub-lead.result in
    let lead_is = c.saturating_sub-lead.ensures in
    let at = c.args.from.at + 2 * c.args.part - lead + c.loop-step.step in
    let inside = c.requires.four.inside in
    let long = c.requires.four.long in
    absurd (c.in_err-third.ensures.prepared search are c.args.span (c.args.from.at + 2 * c.args.part) at (at + 1)
    c.requires.valid (omega (arith, lead_is, long, inside, c.loop-step-test.true)) (omega (arith, lead_is, long))
    (omega (arith, lead_is, long)) (c.loop-step.invariant.third search are))

pub returns-in_err-fourth-clause-prepared : goal.returns-in_err-fourth-clause-prepared
returns-in_err-fourth-clause-prepared c = λ search are after.
    let lead = c.saturating_sub-lead.result in
    let lead_is = c.saturating_sub-lead.ensures in
    let at = c.args.from.at + 3 * c.args.part - lead + c.loop-step.step in
    let inside = c.requires.four.inside in
    let long = c.requires.four.long in
    absurd (c.in_err-fourth.ensures.prepared search are c.args.span (c.args.from.at + 3 * c.args.part) at (at + 1)
    c.requires.valid (omega (arith, lead_is, long, inside, c.loop-step-test.true)) (omega (arith, lead_is, long))
    (omega (arith, lead_is, long)) (c.loop-step.invariant.fourth search are))

pub loop-step-preserved : goal.loop-step-preserved
loop-step-preserved c =
    let lead = c.saturating_sub-lead.result in
    let lead_is = c.saturating_sub-lead.ensures in
    let start = c.args.from.at in
    let part = c.args.part in
    let step = c.loop-step.step in
    let long = c.requires.four.long in
    let inside = c.requires.four.inside in
    let so_far = c.loop-step.invariant in
    let before = c.loop-step-test.true in
    let sum : c.args.tally.now.scanned + 3 * step + 1 + 1 + 1 ≡ c.args.tally.now.scanned + 3 * (step + 1) = omega arith
    in
    record {
      second_within = c.in_ok-second.ensures.row;
      third_within = c.in_ok-third.ensures.row;
      fourth_within = c.in_ok-fourth.ensures.row;
      second = λ search are. grind arith;
      third = λ search are. c.in_ok-third.ensures.prepared search are c.args.span (start + 2 * part)
          (start + 2 * part - lead + step) (start + 2 * part - lead + (step + 1)) c.requires.valid
          (omega (arith, lead_is, long, inside, before)) (omega (arith, lead_is, long)) (omega (arith, lead_is, long))
          (so_far.third search are);
      fourth = λ search are. c.in_ok-fourth.ensures.prepared search are c.args.span (start + 3 * part)
          (start + 3 * part - lead + step) (start + 3 * part - lead + (step + 1)) c.requires.valid
          (omega (arith, lead_is, long, inside, before)) (omega (arith, lead_is, long)) (omega (arith, lead_is, long))
          (so_far.fourth search are);
      counted = grind (arith, one_more);
    }

pub returns-clause-prepared : goal.returns-clause-prepared
returns-clause-prepared c = λ search are after.
    let lead = c.saturating_sub-lead.result in
    let lead_is = c.saturating_sub-lead.ensures in
    let start = c.args.from.at in
    let part = c.args.part in
    let long = c.requires.four.long in
    let so_far = c.loop-step.invariant in
    let done : c.loop-step.step ≡ lead = omega (arith, c.loop-step-test.false, c.loop-step.auto.step-end) in
    let led : (from to row : ℕ) → from + c.loop-step.step ≡ to
    → IsWalk (tables_by search c.args.self.now) c.args.haystack.now c.args.span to (from + c.loop-step.step) row
    → IsWalk (tables_by search c.args.self.now) c.args.haystack.now c.args.span (to + 0) (to + 0) row =
    λ from to row same walk.
    let here : to ≡ to + 0 = omega arith in
    subst (λ (t : ℕ). IsWalk (tables_by search c.args.self.now) c.args.haystack.now c.args.span t t row) here
    (subst (λ (t : ℕ). IsWalk (tables_by search c.args.self.now) c.args.haystack.now c.args.span to t row) same walk) in
    let first : start ≡ start + 0 = omega arith in
    record {
      first = grind arith;
      second = grind arith;
      third = grind arith;
      fourth = grind arith;
    }
