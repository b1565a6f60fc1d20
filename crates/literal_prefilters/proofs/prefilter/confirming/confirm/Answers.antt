use Rattle.std.proofs.Common.{◌≡◌, ℕ, ◌+◌, ◌-◌, ◌*◌, length, sym, ap, ◌∙◌, subst, arith}
use Rattle.literal_base.specs.MatchValue.{MatchValue}
use Rattle.literal_base.specs.Leftmost.{IsLeftmostMatch}
use Rattle.literal_packed.specs.PatternsValue.{query_of}
use Rattle.literal_prefilters.proofs.lemmas.RestOfSpan.{none_before_possible, none_before_next, leftmost_here}
use Rattle.literal_prefilters.proofs.prefilter.confirming.confirm.Goals as goal

pub returns-in-Some-clause-leftmost : goal.returns-in-Some-clause-leftmost
returns-in-Some-clause-leftmost g c =
    let ps = c.args.patterns.now.patterns in
    let kind = c.args.patterns.now.kind in
    let ic = c.args.ignore_case in
    let h = c.args.haystack.now in
    let span = c.args.span in
    let s = c.in-PossibleStartOfMatch.start in
    let possible = c.in-PossibleStartOfMatch.ensures.sound.each (query_of c.args.patterns.now) ic c.requires.covered in
    let after = possible.after_start in
    let from = c.loop-found.invariant.after_start in
    let before = none_before_possible ps ic h span c.loop-found.from s c.loop-found.invariant.none possible in
    let found : ℕ → MatchValue = λ n. record { pattern = c.in-Some.id; start = s; end = s + n } in
    subst (IsLeftmostMatch (query_of c.args.patterns.now) ic h span)
    (sym (c.new.ensures ∙ ap found (c.len.ensures ∙ ap length c.get.ensures.bytes)))
    (leftmost_here ps ic h span c.requires.valid kind s c.in-Some.id (omega arith) before c.in-Some.ensures.best)

pub loop-found-preserved : goal.loop-found-preserved
loop-found-preserved g c =
    let ps = c.args.patterns.now.patterns in
    let kind = c.args.patterns.now.kind in
    let ic = c.args.ignore_case in
    let h = c.args.haystack.now in
    let span = c.args.span in
    let s = c.in-PossibleStartOfMatch.start in
    let possible = c.in-PossibleStartOfMatch.ensures.sound.each (query_of c.args.patterns.now) ic c.requires.covered in
    let after = possible.after_start in
    let inside = possible.before_end in
    let from = c.loop-found.invariant.after_start in
    let before = none_before_possible ps ic h span c.loop-found.from s c.loop-found.invariant.none possible in
    let d = g.P.PrefilterI.reach c.args.pre.now in
    let old = c.args.tally.now in
    let reach = c.in-PossibleStartOfMatch.ensures.reach in
    let asked_tried = reach.tried in
    let asked_scanned = reach.scanned in
    let ticked_tried = ap (λ t. t.tried) c.tick_tried.ensures in
    let ticked_scanned = ap (λ t. t.scanned) c.tick_tried.ensures in
    let best_tried = ap (λ t. t.tried) c.best_at.ensures.exact in
    let best_scanned = ap (λ t. t.scanned) c.best_at.ensures.exact in
    let grows = c.loop-found.invariant.grows in
    let tried = c.loop-found.invariant.tried in
    let scanned = c.loop-found.invariant.scanned in
    let one_more : c.best_at.new.tally.tried - old.tried ≡ (c.loop-found.tally.tried - old.tried) + 1 = omega arith in
    let times : d * (c.best_at.new.tally.tried - old.tried) ≡ d * (c.loop-found.tally.tried - old.tried) + d = ap
    (λ n. d * n) one_more ∙ omega arith in
    record {
      after_start = omega arith;
      before_end = omega arith;
      none = none_before_next ps ic h span c.requires.valid s before c.in_default.ensures.best;
      grows = omega arith;
      tried = omega arith;
      scanned = omega arith;
    }
