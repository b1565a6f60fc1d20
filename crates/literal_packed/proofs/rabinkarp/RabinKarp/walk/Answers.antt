use Rattle.std.proofs.Common.{◌≡◌, ◌+◌, ◌-◌, ◌<◌, ℕ, None, false, Option, length, sym, ap, subst, ◌∙◌, arith}
use Rattle.literal_base.specs.MatchValue.{MatchValue}
use Rattle.literal_base.specs.Counts.{Counts}
use Rattle.literal_base.specs.Occurs.{rest_from}
use Rattle.literal_base.specs.Leftmost.{IsLeftmost}
use Rattle.literal_packed.specs.PatternsValue.{query_of, minimum_len_of}
use Rattle.literal_packed.specs.RabinKarpValue.{RabinKarpValue}
use Rattle.literal_packed.specs.Pairs.{hashed_up_to, pairs_up_to, has_equal_bucket, has_equal_sum}
use Rattle.literal_packed.proofs.lemmas.MinimumLen.{minimum_len_of_some}
use Rattle.literal_packed.proofs.lemmas.Windows.{sum-roll_by, sum-push, nothing_short, nothing_after, passed_more}
use Rattle.literal_packed.proofs.lemmas.PlaceCounts.{counted_all, counts_rolled, counts_some, counts_end, before}
use Rattle.literal_packed.proofs.rabinkarp.RabinKarp.walk.Goals as goal

abbrev window_of : RabinKarpValue → ℕ
window_of b = b.minimum_len

abbrev start : MatchValue → ℕ
start f = f.start

abbrev pattern : MatchValue → ℕ
pattern f = f.pattern

pub returns-then-minimum_len-end-clause-leftmost : goal.returns-then-minimum_len-end-clause-leftmost
returns-then-minimum_len-end-clause-leftmost g c =
    let window : c.self.inside.minimum_len ≡ minimum_len_of c.args.patterns.now.patterns = ap window_of c.self.view_is
    ∙ c.requires.made.minimum_len in
    nothing_short c.args.patterns.now.patterns c.args.haystack.now c.args.at (omega arith)

pub new-rolling-requires : goal.new-rolling-requires
new-rolling-requires g c =
    let window : c.self.inside.minimum_len ≡ minimum_len_of c.args.patterns.now.patterns = ap window_of c.self.view_is
    ∙ c.requires.made.minimum_len in
    let some = minimum_len_of_some c.args.patterns.now.patterns c.requires.made.searchable.well_formed.not_empty in
    omega arith

pub loop-k-preserved : goal.loop-k-preserved
loop-k-preserved g c = record {
  sum = sum-push c.args.haystack.now c.args.at c.loop-k.k c.loop-k.rolling.sum c.push.new.self.sum c.loop-k.auto.k
      (omega arith) c.push.ensures.sum c.loop-k.invariant.sum;
  window = c.push.ensures.window ∙ c.loop-k.invariant.window;
  counted =
      let step : Counts → Counts = λ t. record t { hashed = t.hashed + 1 } in
      let f : ℕ → Counts = λ a. record c.args.tally.now { hashed = a } in
      let after = c.loop-k.auto.k in
      let k = c.loop-k.k in
      let more : c.args.tally.now.hashed + (k - c.args.at) + 1 ≡ c.args.tally.now.hashed + (k + 1 - c.args.at) =
      omega arith in
      c.push.ensures.exact ∙ (ap step c.loop-k.invariant.counted ∙ ap f more);
}

pub loop-place-preserved : goal.loop-place-preserved
loop-place-preserved g c =
    let window : c.self.inside.minimum_len ≡ minimum_len_of c.args.patterns.now.patterns = ap window_of c.self.view_is
    ∙ c.requires.made.minimum_len in
    let haystack = c.args.haystack.now in
    let patterns = c.args.patterns.now in
    let m = minimum_len_of patterns.patterns in
    let some = minimum_len_of_some patterns.patterns c.requires.made.searchable.well_formed.not_empty in
    let place = c.loop-place.place in
    let next : place + m < length haystack = omega arith in
    record {
      sum = sum-roll_by haystack place m c.self.inside.minimum_len c.loop-place.rolling.window c.loop-place.rolling.sum
          c.roll.new.self.sum window c.loop-place.invariant.window
          some next c.roll.ensures.sum c.loop-place.invariant.sum;
      window = c.roll.ensures.window ∙ c.loop-place.invariant.window;
      passed = passed_more patterns.patterns haystack c.args.at place c.loop-place.invariant.passed
          c.in_default.ensures.best;
      counted = counts_rolled patterns haystack c.args.at c.args.tally.now c.loop-place.tally c.look_up.new.tally
          c.roll.new.tally place c.loop-place.auto.place
          c.loop-place.invariant.counted c.in_default.ensures.exact c.roll.ensures.exact;
    }

pub returns-in-Some-clause-exact : goal.returns-in-Some-clause-exact
returns-in-Some-clause-exact g c =
    counts_some c.args.patterns.now c.args.haystack.now c.args.at c.args.tally.now c.loop-place.tally
    c.look_up.new.tally c.loop-place.place c.in-Some.id c.found_at.result
    (ap start c.found_at.ensures) (ap pattern c.found_at.ensures) c.loop-place.invariant.counted
    c.in-Some.ensures.exact

pub returns-in_err-id-clause-leftmost : goal.returns-in_err-id-clause-leftmost
returns-in_err-id-clause-leftmost g c =
    let patterns = c.args.patterns.now in
    let haystack = c.args.haystack.now in
    let window : c.self.inside.minimum_len ≡ minimum_len_of c.args.patterns.now.patterns = ap window_of c.self.view_is
    ∙ c.requires.made.minimum_len in
    let fits = c.if-minimum_len-end.false in
    let ended = c.loop-place-test.false in
    let after = c.loop-place.auto.place in
    let top = c.loop-place.auto.place-end in
    let last = length haystack - c.self.inside.minimum_len in
    let at_end : c.loop-place.place ≡ last = omega arith in
    let nothing : c.from_residual.result ≡ None = c.from_residual.ensures in
    subst (IsLeftmost (query_of patterns) false haystack (rest_from haystack c.args.at)) (sym nothing)
    (nothing_after patterns.patterns haystack c.args.at last (omega arith)
    (passed_more patterns.patterns haystack c.args.at last
    (λ s low high. c.loop-place.invariant.passed s low (omega arith)) c.in_err-id.ensures.best))

pub returns-in_err-id-clause-exact : goal.returns-in_err-id-clause-exact
returns-in_err-id-clause-exact g c =
    let patterns = c.args.patterns.now in
    let haystack = c.args.haystack.now in
    let at = c.args.at in
    let window : c.self.inside.minimum_len ≡ minimum_len_of c.args.patterns.now.patterns = ap window_of c.self.view_is
    ∙ c.requires.made.minimum_len in
    let fits = c.if-minimum_len-end.false in
    let ended = c.loop-place-test.false in
    let after = c.loop-place.auto.place in
    let top = c.loop-place.auto.place-end in
    let last = length haystack - c.self.inside.minimum_len in
    let at_end : c.loop-place.place ≡ last = omega arith in
    let nothing : c.from_residual.result ≡ None = c.from_residual.ensures in
    subst (λ (r : Option MatchValue). c.look_up-2.new.tally ≡ counted_all c.args.tally.now
    (hashed_up_to patterns.patterns (rest_from haystack at) r)
    (pairs_up_to (has_equal_bucket patterns.patterns haystack) (query_of patterns) (rest_from haystack at) r)
    (pairs_up_to (has_equal_sum patterns.patterns haystack) (query_of patterns) (rest_from haystack at) r))
    (sym nothing)
    (counts_end patterns haystack at c.args.tally.now c.loop-place.tally c.look_up-2.new.tally last (omega arith)
    (omega arith)
    (subst (λ k. c.loop-place.tally ≡ before patterns haystack at c.args.tally.now k) at_end
    c.loop-place.invariant.counted) c.in_err-id.ensures.exact)

pub returns-clause-exact : goal.returns-clause-exact
returns-clause-exact g c =
    let window : c.self.inside.minimum_len ≡ minimum_len_of c.args.patterns.now.patterns = ap window_of c.self.view_is
    ∙ c.requires.made.minimum_len in
    let fits = c.if-minimum_len-end.false in
    let ended = c.loop-place-test.false in
    let after = c.loop-place.auto.place in
    let top = c.loop-place.auto.place-end in
    let last = length c.args.haystack.now - c.self.inside.minimum_len in
    let at_end : c.loop-place.place ≡ last = omega arith in
    counts_some c.args.patterns.now c.args.haystack.now c.args.at c.args.tally.now c.loop-place.tally
    c.look_up-2.new.tally last c.in_ok-id.id c.found_at-2.result
    (ap start c.found_at-2.ensures) (ap pattern c.found_at-2.ensures)
    (subst (λ k. c.loop-place.tally ≡ before c.args.patterns.now c.args.haystack.now c.args.at c.args.tally.now k)
    at_end c.loop-place.invariant.counted) c.in_ok-id.ensures.exact
