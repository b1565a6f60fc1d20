use Rattle.std.proofs.Common.{sym, ◌∙◌, arith}
use Rattle.literal_base.specs.Bytes.{contains}
use Rattle.literal_prefilters.proofs.lemmas.Sets.{size-more, rank_sum-more, size-of_set-le}
use Rattle.literal_prefilters.proofs.prefilter.counted_set.CountedSet.add.Goals as goal

pub overflow_add-self : goal.overflow_add-self
overflow_add-self c =
    let few = size-of_set-le (contains c.self.inside.set) in
    let is = c.self.invariant.counted in
    omega (arith, few, is)

pub overflow_add-self-then-not-contains : goal.overflow_add-self-then-not-contains
overflow_add-self-then-not-contains c =
    let few = size-of_set-le (contains c.add.new.self) in
    let new = sym c.contains.ensures ∙ c.if-not-contains.true in
    let more = size-more (contains c.self.inside.set) (contains c.add.new.self) c.args.byte
    (omega arith) c.add.ensures.each new in
    let is = c.self.invariant.counted in
    let low = c.self.invariant.low in
    omega arith

pub invariant_of-self : goal.invariant_of-self
invariant_of-self c =
    let new = sym c.contains.ensures ∙ c.if-not-contains.true in
    let rank = c.from.ensures in
    let ranks = c.freq_rank.ensures in
    let more = size-more (contains c.self.inside.set) (contains c.add.new.self) c.args.byte
    (omega arith) c.add.ensures.each new in
    let ranked = rank_sum-more (contains c.self.inside.set) (contains c.add.new.self) c.args.byte
    (omega arith) c.add.ensures.each new in
    let is = c.self.invariant.counted in
    let sum_is = c.self.invariant.ranked in
    let low = c.self.invariant.low in
    record {
      counted = omega arith;
      ranked = omega arith;
      low = omega arith;
    }
