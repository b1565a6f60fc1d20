use Rattle.std.proofs.Common.{◌+◌, arith, inl, inr}
use Rattle.std.proofs.lemmas.Bool.{cases_lt}
use Rattle.literal_fingerprints.proofs.lemmas.OneByte.{found_at, none_at}
use Rattle.literal_fingerprints.proofs.one_byte.find_in_last.Goals as goal

pub returns-then-passed-lt-LANES-clause-none : goal.returns-then-passed-lt-LANES-clause-none
returns-then-passed-lt-LANES-clause-none c =
    none_at 16 c.args.byte c.args.from c.args.haystack.now c.load.result c.wanted.result c.load.ensures.lanes
    c.wanted.ensures c.zeros_before-passed.result c.zeros_before-passed.ensures.few c.zeros_before-passed.ensures.zero

pub returns-then-passed-lt-LANES-clause-found : goal.returns-then-passed-lt-LANES-clause-found
returns-then-passed-lt-LANES-clause-found c before =
    found_at 16 c.args.byte c.args.from c.args.haystack.now c.load.result c.wanted.result c.load.ensures.lanes
    c.wanted.ensures c.zeros_before-passed.result c.if-passed-lt-LANES.true
    (c.zeros_before-passed.ensures.stops c.if-passed-lt-LANES.true)

pub returns-clause-none : goal.returns-clause-none
returns-clause-none c at after before =
    elim (cases_lt at (c.args.from + 16)) [
      | inl near ↦
          none_at 16 c.args.byte c.args.from c.args.haystack.now c.load.result c.wanted.result c.load.ensures.lanes
          c.wanted.ensures 16 (omega arith)
          (λ k below. c.zeros_before-passed.ensures.zero k (omega (arith, below, c.if-passed-lt-LANES.false))) at after
          near
      | inr far ↦ c.find_in_rest-2.ensures.none at far before
    ]
