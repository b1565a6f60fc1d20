use Rattle.std.proofs.Common.{◌-◌, ◌+◌, ◌<◌, arith, inl, inr, min, refl, subst, take}
use Rattle.std.proofs.lemmas.Bool.{cases_lt}
use Rattle.literal_fingerprints.specs.RarePairs.{HasPair}
use Rattle.literal_fingerprints.proofs.lemmas.Hits.{first_vector, has_earlier, has_pair, lanes_upto_end, none_upto}
use Rattle.literal_fingerprints.proofs.pair.RarePair.scan_short.Goals as goal

pub returns-then-passed-span-clause-passed : goal.returns-then-passed-span-clause-passed
returns-then-passed-span-clause-passed c =
    let pair = c.args.self.now in
    let fm = c.args.first_mask in
    let sm = c.args.second_mask in
    let three = c.args.by_three in
    let apart = c.args.apart in
    let offset = min pair.offset 2 in
    let haystack = c.args.haystack.now in
    let span = c.args.span in
    let r = c.requires in
    let lanes = first_vector pair fm sm three apart offset r.first r.second r.three r.apart refl
    (take span.end haystack) span.start c.load_rest-here.result c.pairs-hits.result c.without_first.result
    c.load_rest-here.ensures.lanes c.pairs-hits.ensures c.without_first.ensures in
    none_upto pair fm sm three apart offset r.first r.second r.three r.apart refl haystack span r.valid
    (span.end - span.start) span.start c.without_first.result
    (lanes_upto_end pair fm sm three apart offset r.first r.second r.three r.apart refl haystack span.start span.start
    span.end c.without_first.result (omega (arith, r.few)) lanes.0) (omega arith)
    (λ k later below. absurd (omega arith)) c.zeros_before-passed.result _ (omega (arith, c.if-passed-span.true))
    c.zeros_before-passed.ensures.zero
    (λ p later before inside. omega (arith, later, before, c.saturating_sub.ensures, c.min.ensures))

pub returns-then-passed-span-clause-stops : goal.returns-then-passed-span-clause-stops
returns-then-passed-span-clause-stops c =
    let pair = c.args.self.now in
    let fm = c.args.first_mask in
    let sm = c.args.second_mask in
    let three = c.args.by_three in
    let apart = c.args.apart in
    let offset = min pair.offset 2 in
    let haystack = c.args.haystack.now in
    let span = c.args.span in
    let start = span.start in
    let r = c.requires in
    let lanes = first_vector pair fm sm three apart offset r.first r.second r.three r.apart refl
    (take span.end haystack) start c.load_rest-here.result c.pairs-hits.result c.without_first.result
    c.load_rest-here.ensures.lanes c.pairs-hits.ensures c.without_first.ensures in
    let has = lanes_upto_end pair fm sm three apart offset r.first r.second r.three r.apart refl haystack start start
    span.end c.without_first.result (omega (arith, r.few)) lanes.0 in
    let passed = c.zeros_before-passed.result in
    let few : passed < 16 = omega (arith, c.if-passed-span.true, r.few) in
    let stops = c.zeros_before-passed.ensures.stops few in
    elim (cases_lt passed (offset + apart)) [
      | inl before ↦ inr (inl (
        omega (arith, c.saturating_sub.ensures, c.min.ensures),
        has_earlier pair fm sm three apart offset r.first r.second r.three r.apart refl haystack start
            (span.end - start) c.without_first.result has passed c.if-passed-span.true stops
            (lanes.1 passed few stops) before,
      ))
      | inr after ↦
          inl (subst (λ n. HasPair pair haystack n) (omega (arith, c.saturating_sub.ensures, c.min.ensures))
          (has_pair pair fm sm three apart offset r.first r.second r.three r.apart refl haystack start
          (span.end - start) start c.without_first.result has (omega arith) passed c.if-passed-span.true stops
          (omega (arith, after))))
    ]

pub returns-clause-passed : goal.returns-clause-passed
returns-clause-passed c =
    let pair = c.args.self.now in
    let fm = c.args.first_mask in
    let sm = c.args.second_mask in
    let three = c.args.by_three in
    let apart = c.args.apart in
    let offset = min pair.offset 2 in
    let haystack = c.args.haystack.now in
    let span = c.args.span in
    let r = c.requires in
    let lanes = first_vector pair fm sm three apart offset r.first r.second r.three r.apart refl
    (take span.end haystack) span.start c.load_rest-here.result c.pairs-hits.result c.without_first.result
    c.load_rest-here.ensures.lanes c.pairs-hits.ensures c.without_first.ensures in
    none_upto pair fm sm three apart offset r.first r.second r.three r.apart refl haystack span r.valid
    (span.end - span.start) span.start c.without_first.result
    (lanes_upto_end pair fm sm three apart offset r.first r.second r.three r.apart refl haystack span.start span.start
    span.end c.without_first.result (omega (arith, r.few)) lanes.0) (omega arith)
    (λ k later below. absurd (omega arith)) (span.end - span.start) span.end (omega arith)
    (λ k below. c.zeros_before-passed.ensures.zero k (omega (arith, below, c.if-passed-span.false)))
    (λ p later before inside. omega (arith, inside, r.valid.ordered))
