use Rattle.std.proofs.Common.{◌+◌, ◌-◌, ◌∙◌, arith, inl, min, refl, sym, take}
use Rattle.std.proofs.lemmas.List.{get_or-take}
use Rattle.literal_fingerprints.proofs.lemmas.Hits.{has_pair, lanes_upto_end, later_vector, none_upto}
use Rattle.literal_fingerprints.proofs.pair.RarePair.scan_last.Goals as goal

pub returns-then-passed-span-clause-passed : goal.returns-then-passed-span-clause-passed
returns-then-passed-span-clause-passed c =
    let pair = c.args.self.now in
    let fm = c.args.first_mask in
    let sm = c.args.second_mask in
    let three = c.args.by_three in
    let apart = c.args.apart in
    let offset = min pair.offset 2 in
    let haystack = c.args.haystack.now in
    let span = c.args.span in
    let from = c.args.from in
    let r = c.requires in
    let lanes = later_vector pair fm sm three apart offset r.first r.second r.three r.apart refl
    (take span.end haystack) span.start from c.args.before c.load_rest-here.result c.pairs-hits.result r.after
    (record {
      long = r.before.long;
      each = λ k below. r.before.each k below
          ∙ sym (get_or-take span.end haystack (from + k - 16) 0 (omega (arith, r.inside, r.after, below)));
    }) c.load_rest-here.ensures.lanes c.pairs-hits.ensures in
    none_upto pair fm sm three apart offset r.first r.second r.three r.apart refl haystack span r.valid
    (span.end - from) from c.pairs-hits.result
    (lanes_upto_end pair fm sm three apart offset r.first r.second r.three r.apart refl haystack span.start from
    span.end c.pairs-hits.result (omega (arith, r.few)) lanes) (omega (arith, r.after)) r.none
    c.zeros_before-passed.result _ (omega (arith, c.if-passed-span.true)) c.zeros_before-passed.ensures.zero
    (λ p later before inside. omega (arith, later, before, c.min.ensures))

pub returns-then-passed-span-clause-stops : goal.returns-then-passed-span-clause-stops
returns-then-passed-span-clause-stops c =
    let pair = c.args.self.now in
    let fm = c.args.first_mask in
    let sm = c.args.second_mask in
    let three = c.args.by_three in
    let apart = c.args.apart in
    let offset = c.min.result in
    let haystack = c.args.haystack.now in
    let span = c.args.span in
    let from = c.args.from in
    let r = c.requires in
    let lanes = later_vector pair fm sm three apart offset r.first r.second r.three r.apart c.min.ensures
    (take span.end haystack) span.start from c.args.before c.load_rest-here.result c.pairs-hits.result r.after
    (record {
      long = r.before.long;
      each = λ k below. r.before.each k below
          ∙ sym (get_or-take span.end haystack (from + k - 16) 0 (omega (arith, r.inside, r.after, below)));
    }) c.load_rest-here.ensures.lanes c.pairs-hits.ensures in
    inl (has_pair pair fm sm three apart offset r.first r.second r.three r.apart c.min.ensures haystack span.start
    (span.end - from) from c.pairs-hits.result
    (lanes_upto_end pair fm sm three apart offset r.first r.second r.three r.apart c.min.ensures haystack span.start
    from span.end c.pairs-hits.result (omega (arith, r.few)) lanes) (omega (arith, r.after))
    c.zeros_before-passed.result c.if-passed-span.true
    (c.zeros_before-passed.ensures.stops (omega (arith, c.if-passed-span.true, r.few)))
    (omega (arith, r.after, r.apart, c.min.ensures)))

pub returns-clause-passed : goal.returns-clause-passed
returns-clause-passed c =
    let pair = c.args.self.now in
    let fm = c.args.first_mask in
    let sm = c.args.second_mask in
    let three = c.args.by_three in
    let apart = c.args.apart in
    let offset = min pair.offset 2 in
    let haystack = c.args.haystack.now in
    let span = c.args.span in
    let from = c.args.from in
    let r = c.requires in
    let lanes = later_vector pair fm sm three apart offset r.first r.second r.three r.apart refl
    (take span.end haystack) span.start from c.args.before c.load_rest-here.result c.pairs-hits.result r.after
    (record {
      long = r.before.long;
      each = λ k below. r.before.each k below
          ∙ sym (get_or-take span.end haystack (from + k - 16) 0 (omega (arith, r.inside, r.after, below)));
    }) c.load_rest-here.ensures.lanes c.pairs-hits.ensures in
    none_upto pair fm sm three apart offset r.first r.second r.three r.apart refl haystack span r.valid
    (span.end - from) from c.pairs-hits.result
    (lanes_upto_end pair fm sm three apart offset r.first r.second r.three r.apart refl haystack span.start from
    span.end c.pairs-hits.result (omega (arith, r.few)) lanes) (omega (arith, r.after)) r.none
    (span.end - from) span.end (omega arith)
    (λ k below. c.zeros_before-passed.ensures.zero k (omega (arith, below, c.if-passed-span.false)))
    (λ p later before inside. omega (arith, inside, r.inside))
