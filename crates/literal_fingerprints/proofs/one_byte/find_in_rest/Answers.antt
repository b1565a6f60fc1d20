use Rattle.std.proofs.Common.{◌≡◌, ◌∙◌, ◌+◌, ◌<◌, ap, arith, sym, take}
use Rattle.std.specs.Prelude.{slice_index}
use Rattle.std.proofs.lemmas.List.{get_or-take}
use Rattle.literal_fingerprints.proofs.lemmas.OneByte.{found_at, none_at}
use Rattle.literal_fingerprints.proofs.one_byte.find_in_rest.Goals as goal

pub returns-clause-none : goal.returns-clause-none
returns-clause-none c at after before same =
    none_at 16 c.args.byte c.args.from (take c.args.end c.args.haystack.now) c.load_rest-rest.result c.wanted.result
    c.load_rest-rest.ensures.lanes c.wanted.ensures c.zeros_before.result c.zeros_before.ensures.few
    c.zeros_before.ensures.zero at after (omega (arith, before, c.min.ensures))
    (get_or-take c.args.end c.args.haystack.now at 0 (omega (arith, before, c.min.ensures)) ∙ same)

pub returns-clause-found : goal.returns-clause-found
returns-clause-found c before =
    let passed = c.zeros_before.result in
    let few : passed < 16 = omega (arith, before, c.min.ensures, c.requires.few) in
    let here : c.min.result ≡ c.args.from + passed = omega (arith, before, c.min.ensures) in
    ap (λ k. slice_index c.args.haystack.now k) here
    ∙ (sym (get_or-take c.args.end c.args.haystack.now (c.args.from + passed) 0 (omega (arith, before, here)))
    ∙ found_at 16 c.args.byte c.args.from (take c.args.end c.args.haystack.now) c.load_rest-rest.result c.wanted.result
    c.load_rest-rest.ensures.lanes c.wanted.ensures passed few (c.zeros_before.ensures.stops few))
