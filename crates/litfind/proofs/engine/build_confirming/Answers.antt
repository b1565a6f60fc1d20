use Rattle.std.proofs.Common.{◌∙◌, map, rules, ap, refl, string_bytes}
use Rattle.std.specs.Iterator.Adapters.{map_source, map_callee}
use Rattle.std.specs.Slice.Iter.{iter_rest}
use Rattle.std.proofs.lemmas.Iterator.{YieldsList-from_map_by, YieldsList-from_slice, items_from_drains}
use Rattle.std.proofs.lemmas.Result.{IfOk-weaker, on_err_weaker}
use Rattle.literal_prefilters.specs.ConfirmingValue.{confirming_of, prefilter_builder}
use Rattle.literal_prefilters.proofs.lemmas.Callers.{confirms_for, first_if_refuses_confirming}
use Rattle.litfind.proofs.engine.build_confirming.Goals as goal

pub returns-clause-built : goal.returns-clause-built
returns-clause-built c =
    let kind = c.args.kind in
    let ignore_case = c.args.ignore_case in
    IfOk-weaker c.build.result _ _
    (λ built builds.
    let texts = items_from_drains builds.1 (builds.3.1.0, builds.3.1.1, λ _. (builds.3.0, builds.3.1.2))
    (YieldsList-from_map_by _ (λ r. r.now) string_bytes
    (YieldsList-from_slice {s = map_source builds.0} c.args.patterns.now
    (ap (λ m. iter_rest (map_source m)) builds.2 ∙ (ap iter_rest c.map-bytes.ensures.source ∙ c.iter.ensures.rest)))
    (ap map_callee builds.2 ∙ c.map-bytes.ensures.closure) (λ x r q called. (refl, search rules))) in
    builds.4 ∙ ap (λ added. confirming_of kind (prefilter_builder kind ignore_case added)) texts)
    c.build.ensures.ok

pub returns-clause-for_these : goal.returns-clause-for_these
returns-clause-for_these c =
    IfOk-weaker c.build.result _ _ (confirms_for c.args.kind c.args.ignore_case (map string_bytes c.args.patterns.now))
    (returns-clause-built c)

pub returns-clause-no_memory : goal.returns-clause-no_memory
returns-clause-no_memory c =
    on_err_weaker c.build.result
    (first_if_refuses_confirming
    (λ it is. YieldsList-from_map_by _ (λ r. r.now) string_bytes
    (YieldsList-from_slice {s = map_source it} c.args.patterns.now
    (ap (λ m. iter_rest (map_source m)) is ∙ (ap iter_rest c.map-bytes.ensures.source ∙ c.iter.ensures.rest)))
    (ap map_callee is ∙ c.map-bytes.ensures.closure) (λ x r q called. (refl, search rules)))
    c.args.kind c.args.ignore_case)
    c.build.ensures.no_memory
