use Rattle.std.proofs.Common.{[], ◌∷◌, List, ℕ, map, sym, ap, ◌∙◌}
use Rattle.std.specs.Borrow.{Bor}
use Rattle.std.proofs.lemmas.List.{map_push}
use Rattle.literal_packed.proofs.lemmas.Callers.{state_after-append}
use Rattle.literal_prefilters.specs.PrefilterBuilderValue.{prefilter_limit, with_added}
use Rattle.literal_prefilters.proofs.prefilter.confirming.ConfirmingSearch.build.Goals as goal

pub loop-bytes-preserved : goal.loop-bytes-preserved
loop-bytes-preserved g c =
    let first = c.ascii_case_insensitive-builder.result in
    let items = c.loop-bytes.yielded in
    let item = c.in-Some.bytes in
    c.in_ok-add.ensures.ok
    ∙ (ap (λ b. with_added b (item.now ∷ [])) c.loop-bytes.invariant
    ∙ (ap (λ s. record first { state = s })
    (state_after-append prefilter_limit first.state (map (λ p. p.now) items) (item.now ∷ []))
    ∙ ap (with_added first) (sym (map_push (λ (p : Bor (List ℕ)). p.now) items item))))
