use Rattle.std.proofs.Common.{◌≡◌, ◌++◌, ℕ, List, map, append-nil, sym, ap, ◌∙◌}
use Rattle.literal_packed.specs.PatternsValue.{in_order}
use Rattle.literal_packed.proofs.lemmas.Callers.{map_in_order}
use Rattle.test_contracts.proofs.uses.order_of.Goals as goal

pub returns : goal.returns
returns c =
    let yielded = c.loop-id.yielded in
    let patterns = c.args.patterns.now in
    let all : yielded ≡ in_order patterns = sym (append-nil yielded)
    ∙ (ap (λ ps. yielded ++ ps) (sym c.in-None.ensures.steps.0) ∙ c.loop-id.invariant.split) in
    c.loop-id.invariant.ids ∙ (ap (map (λ (p : ℕ × List ℕ). p.0)) all ∙ map_in_order patterns)
