use Rattle.std.proofs.Common.{ℕ, List, ◌∙◌}
use Rattle.std.proofs.lemmas.Iterator.Consumers.{count_from_yields_List, YieldsList-from_first}
use Rattle.literal_packed.specs.PatternsValue.{in_order}
use Rattle.literal_packed.proofs.lemmas.Callers.{length_in_order}
use Rattle.test_contracts.proofs.uses.count_of.Goals as goal

pub returns : goal.returns
returns c =
    let patterns = c.args.patterns.now in
    let same = λ (p : ℕ × List ℕ). p in
    let left = λ (ps : List (ℕ × List ℕ)). ps in
    count_from_yields_List c.iter.result c.count.result c.count.ensures.ran
    (YieldsList-from_first same left (in_order patterns) c.iter.ensures.items)
    ∙ length_in_order patterns c.iter.ensures.well_formed
