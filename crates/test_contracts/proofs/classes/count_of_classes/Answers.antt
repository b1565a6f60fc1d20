use Rattle.std.proofs.Common.{ℕ, List, ◌∙◌}
use Rattle.std.proofs.lemmas.Iterator.Consumers.{count_from_yields_List, YieldsList-from_first}
use Rattle.std.proofs.lemmas.List.FromFn.{length-range_with_len}
use Rattle.std.specs.List.{range_with_len}
use Rattle.literal_base.specs.Classes.{alphabet_len_of}
use Rattle.test_contracts.proofs.classes.count_of_classes.Goals as goal

pub returns : goal.returns
returns c =
    let len = alphabet_len_of c.args.classes.now in
    let same = λ (class : ℕ). class in
    let left = λ (classes : List ℕ). classes in
    count_from_yields_List c.iter.result c.count.result c.count.ensures.ran
    (YieldsList-from_first same left (range_with_len 0 len) c.iter.ensures.classes) ∙ length-range_with_len 0 len
