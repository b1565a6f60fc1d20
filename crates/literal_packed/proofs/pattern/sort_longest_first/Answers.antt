use Rattle.std.proofs.Common.{rules}
use Rattle.std.specs.Ordering.{is_lt}
use Rattle.std.proofs.lemmas.Fn.{always_returns_same}
use Rattle.std.proofs.lemmas.Result.{on_ok_weaker}
use Rattle.literal_packed.specs.Inside.Longest.{bytes_of, longest_cmp}
use Rattle.literal_packed.proofs.lemmas.LongestOrder.{longest_ranks}
use Rattle.literal_packed.proofs.pattern.sort_longest_first.Goals as goal

pub returns-clause-sorted : goal.returns-clause-sorted
returns-clause-sorted c =
    let patterns = bytes_of c.args.by_id.now in
    on_ok_weaker c.sort_by.result
    (λ sorted. sorted (λ i j. is_lt (longest_cmp patterns i j)) (longest_ranks patterns)
    (always_returns_same _ _ _ (λ a r g k. search rules)))
    c.sort_by.ensures.sorted
