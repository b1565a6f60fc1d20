use Rattle.std.proofs.Common.{length}
use Rattle.std.proofs.lemmas.Result.{on_ok_weaker}
use Rattle.std.proofs.lemmas.List.Sorted.{IsPermutation-trans}
use Rattle.literal_packed.specs.Inside.Longest.{bytes_of}
use Rattle.literal_packed.proofs.lemmas.LongestOrder.{order-apart, better_from_sorted, better_from_longest}
use Rattle.literal_packed.proofs.pattern.put_in_order.Goals as goal

pub returns-in-LeftmostFirst-clause-in_order : goal.returns-in-LeftmostFirst-clause-in_order
returns-in-LeftmostFirst-clause-in_order c =
    let apart = order-apart (length c.args.by_id.now) c.sort.new.self.items
    (IsPermutation-trans _ _ _ c.requires c.sort.ensures.permutation) in
    rw c.in-LeftmostFirst.is (on_ok_weaker c.sort.result
    (better_from_sorted (bytes_of c.args.by_id.now) c.sort.new.self.items apart) c.sort.ensures.sorted)

pub returns-in-LeftmostLongest-clause-in_order : goal.returns-in-LeftmostLongest-clause-in_order
returns-in-LeftmostLongest-clause-in_order c =
    let sorted = c.sort_longest_first in
    let apart = order-apart (length c.args.by_id.now) sorted.new.order.items
    (IsPermutation-trans _ _ _ c.requires sorted.ensures.permutation) in
    rw c.in-LeftmostLongest.is (on_ok_weaker sorted.result
    (better_from_longest (bytes_of c.args.by_id.now) sorted.new.order.items apart) sorted.ensures.sorted)
