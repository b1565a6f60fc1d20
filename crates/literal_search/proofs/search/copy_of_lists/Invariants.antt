use Rattle.std.proofs.Common.{◌≡◌, map, take}
use Rattle.literal_search.proofs.search.copy_of_lists.Given as goal

abbrev pub invariant-loop-bytes : goal.invariant-loop-bytes
invariant-loop-bytes l =
    map (λ pattern. pattern.items) l.copy.items ≡ map (λ pattern. pattern.items) (take l.bytes-index l.lists)
