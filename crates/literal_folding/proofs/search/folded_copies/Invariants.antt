-- The patterns so far can be kept, and their folded copies are.
use Rattle.std.proofs.Common.{◌≡◌, map}
use Rattle.literal_search.specs.SearchValue.{CanBeKept}
use Rattle.literal_folding.specs.Folding.{folded}
use Rattle.literal_folding.proofs.search.folded_copies.Given as goal

abbrev pub invariant-loop-bytes : goal.invariant-loop-bytes
invariant-loop-bytes g l = record {
  copied : map (λ pattern. pattern.items) l.all.items ≡ map folded (map (λ bytes. bytes.now) l.yielded);
  kept : CanBeKept (map (λ bytes. bytes.now) l.yielded);
}
