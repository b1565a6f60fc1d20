use Rattle.std.proofs.Common.{◌≡◌, map}
use Rattle.literal_search.specs.SearchValue.{CanBeKept}
use Rattle.literal_search.proofs.copies.Given as goal

abbrev pub invariant-loop-bytes : goal.invariant-loop-bytes
invariant-loop-bytes g l = record {
  copied : map (λ pattern. pattern.items) l.all.items ≡ map (λ bytes. bytes.now) l.yielded;
  kept : CanBeKept (map (λ bytes. bytes.now) l.yielded);
}
