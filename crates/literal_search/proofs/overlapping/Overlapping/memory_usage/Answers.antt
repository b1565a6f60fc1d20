use Rattle.std.proofs.Common.{◌+◌, ◌*◌, arith, length, subst, sum_by}
use Rattle.literal_search.specs.Memory.{TakesListedBytes}
use Rattle.literal_search.specs.Overlapping.{OverlappingValue}
use Rattle.literal_occurrences.proofs.lemmas.LentTables.{takes_listed}
use Rattle.literal_search.proofs.overlapping.Overlapping.memory_usage.Goals as goal

pub returns : goal.returns
returns c =
    let p = c.self.inside.parts in
    subst (λ (v : OverlappingValue). TakesListedBytes v
    (length c.as_slice-numbers.result.now * 4 + c.total_bytes.result)) c.self.view_is (
      length p.numbers,
      takes_listed c.self.invariant,
      grind (arith, sum_by),
    )
