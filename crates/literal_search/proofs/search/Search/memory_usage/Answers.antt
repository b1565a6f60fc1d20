use Rattle.std.proofs.Common.{◌+◌, ◌*◌, List, ℕ, ap, arith, length, map, subst, sum_by}
use Rattle.std.specs.Global.{Vec}
use Rattle.literal_search.specs.Memory.{TakesBytes}
use Rattle.literal_search.specs.SearchValue.{SearchValue}
use Rattle.literal_search.proofs.lemmas.BackTables.{takes_kept}
use Rattle.literal_search.proofs.search.Search.memory_usage.Goals as goal

pub returns : goal.returns
returns c =
    let p = c.self.inside.parts in
    subst (λ (v : SearchValue). TakesBytes v (length c.as_slice-numbers.result.now * 4 + c.total_bytes.result))
    c.self.view_is (
      length p.numbers,
      takes_kept c.self.invariant,
      omega (
        arith,
        c.total_bytes.ensures.total,
        ap (λ (l : List (Vec ℕ)). sum_by length (map (λ pattern. pattern.items) l)) c.deref.ensures.value,
        ap (λ (l : List ℕ). length l) c.as_slice-numbers.ensures,
      ),
    )
