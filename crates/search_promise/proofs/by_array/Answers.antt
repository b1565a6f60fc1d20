use Rattle.std.proofs.Common.{List, subst, sym, ℕ}
use Rattle.literal_search.specs.Prepared.{IsPrepared}
use Rattle.search_promise.proofs.by_array.Goals as goal

pub unreachable-requires-in_default-find_in : goal.unreachable-requires-in_default-find_in
unreachable-requires-in_default-find_in c =
    let search = c.args.search.now in
    c.in_default-find_in.ensures.prepared search
    (subst (λ (numbers : List ℕ). IsPrepared search numbers) (sym c.in-Ok.ensures.0)
    c.in_ok-places.ensures.ok.prepared)
