use Rattle.std.proofs.Common.{List, ℕ, subst, sym, ◌≡◌}
use Rattle.literal_leftmost.specs.Inside.Backward.{back_tables_by}
use Rattle.literal_search.specs.Inside.Search.{search_value}
use Rattle.literal_search.specs.Prepared.{IsPrepared, back_tables_in}
use Rattle.literal_search.proofs.search.Parts.backward.Goals as goal

pub returns-clause-is_for : goal.returns-clause-is_for
returns-clause-is_for c =
    let search = search_value c.args.self.now in
    c.in-Ok.ensures.is_for search (subst (IsPrepared search) (sym c.as_slice.ensures) c.requires.prepared)

pub returns-clause-tables : goal.returns-clause-tables
returns-clause-tables c =
    let search = search_value c.args.self.now in
    subst (λ (l : List ℕ). back_tables_by search c.in-Ok.backward ≡ back_tables_in search l) c.as_slice.ensures
    (c.in-Ok.ensures.tables search)
