use Rattle.literal_search.specs.Inside.Search.{search_value}
use Rattle.literal_search.proofs.search.Search.match_in_counted.Goals as goal

pub unreachable-requires : goal.unreachable-requires
unreachable-requires c = c.in-Err.ensures.at (search_value c.self.inside.parts) c.backward.ensures.is_for
