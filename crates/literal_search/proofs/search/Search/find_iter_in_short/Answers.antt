use Rattle.literal_leftmost.specs.Inside.Backward.{back_tables_by}
use Rattle.literal_search.specs.Inside.Search.{search_value}
use Rattle.literal_search.proofs.search.Search.find_iter_in_short.Goals as goal

pub invariant_of-result : goal.invariant_of-result
invariant_of-result c =
    let backward = c.backward.result in (
      c.requires.short,
      record {
        are = c.self.invariant;
        valid = c.requires.valid;
        safe = c.backward.ensures.safe;
        is_for = c.backward.ensures.is_for;
        cursor = c.new.ensures.cursor backward.table.longest;
        knows = c.new.ensures.knows (back_tables_by (search_value c.self.inside.parts) backward) c.args.haystack.now;
      },
    )
