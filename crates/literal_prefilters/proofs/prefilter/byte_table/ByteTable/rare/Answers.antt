use Rattle.literal_prefilters.proofs.lemmas.Covers.{rare_table-covers}
use Rattle.literal_prefilters.proofs.prefilter.byte_table.ByteTable.rare.Goals as goal

pub returns-clause-table : goal.returns-clause-table
returns-clause-table c =
    c.rare_table.ensures c.args.ignore_case c.args.patterns.now.patterns c.of.ensures.running

pub returns-clause-covers : goal.returns-clause-covers
returns-clause-covers c = rw (returns-clause-table c)
    (rare_table-covers c.args.ignore_case c.args.patterns.now.patterns c.of.ensures.not_empty)
