use Rattle.literal_prefilters.proofs.lemmas.Covers.{start_table-covers, start_table-none_back}
use Rattle.literal_prefilters.proofs.prefilter.byte_table.ByteTable.start.Goals as goal

pub returns-clause-table : goal.returns-clause-table
returns-clause-table c =
    c.start_table.ensures c.args.ignore_case c.args.patterns.now.patterns c.of.ensures.running

pub returns-clause-covers : goal.returns-clause-covers
returns-clause-covers c = rw (returns-clause-table c)
    (start_table-covers c.args.ignore_case c.args.patterns.now.patterns c.of.ensures.not_empty)

pub returns-clause-none_back : goal.returns-clause-none_back
returns-clause-none_back c = rw (returns-clause-table c)
    (start_table-none_back c.args.ignore_case c.args.patterns.now.patterns)
