use Rattle.std.proofs.Common.{rules}
use Rattle.literal_packed.specs.State.{kept_of}
use Rattle.literal_prefilters.proofs.lemmas.Choice.{kept_not_empty}
use Rattle.literal_prefilters.proofs.lemmas.Covers.{start_table-covers, start_table-none_back}
use Rattle.literal_prefilters.proofs.prefilter.Builder.start_table.Goals as goal

pub returns-clause-table : goal.returns-clause-table
returns-clause-table c = search rules

pub returns-clause-covers : goal.returns-clause-covers
returns-clause-covers c = rw (returns-clause-table c)
    (start_table-covers c.args.self.now.ignore_case (kept_of c.args.self.now.state)
    (kept_not_empty c.self.inside c.args.self.now c.self.invariant c.self.view_is))

pub returns-clause-none_back : goal.returns-clause-none_back
returns-clause-none_back c = rw (returns-clause-table c)
    (start_table-none_back c.args.self.now.ignore_case (kept_of c.args.self.now.state))
