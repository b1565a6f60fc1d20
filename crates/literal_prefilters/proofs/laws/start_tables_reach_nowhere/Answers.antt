use Rattle.literal_prefilters.proofs.lemmas.Covers.{start_table-none_back}
use Rattle.literal_prefilters.proofs.laws.start_tables_reach_nowhere.Goals as goal

pub returns : goal.returns
returns c = start_table-none_back
