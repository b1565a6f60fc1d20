use Rattle.std.proofs.Common.{arith}
use Rattle.literal_search.proofs.lemmas.BackTables.{takes_kept}
use Rattle.literal_rows.proofs.lemmas.Numbers.{put_refuses, put_writes}
use Rattle.literal_search.proofs.search.Search.into_prepared.Goals as goal

pub returns-clause-ok : goal.returns-clause-ok
returns-clause-ok c = grind (arith, put_writes, takes_kept)

pub returns-clause-error : goal.returns-clause-error
returns-clause-error c = grind (arith, put_refuses, takes_kept)
