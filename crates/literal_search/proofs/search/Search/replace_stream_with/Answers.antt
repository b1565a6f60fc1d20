use Rattle.std.proofs.Common.{rules}
use Rattle.literal_search.proofs.search.Search.replace_stream_with.Goals as goal

pub returns-clause-error : goal.returns-clause-error
returns-clause-error g c = let told = rw c.by.ensures at c.replace_with.ensures.error in search rules
