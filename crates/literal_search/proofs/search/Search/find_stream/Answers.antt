use Rattle.literal_search.proofs.search.Search.find_stream.Goals as goal

pub returns : goal.returns
returns g c = rw c.by.ensures at c.in_ok-stream.ensures.first
