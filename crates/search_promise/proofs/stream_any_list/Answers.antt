use Rattle.search_promise.proofs.stream_any_list.Goals as goal

pub returns-clause-scanned : goal.returns-clause-scanned
returns-clause-scanned g c =
    let same = c.in_ok-search.ensures.same in
    rw same at c.taken_from_stream.ensures.bounded
