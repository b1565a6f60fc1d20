use Rattle.literal_search.proofs.search.Search.find_so_far.Goals as goal

pub returns-clause-whatever_follows : goal.returns-clause-whatever_follows
returns-clause-whatever_follows c = λ more.
    c.so_far.ensures.whatever_follows _ _ more c.max_pattern_len.ensures c.find_in-found.ensures.leftmost
