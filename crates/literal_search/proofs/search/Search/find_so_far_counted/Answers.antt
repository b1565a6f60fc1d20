use Rattle.literal_search.proofs.search.Search.find_so_far_counted.Goals as goal

pub returns-clause-whatever_follows : goal.returns-clause-whatever_follows
returns-clause-whatever_follows c = λ more.
    let s = c.args.self.now in
    c.so_far.ensures.whatever_follows s.query s.ignore_case more c.max_pattern_len.ensures (search)
