use Rattle.literal_c.proofs.finder.PreparedFinder.find_in.Goals as goal

pub returns-clause-found : goal.returns-clause-found
returns-clause-found c = λ query ignore_case is.
    c.find_in.ensures.prepared (record { query = query; ignore_case = ignore_case }) is
