use Rattle.literal_search.proofs.overlapping.Overlapping.find_overlapping_in.Goals as goal

pub invariant_of-result : goal.invariant_of-result
invariant_of-result c =
    let lent = c.lent-lent.ensures in
    let before = c.before_all-position.ensures in
    (lent.lent, lent.is_for, c.requires, before.lies, before.stands _ lent.is_for)
