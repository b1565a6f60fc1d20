use Rattle.std.proofs.Common.{◌∙◌, subst, sym}
use Rattle.literal_search.specs.Inside.Overlapping.{overlapping_of}
use Rattle.literal_search.specs.PreparedOverlapping.{IsPreparedOverlapping}
use Rattle.literal_occurrences.proofs.lemmas.LentTables.{are_for}
use Rattle.literal_search.proofs.overlapping.Parts.lent.Goals as goal

pub returns-clause-is_for : goal.returns-clause-is_for
returns-clause-is_for c =
    let search = overlapping_of c.args.self.now in
    are_for c.in-Ok.lent c.in-Ok.ensures.1 search
    (subst (IsPreparedOverlapping search) (sym (c.in-Ok.ensures.0 ∙ c.as_slice.ensures)) c.requires.prepared)
