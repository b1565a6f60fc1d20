use Rattle.literal_base.proofs.lemmas.Callers.{marks_of-push}
use Rattle.literal_base.proofs.laws.marks_come_range_by_range.Goals as goal

pub returns-clause-one_more : goal.returns-clause-one_more
returns-clause-one_more c = marks_of-push
