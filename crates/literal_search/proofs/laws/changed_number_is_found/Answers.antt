use Rattle.literal_rows.proofs.lemmas.Check.{change_is_found}
use Rattle.literal_search.proofs.laws.changed_number_is_found.Goals as goal

pub returns : goal.returns
returns c = change_is_found
