use Rattle.literal_prefilters.proofs.lemmas.Sound.{step-sound}
use Rattle.literal_prefilters.proofs.laws.covering_tables_are_sound.Goals as goal

pub returns : goal.returns
returns c table query ignore_case haystack span covers bytes valid =
    step-sound table query.patterns ignore_case covers haystack bytes span valid query.kind
