use Rattle.literal_prefilters.proofs.lemmas.Spends.{first_in_match, scan_ends_in_match, scan_ends_in_span}
use Rattle.literal_prefilters.proofs.laws.scans_end_with_the_match.Goals as goal

pub returns-clause-last : goal.returns-clause-last
returns-clause-last c table query ignore_case haystack span found covers bytes valid =
    first_in_match table query ignore_case covers haystack bytes span valid found

pub returns-clause-found : goal.returns-clause-found
returns-clause-found c table query ignore_case haystack span found covers bytes valid =
    scan_ends_in_match table query ignore_case covers haystack bytes span valid found

pub returns-clause-any : goal.returns-clause-any
returns-clause-any c table query ignore_case haystack span answer covers bytes valid =
    scan_ends_in_span table query ignore_case covers haystack bytes span valid answer
