use Rattle.literal_pieces.proofs.lemmas.OverlappingStreamed.{given_all, given_read, read_all}
use Rattle.literal_search.proofs.laws.streams_give_each_occurrence_once.Goals as goal

pub returns-clause-whole : goal.returns-clause-whole
returns-clause-whole c = λ search bytes first last ended all begins run. given_all search bytes first all last ended
    begins run

pub returns-clause-read : goal.returns-clause-read
returns-clause-read c = λ search bytes first last ended all begins run. read_all search bytes first all last ended
    begins run

pub returns-clause-failed : goal.returns-clause-failed
returns-clause-failed c = λ search bytes first last ended all error begins run.
    given_read search bytes first all last ended begins run error
