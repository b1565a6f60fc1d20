use Rattle.literal_search.proofs.whole_words.WholeWords.replace_stream_with.Goals as goal

pub returns-clause-error : goal.returns-clause-error
returns-clause-error g c = rw c.by.ensures at c.replace_with.ensures.error
