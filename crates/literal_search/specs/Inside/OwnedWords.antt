-- The fields of a `WholeWords`.
use Rattle.literal_words.specs.Inside.WholeWords.{WordParts}
use Rattle.literal_search.specs.declared.word_matches.Parts.{Parts}

-- the data of a search for whole words
abbrev pub owned_parts : Parts → WordParts
owned_parts p = record { kind = p.kind; search = p.search; word_bytes = p.word_bytes }
