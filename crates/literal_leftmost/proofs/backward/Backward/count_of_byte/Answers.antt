use Rattle.literal_leftmost.proofs.lemmas.ByteMatches.{counted_by_byte}
use Rattle.literal_leftmost.proofs.backward.Backward.count_of_byte.Goals as goal

pub returns-clause-count : goal.returns-clause-count
returns-clause-count c = λ search is.
    counted_by_byte search.query search.ignore_case c.args.haystack.now c.args.span c.in_ok-byte.byte
    (c.in_ok-byte.ensures search is) c.requires.valid c.count_byte.result c.count_byte.ensures.count
