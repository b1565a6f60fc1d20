-- What the beginning of a text tells, and what was scanned for that.
use Rattle.std.proofs.Common.{◌∙◌}
use Rattle.literal_leftmost.proofs.prepared_search.Prepared.find_so_far_counted.Goals as goal

pub returns-clause-whatever_follows : goal.returns-clause-whatever_follows
returns-clause-whatever_follows c = λ search is more.
    c.so_far.ensures.whatever_follows search.query search.ignore_case more
    (c.max_pattern_len.ensures ∙ is.tables.longest) (c.in_ok-found.ensures.prepared search is)
