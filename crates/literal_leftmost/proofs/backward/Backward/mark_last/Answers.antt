use Rattle.std.proofs.Common.{◌-◌, arith}
use Rattle.literal_leftmost.specs.Inside.Backward.{back_tables_by}
use Rattle.literal_leftmost.proofs.lemmas.Leftmost.{marks_in_four}
use Rattle.literal_leftmost.proofs.backward.Backward.mark_last.Goals as goal

pub returns-clause-marks : goal.returns-clause-marks
returns-clause-marks c = λ search is haystack span at steps marked.
    marks_in_four (back_tables_by search c.args.self.now) haystack span at c.args.part (c.args.passed.left - 1)
    c.args.passed.left c.args.marks.now c.args.passed.codes (omega arith) c.requires.left c.requires.room steps marked
