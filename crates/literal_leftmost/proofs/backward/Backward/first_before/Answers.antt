use Rattle.std.proofs.Common.{◌+◌, arith, refl}
use Rattle.literal_leftmost.proofs.backward.Backward.first_before.Goals as goal

pub returns-in_err-row-clause-first : goal.returns-in_err-row-clause-first
returns-in_err-row-clause-first c = λ search is end upto before step none.
    absurd (c.in_err-row.ensures.lane search is c.args.haystack.now c.args.span end c.args.part.end refl step)

pub returns-clause-first : goal.returns-clause-first
returns-clause-first c = λ search is end upto before step none.
    c.first_in.ensures.first search is end upto (omega (arith, before))
    (c.in_ok-row.ensures.lane search is c.args.haystack.now c.args.span end c.args.part.end refl step)
    (c.in_ok-row.ensures.first search is c.args.haystack.now c.args.span end (c.args.part.end + 1) c.args.part.end
    upto
    refl refl before step none)
