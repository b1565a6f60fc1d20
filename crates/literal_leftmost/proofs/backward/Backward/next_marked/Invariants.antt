use Rattle.literal_leftmost.specs.Inside.Backward.{AreMarked, ForBackward, NoneFrom}
use Rattle.literal_leftmost.proofs.backward.Backward.next_marked.Given as goal

abbrev pub invariant-loop-at : goal.invariant-loop-at
invariant-loop-at l = ForBackward l.fn.self (λ tables.
    AreMarked tables l.fn.haystack l.fn.span l.fn.from l.fn.numbers l.fn.marks
    → NoneFrom tables l.fn.haystack l.fn.span.end l.fn.from l.at)
