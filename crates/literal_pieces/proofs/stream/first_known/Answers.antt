use Rattle.std.proofs.Common.{arith}
use Rattle.literal_pieces.proofs.lemmas.Sought.{known_follows, nothing_follows}
use Rattle.literal_pieces.proofs.stream.first_known.Goals as goal

pub returns-then-not-is_whole-clause-answers : goal.returns-then-not-is_whole-clause-answers
returns-then-not-is_whole-clause-answers g c = λ more over.
    known_follows c.args.sought.now c.args.haystack.now more c.args.from c.args.reach c.next_in-found.result
    c.so_far.result c.requires.reach c.next_in-found.ensures.first c.so_far.ensures.told c.so_far.ensures.known
    c.so_far.ensures.whatever_follows

pub returns-in-None-clause-answers : goal.returns-in-None-clause-answers
returns-in-None-clause-answers g c = λ more over. grind (arith, nothing_follows)
