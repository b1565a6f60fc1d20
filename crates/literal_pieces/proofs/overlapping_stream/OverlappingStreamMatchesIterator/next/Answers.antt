use Rattle.literal_pieces.proofs.lemmas.OverlappingStreams.{progresses}
use Rattle.literal_pieces.proofs.overlapping_stream.OverlappingStreamMatchesIterator.next.Goals as goal

pub returns-clause-goes : goal.returns-clause-goes
returns-clause-goes g c = progresses c.args.self.now c.next_counted.result c.next_counted.new.self
    c.next_counted.ensures.gives
