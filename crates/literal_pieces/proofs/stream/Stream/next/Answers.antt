use Rattle.literal_pieces.proofs.stream.Stream.next.Goals as goal

pub returns-clause-scans : goal.returns-clause-scans
returns-clause-scans g c = record { scans = c.next_match-next.ensures.scans; few = λ _. c.next_match-next.ensures.few }
