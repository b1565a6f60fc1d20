use Rattle.std.proofs.Common.{arith}
use Rattle.literal_pieces.proofs.reading.Reading.read.Goals as goal

pub returns-clause-sound : goal.returns-clause-sound
returns-clause-sound g c = c.take_in.ensures.sound (g.R.Read.remaining c.read-answer.new.self) (grind arith)
