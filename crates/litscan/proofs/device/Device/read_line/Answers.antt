use Rattle.litscan.proofs.lemmas.Reading.{at_end}
use Rattle.litscan.proofs.device.Device.read_line.Goals as goal

pub returns-in-Ok-clause-ended : goal.returns-in-Ok-clause-ended
returns-in-Ok-clause-ended g c = λ unfed.
    rw (← c.self.view_is)
    (at_end c.args.line_end _ _ _ _ c.take_end.new.line.items c.take_end.result c.clear.ensures.items
    c.in-Ok.ensures.bytes
    c.in-Ok.ensures.rest c.take_end.ensures.split unfed c.take_end.ensures.whole)
