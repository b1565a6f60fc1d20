use Rattle.std.proofs.KnownBytes.{Appends-kept}
use Rattle.litscan.proofs.files.scan_told.Goals as goal

pub returns-in_ok-tell_behind-clause-printed : goal.returns-in_ok-tell_behind-clause-printed
returns-in_ok-tell_behind-clause-printed g c =
    let scanned = c.in_ok-scanned.ensures.scanned in (
      scanned.0,
      scanned.1,
      scanned.2,
      scanned.3,
      Appends-kept _ _ _ scanned.1 scanned.4 c.in_ok-tell_behind.ensures.kept,
    )
