use Rattle.std.proofs.Common.{ap, inl, inr}
use Rattle.std.proofs.lemmas.Result.{IfOk-weaker}
use Rattle.litscan.proofs.lemmas.Zero.{appends_kept, reads_kept, reads_nothing}
use Rattle.litscan.proofs.files.scan_input.Goals as goal

pub returns-then-is_zero-clause-printed : goal.returns-then-is_zero-clause-printed
returns-then-is_zero-clause-printed g c =
    let zero = c.in_ok-is_zero.ensures.zero c.if-is_zero.true in
    IfOk-weaker c.scan_told.result _ _
    (λ scanned found. (
      found.0,
      found.1,
      found.2,
      inr (
        zero.0,
        reads_nothing scanned.failure _ c.new-nothing.result.inner.now _ found.0
            (ap (λ device. device.inner.now) c.new-nothing.ensures) found.3,
        zero.1,
      ),
      appends_kept _ _ _ found.1 c.in_ok-is_zero.ensures.kept found.4,
    ))
    c.scan_told.ensures.printed

pub returns-clause-printed : goal.returns-clause-printed
returns-clause-printed g c =
    IfOk-weaker c.scan_told-2.result _ _
    (λ scanned found. (
      found.0,
      found.1,
      found.2,
      inl (reads_kept scanned.failure _ _ _ _ found.0 c.in_ok-is_zero.ensures.unread found.3),
      appends_kept _ _ _ found.1 c.in_ok-is_zero.ensures.kept found.4,
    ))
    c.scan_told-2.ensures.printed
