use Rattle.std.proofs.Common.{◌≡◌, [], false, rules, subst, sym}
use Rattle.std.proofs.lemmas.Result.{IfOk-weaker}
use Rattle.std.specs.Io.KnownBytes.{Consumes}
use Rattle.litscan.specs.Inside.Passed.{TakesLines}
use Rattle.litscan.proofs.lemmas.Passing.{nothing_taken}
use Rattle.litscan.proofs.device.Device.take_lines.Goals as goal

pub returns-in-Err-clause-takes : goal.returns-in-Err-clause-takes
returns-in-Err-clause-takes g c =
    let kept : Consumes (g.R.Read.remaining c.args.self.now.inner) (g.R.Read.remaining c.after_fill.new.self.inner) [] =
    search rules in
    let written = g.W.Write.contents c.args.writer.now.inner in
    IfOk-weaker c.after_fill.result
    (λ ahead. ahead ≡ record { lines = 0; bytes = 0; count = 0; found = false; ended = false }) _
    (λ ahead is. (
      [],
      kept,
      subst (λ a. TakesLines c.args.search.now c.args.options c.args.name.now c.args.lines c.args.offset a [] written
          written) (sym is)
          (nothing_taken c.args.search.now c.args.options c.args.name.now c.args.lines c.args.offset written false
          c.ranges.offset.fits),
    )) c.after_fill.ensures.none
