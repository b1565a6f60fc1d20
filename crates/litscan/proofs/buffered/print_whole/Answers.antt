use Rattle.std.proofs.Common.{◌≡◌, ◌∙◌, subst, sym}
use Rattle.std.proofs.lemmas.Result.{on_ok_weaker}
use Rattle.std.specs.Io.KnownBytes.{Appends}
use Rattle.litscan.specs.Inside.Passed.{printed_each}
use Rattle.litscan.specs.Lines.{lines_of}
use Rattle.litscan.proofs.lemmas.Others.{each_plain}
use Rattle.litscan.proofs.lemmas.Whole.{made}
use Rattle.litscan.proofs.buffered.print_whole.Goals as goal

pub returns-clause-written : goal.returns-clause-written
returns-clause-written g c =
    let options = c.args.options in
    let lines = lines_of options.line_end c.args.bytes.now in
    let same : c.args.bytes.now ≡ printed_each options c.args.name.now c.args.number c.args.offset lines =
    (made options.line_end c.args.bytes.now c.requires.whole).are
    ∙ sym (each_plain options c.args.name.now (sym c.has_head.ensures ∙ c.if-has_head.false) c.args.number
    c.args.offset lines) in
    on_ok_weaker c.write_all.result (λ written. subst (Appends _ _) same written) c.write_all.ensures.written
