use Rattle.std.proofs.Common.{◌≡◌, ◌++◌, ◌∷◌, ◌∙◌, [], List, ℕ, ap, append_assoc, slice_range, subst}
use Rattle.std.proofs.KnownBytes.{Appends-trans}
use Rattle.std.proofs.lemmas.Result.{on_ok_weaker}
use Rattle.std.specs.Io.KnownBytes.{Appends}
use Rattle.literal_base.specs.declared.search.Span.{Span}
use Rattle.litscan.specs.Printed.{printed_head, printed_match}
use Rattle.litscan.proofs.printing.print_match.Goals as goal

pub returns-clause-printed : goal.returns-clause-printed
returns-clause-printed g c =
    let options = c.args.options in
    let line = c.args.line.now in
    let found = c.args.found in
    let head = λ (bytes : List ℕ). printed_head options c.args.name.now c.args.number c.args.offset bytes in
    let bytes : c.of.result.now ≡ slice_range line found.start found.end =
    c.of.ensures ∙ ap (λ (s : Span). slice_range line s.start s.end) c.span.ensures.span in
    let front = head (slice_range line found.start found.end) in
    let shown = printed_match options line found in
    let here = Appends (g.W.Write.contents c.args.writer.now.inner)
    (g.W.Write.contents c.print_head.new.writer.inner) in
    on_ok_weaker c.write_all.result
    (λ written. subst (Appends _ _) (append_assoc front shown (options.line_end ∷ []))
    (Appends-trans _ _ _ (front ++ shown) (options.line_end ∷ [])
    (Appends-trans _ _ _ front shown
    (subst (λ these. here (head these)) bytes c.in_ok-print_head.ensures.printed)
    c.in_ok-print_shown.ensures.printed) written))
    c.write_all.ensures.written
