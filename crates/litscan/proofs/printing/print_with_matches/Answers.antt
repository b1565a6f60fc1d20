use Rattle.std.proofs.Common.{◌≡◌, ◌++◌, ◌∷◌, [], List, ℕ, append_assoc, refl, subst}
use Rattle.std.proofs.KnownBytes.{Appends-trans}
use Rattle.std.proofs.lemmas.Result.{on_ok_weaker}
use Rattle.std.specs.Io.KnownBytes.{Appends}
use Rattle.litscan.specs.Printed.{marked_from, printed_head, printed_part}
use Rattle.litscan.proofs.printing.print_with_matches.Goals as goal

-- the line behind what stands in front of it, and the end
in_line : (line_end : ℕ) (head line : List ℕ) → (head ++ line) ++ line_end ∷ [] ≡ head ++ (line ++ line_end ∷ [])
in_line line_end head line = append_assoc head line (line_end ∷ [])

pub returns-clause-printed : goal.returns-clause-printed
returns-clause-printed g c =
    let options = c.args.options in
    let name = c.args.name.now in
    let line = c.args.line.now in
    let marked = c.in_ok-print_marked.ensures.printed in
    let head = printed_head options name c.args.number c.args.offset line in
    let shown = marked_from options line 0 marked.0 in
    on_ok_weaker c.write_all.result
    (λ written. (
      printed_part options name c.args.number c.args.offset line shown,
      subst (Appends _ _) (in_line options.line_end head shown)
          (Appends-trans _ _ _ (head ++ shown) (options.line_end ∷ [])
          (Appends-trans _ _ _ head shown c.in_ok-print_head.ensures.printed marked.2) written),
      (marked.0, marked.1, refl),
    ))
    c.write_all.ensures.written
