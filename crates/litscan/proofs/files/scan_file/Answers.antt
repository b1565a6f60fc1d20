use Rattle.std.proofs.Common.{◌≡◌, ◌∙◌, Some, subst, sym}
use Rattle.std.proofs.lemmas.Bool.{cond-false, cond-true}
use Rattle.std.proofs.lemmas.Result.{IfOk-weaker}
use Rattle.litscan.specs.Files.{input_name, is_input}
use Rattle.litscan.specs.Scans.{Scans}
use Rattle.litscan.proofs.files.scan_file.Goals as goal

pub returns-then-is_input-clause-printed : goal.returns-then-is_input-clause-printed
returns-then-is_input-clause-printed g c =
    let name = c.args.name.now in
    let label = c.args.label.now in
    let shown : input_name label name ≡ label =
    cond-true (is_input name) label name (sym c.is_input.ensures ∙ c.if-is_input.true) in
    IfOk-weaker c.scan_input.result _ _
    (λ scanned found. (
      Some found.0,
      found.1,
      (
        c.options_for_input-own.result,
        c.options_for_input-own.ensures,
        subst (λ name. Scans c.args.search.now c.options_for_input-own.result c.args.separator.now c.args.any name
            found.0 scanned found.1)
            (sym shown) found.2,
      ),
      found.4,
    ))
    c.scan_input.ensures.printed

pub returns-in_ok-reader-in-Ok-clause-printed : goal.returns-in_ok-reader-in-Ok-clause-printed
returns-in_ok-reader-in-Ok-clause-printed g c =
    let name = c.args.name.now in
    let label = c.args.label.now in
    let shown : input_name label name ≡ name =
    cond-false (is_input name) label name (sym c.is_input.ensures ∙ c.if-is_input.false) in
    IfOk-weaker c.scan_input-in-Ok.result _ _
    (λ scanned found. (
      Some found.0,
      found.1,
      (
        c.options_for_file-own.result,
        c.options_for_file-own.ensures,
        subst (λ name. Scans c.args.search.now c.options_for_file-own.result c.args.separator.now c.args.any name
            found.0 scanned found.1)
            (sym shown) found.2,
      ),
      found.4,
    ))
    c.scan_input-in-Ok.ensures.printed
