use Rattle.std.proofs.Common.{◌≡◌, ◌∙◌, false, sym}
use Rattle.std.proofs.lemmas.Bool.{cond-false}
use Rattle.litscan.proofs.lemmas.Asked.{one_asked_if}
use Rattle.litscan.proofs.selected.is_asked.Goals as goal
use Rattle.litscan.proofs.selected.is_asked.Goals.{else-options, then-options}

pub returns-then-not-options : goal.returns-then-not-options
returns-then-not-options c =
    let word = c.requires.known c.if-known.true in
    let value = c.if-not-options.true in
    elim c.if-options.branch [
      | then-options w ↦ absurd (cc)
      | else-options w ↦
          let alone : c.args.options.alone ≡ false = sym w.value-is ∙ value in
          sym (one_asked_if c.args.search.now c.args.options c.args.line.now word.0 word.1 (record {
            occurs = word.2;
            asked = cond-false c.args.options.whole _ _ w.if-options.false ∙ cond-false c.args.options.alone _ _ alone;
          }))
    ]
