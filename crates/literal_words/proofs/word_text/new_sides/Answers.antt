use Rattle.std.proofs.Common.{arith}
use Rattle.std.proofs.Common.{◌∙◌, ap, flat_map, map-id, sym}
use Rattle.std.proofs.lemmas.Iterator.{YieldsList-from_chars}
use Rattle.std.proofs.lemmas.Iterator.Consumers.{YieldsList-end}
use Rattle.literal_words.specs.WordText.{sides_of_char}
use Rattle.literal_words.proofs.lemmas.WordText.{ascii_sides, sides_written}
use Rattle.literal_words.proofs.word_text.new_sides.Goals as goal

pub returns-clause-ok : goal.returns-clause-ok
returns-clause-ok c =
    let end = YieldsList-end (YieldsList-from_chars c.args.text.now c.utf8.text cc) c.loop-c.yielded _
    c.loop-c.yielded_by _ _
    c.in-None.is c.next.ensures.steps in
    sides_written c.args.text.now c.loop-c.all.items c.utf8.text (c.loop-c.invariant
    ∙ ap (flat_map sides_of_char) (sym (map-id c.loop-c.yielded) ∙ end.0))

pub returns-then-is_ascii-clause-ok : goal.returns-then-is_ascii-clause-ok
returns-then-is_ascii-clause-ok c = grind (arith, ascii_sides)
