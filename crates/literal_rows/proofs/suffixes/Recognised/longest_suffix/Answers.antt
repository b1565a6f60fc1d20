use Rattle.std.proofs.Common.{◌≡◌, ◌+◌, ◌-◌, ◌++◌, ◌∷◌, [], drop, take, get_or, arith, refl, subst}
use Rattle.std.proofs.lemmas.List.{length-drop, length-map, take_all}
use Rattle.literal_base.specs.Occurs.{pattern_at}
use Rattle.literal_rows.specs.Inside.Lists.{HasReadText, symbols_of}
use Rattle.literal_rows.proofs.lemmas.Recognised.{ends_there, pattern_push, stands_on, symbols_are}
use Rattle.literal_rows.proofs.suffixes.Recognised.longest_suffix.Goals as goal
use Rattle.literal_rows.proofs.suffixes.Recognised.longest_suffix.Goals.{then-code-lt-ENDS, else-code-lt-ENDS}

pub loop-at-preserved : goal.loop-at-preserved
loop-at-preserved c =
    let r = c.args.self.now in
    let at = c.loop-at.at in
    let read = c.index-self-pattern.result in
    let bytes = c.as_slice-bytes.result.now in
    let is : bytes ≡ read.items = grind arith in
    let text = take (at - c.args.from) (drop c.args.from (pattern_at (symbols_of r) c.args.pattern)) in
    let symbol = get_or r.classes.now (get_or bytes at 0) 0 in
    let code = get_or r.rows.now (c.loop-at.row + symbol) 0 in
    let more : text ++ symbol ∷ [] ≡ take (at + 1 - c.args.from) (drop c.args.from (pattern_at (symbols_of r)
    c.args.pattern)) =
    grind (arith, pattern_push) in
    subst (HasReadText r c.if-code-lt-ENDS.row) more
    (stands_on r c.requires.recognise text c.loop-at.row symbol code c.loop-at.invariant
    (c.requires.recognise.classes.below (get_or bytes at 0) (omega (arith, c.type_inv.bytes at))) refl
    c.if-code-lt-ENDS.row
    (grind (arith, then-code-lt-ENDS, else-code-lt-ENDS)))

pub returns : goal.returns
returns c = grind (arith, symbols_are, length-map, length-drop, ends_there, take_all)
