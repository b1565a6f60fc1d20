use Rattle.std.proofs.Common.{◌∙◌, ap, map, sym, ℕ}
use Rattle.std.proofs.lemmas.List.{length-map}
use Rattle.std.specs.Global.{Vec}
use Rattle.std.specs.List.{range_with_len}
use Rattle.literal_rows.specs.Inside.Classes.{symbols_in}
use Rattle.literal_rows.specs.Inside.Shadowed.{texts_by}
use Rattle.literal_rows.proofs.lemmas.Prefixes.{are_sorted}
use Rattle.literal_rows.proofs.prefixes.sorted.Goals as goal

pub returns : goal.returns
returns c =
    are_sorted (texts_by c.args.classes.now c.args.patterns.now) c.in_ok-all.all.items c.sort_unstable.new.self.items
    c.in_ok-all.ensures.words
    (c.in_ok-all.ensures.numbers
    ∙ ap (range_with_len 0)
    (sym (length-map c.args.patterns.now (λ (pattern : Vec ℕ). pattern.items))
    ∙ sym (length-map (map (λ (pattern : Vec ℕ). pattern.items) c.args.patterns.now)
    (symbols_in c.args.classes.now)))) c.sort_unstable.ensures.permutation c.sort_unstable.ensures.sorted
