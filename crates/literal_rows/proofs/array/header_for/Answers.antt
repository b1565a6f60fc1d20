use Rattle.std.proofs.Common.{◌∙◌, ℕ, List, [], ap, arith, length, sym}
use Rattle.std.proofs.lemmas.List.{get_or-map, length-map}
use Rattle.std.specs.Global.{Vec}
use Rattle.literal_rows.proofs.lemmas.Longest.{longest_short}
use Rattle.literal_rows.proofs.array.header_for.Goals as goal

pub overflow_cast-longest : goal.overflow_cast-longest
overflow_cast-longest c = grind (arith, longest_short)

pub overflow_cast-len : goal.overflow_cast-len
overflow_cast-len c =
    let patterns = c.args.patterns.now in
    let i = c.loop-pattern.pattern-index in
    let pattern = c.pattern-item.result in
    let read = get_or-map (λ (p : Vec ℕ). p.items) patterns i pattern [] c.loop-pattern-test.true
    ∙ ap (λ (p : Vec ℕ). p.items) (sym c.pattern-item.is) in
    let below = c.requires.short i []
    (omega (arith, c.loop-pattern-test.true, length-map patterns (λ (p : Vec ℕ). p.items))) in
    omega (arith, below, ap (λ (l : List ℕ). length l) read, pattern.ok.0, c.len.ensures)
