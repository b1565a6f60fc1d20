use Rattle.std.proofs.Common.{ap, sym, ℕ, ◌++◌, ◌∷◌, [], List, ◌∙◌, ◌+◌, arith}
use Rattle.std.proofs.lemmas.List.{map-id}
use Rattle.std.proofs.lemmas.List.FromFn.{map-range_with_len_more}
use Rattle.std.specs.List.{range_with_len}
use Rattle.literal_rows.proofs.grow.numbers.Goals as goal

pub loop-number-preserved : goal.loop-number-preserved
loop-number-preserved c =
    let n = c.loop-number.number in
    let more = map-range_with_len_more (λ (i : ℕ). i) 0 n n (omega arith) in
    c.in_ok-push.ensures.items
    ∙ (ap (λ (l : List ℕ). l ++ n ∷ []) (c.loop-number.invariant ∙ sym (map-id (range_with_len 0 n)))
    ∙ (sym more ∙ map-id (range_with_len 0 (n + 1))))
