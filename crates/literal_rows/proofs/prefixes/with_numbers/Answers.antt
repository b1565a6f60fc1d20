use Rattle.std.proofs.Common.{◌∙◌, ◌++◌, ◌+◌, ◌∷◌, [], ℕ, List, ap, arith, get_or, map, sym, take}
use Rattle.std.proofs.lemmas.List.{map-append, map-id, take_more}
use Rattle.std.proofs.lemmas.List.FromFn.{map-range_with_len_more}
use Rattle.std.specs.Global.{Vec}
use Rattle.std.specs.List.{range_with_len}
use Rattle.literal_rows.specs.Inside.Classes.{symbols_in}
use Rattle.literal_rows.specs.Inside.Prefixes.{numbers_in, symbols_in_order}
use Rattle.literal_rows.specs.Inside.Shadowed.{texts_by}
use Rattle.literal_rows.specs.declared.prefixes.Numbered.{Numbered}
use Rattle.literal_rows.proofs.prefixes.with_numbers.Goals as goal

pub loop-number-preserved : goal.loop-number-preserved
loop-number-preserved c =
    let n = c.loop-number.number in
    let classes = c.args.classes.now in
    let patterns = c.args.patterns.now in
    let symbols = c.in_ok-symbols.symbols in
    let items = λ (pattern : Vec ℕ). pattern.items in
    let pattern = get_or patterns n c.index-patterns-number.result in
    let more = map-range_with_len_more (λ (i : ℕ). i) 0 n n (omega arith) in
    let one : Numbered = record { symbols = symbols; number = n } in
    record {
      words =
          ap symbols_in_order c.in_ok-push.ensures.items
          ∙ (map-append (λ (n : Numbered). n.symbols.items) c.loop-number.all.items (one ∷ [])
          ∙ (ap (λ (l : List (List ℕ)). l ++ symbols.items ∷ []) c.loop-number.invariant.words
          ∙ (ap (λ (l : List ℕ). texts_by classes (take n patterns) ++ l ∷ [])
          (c.in_ok-symbols.ensures
          ∙ ap (symbols_in classes) (c.deref.ensures.value ∙ ap items c.index-patterns-number.is))
          ∙ (sym (map-append (symbols_in classes) (map items (take n patterns)) (pattern.items ∷ []))
          ∙ ap (map (symbols_in classes))
          (sym (map-append items (take n patterns) (pattern ∷ []))
          ∙ ap (map items) (sym (take_more patterns n c.index-patterns-number.result c.loop-number-test.true)))))));
      numbers =
          ap numbers_in c.in_ok-push.ensures.items
          ∙ (map-append (λ (n : Numbered). n.number) c.loop-number.all.items (one ∷ [])
          ∙ (ap (λ (l : List ℕ). l ++ n ∷ []) (c.loop-number.invariant.numbers ∙ sym (map-id (range_with_len 0 n)))
          ∙ (sym more ∙ map-id (range_with_len 0 (n + 1)))));
    }
