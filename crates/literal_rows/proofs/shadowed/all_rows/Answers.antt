use Rattle.std.proofs.Common.{◌≡◌, ◌∙◌, IfErr, IfOk, List, arith, length, map, subst, ℕ}
use Rattle.std.proofs.lemmas.List.{length-map}
use Rattle.std.proofs.lemmas.List.FromFn.{get_or-range_with_len, length-range_with_len}
use Rattle.std.specs.Global.{Vec}
use Rattle.std.specs.List.{range_with_len}
use Rattle.literal_rows.specs.Inside.Classes.{symbols_in}
use Rattle.literal_rows.specs.Inside.Shadowed.{AreRowsFor, chosen_by, texts_by}
use Rattle.literal_rows.specs.Patterns.{reversed}
use Rattle.literal_rows.specs.States.{HasTooManyStates}
use Rattle.literal_rows.specs.declared.grow.GrowError.TheVariants.{TooManyStates}
use Rattle.literal_rows.proofs.lemmas.Shadowed.{all_chosen}
use Rattle.literal_rows.proofs.shadowed.all_rows.Goals as goal

-- the texts with all numbers
texts_are : (classes : List ℕ) (patterns : List (Vec ℕ)) (lent numbers : List ℕ) → lent ≡ numbers
    → numbers ≡ range_with_len 0 (length patterns)
    → chosen_by (texts_by classes patterns) lent ≡ texts_by classes patterns
texts_are classes patterns lent numbers same are =
    let items = λ (pattern : Vec ℕ). pattern.items in
    let count = length-map (map items patterns) (symbols_in classes) ∙ length-map patterns items in
    grind (arith, all_chosen)

pub chosen_rows-requires-clause-few : goal.chosen_rows-requires-clause-few
chosen_rows-requires-clause-few c = grind (arith, length-range_with_len)

pub chosen_rows-requires-clause-numbers : goal.chosen_rows-requires-clause-numbers
chosen_rows-requires-clause-numbers c = λ i below. grind (arith, get_or-range_with_len, length-range_with_len)

pub returns-clause-rows : goal.returns-clause-rows
returns-clause-rows c =
    let classes = c.args.classes.now in
    subst (λ (t : List (List ℕ)). IfOk c.chosen_rows.result
    (λ (rows : Vec ℕ). AreRowsFor (reversed t) classes.width rows.items))
    (texts_are classes.table c.args.patterns.now c.deref.result.now c.in_ok-all.all.items c.deref.ensures.value
    c.in_ok-all.ensures) c.chosen_rows.ensures.rows

pub returns-clause-few : goal.returns-clause-few
returns-clause-few c =
    let classes = c.args.classes.now in
    subst (λ (t : List (List ℕ)). IfOk c.chosen_rows.result (λ _. HasTooManyStates (reversed t) classes.width → ⊥))
    (texts_are classes.table c.args.patterns.now c.deref.result.now c.in_ok-all.all.items c.deref.ensures.value
    c.in_ok-all.ensures) c.chosen_rows.ensures.few

pub returns-clause-too_many : goal.returns-clause-too_many
returns-clause-too_many c =
    let classes = c.args.classes.now in
    subst (λ (t : List (List ℕ)). IfErr c.chosen_rows.result (λ error. error ≡ TooManyStates
    → HasTooManyStates (reversed t) classes.width))
    (texts_are classes.table c.args.patterns.now c.deref.result.now c.in_ok-all.all.items c.deref.ensures.value
    c.in_ok-all.ensures) c.chosen_rows.ensures.too_many
