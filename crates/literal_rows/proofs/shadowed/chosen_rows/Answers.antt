use Rattle.std.proofs.Common.{◌≡◌, ◌∙◌, Err, IfErr, IfOk, List, Ok, Result, ap, length, map, subst, ℕ}
use Rattle.std.specs.Global.{Vec}
use Rattle.literal_base.specs.Occurs.{pattern_at}
use Rattle.literal_rows.specs.Inside.Classes.{symbols_in}
use Rattle.literal_rows.specs.Inside.Shadowed.{AreRowsFor, chosen_by, texts_by}
use Rattle.literal_rows.specs.Patterns.{reversed}
use Rattle.literal_rows.specs.States.{HasTooManyStates, IsRowsLength}
use Rattle.literal_rows.specs.Table.{Recognises}
use Rattle.literal_rows.specs.declared.grow.GrowError.{GrowError}
use Rattle.literal_rows.specs.declared.grow.GrowError.TheVariants.{TooManyStates}
use Rattle.literal_rows.proofs.lemmas.Built.{same_texts}
use Rattle.literal_rows.proofs.lemmas.Reversed.{map_reversed}
use Rattle.literal_rows.proofs.lemmas.Shadowed.{texts_chosen}
use Rattle.literal_rows.proofs.shadowed.chosen_rows.Goals as goal

-- the texts of reversed copies of the patterns with some numbers
texts_are : (classes : List ℕ) (lent copies patterns : List (Vec ℕ)) (numbers : List ℕ) → lent ≡ copies
    → map (λ (pattern : Vec ℕ). pattern.items) copies
    ≡ reversed (map (pattern_at (map (λ (pattern : Vec ℕ). pattern.items) patterns)) numbers)
    → map (λ (pattern : Vec ℕ). symbols_in classes pattern.items) lent
    ≡ reversed (chosen_by (texts_by classes patterns) numbers)
texts_are classes lent copies patterns numbers same are =
    let bytes = map (λ (pattern : Vec ℕ). pattern.items) patterns in
    same_texts classes lent copies same
    ∙ (ap (map (symbols_in classes)) are
    ∙ (map_reversed classes (map (pattern_at bytes) numbers) ∙ ap reversed (texts_chosen classes bytes numbers)))

rows_for : (words : List (List ℕ)) (width : ℕ) (result : Result (Vec ℕ) GrowError)
    → IfOk result (λ (rows : Vec ℕ). Recognises words width rows.items)
    → IfOk result (λ (rows : Vec ℕ). IsRowsLength words width (length rows.items))
    → IfOk result (λ (rows : Vec ℕ). AreRowsFor words width rows.items)
rows_for words width (Ok rows) recognises states = record { recognises = recognises; states = states }
rows_for words width (Err error) recognises states = tt

pub returns-clause-rows : goal.returns-clause-rows
returns-clause-rows c =
    let classes = c.args.classes.now in
    subst (λ (t : List (List ℕ)). IfOk c.grow.result (λ (rows : Vec ℕ). AreRowsFor t classes.width rows.items))
    (texts_are classes.table c.deref.result.now c.in_ok-copies.copies.items c.args.patterns.now c.args.numbers.now
    c.deref.ensures.value c.in_ok-copies.ensures)
    (rows_for _ classes.width c.grow.result c.grow.ensures.recognises c.grow.ensures.states)

pub returns-clause-few : goal.returns-clause-few
returns-clause-few c =
    let classes = c.args.classes.now in
    subst (λ (t : List (List ℕ)). IfOk c.grow.result (λ _. HasTooManyStates t classes.width → ⊥))
    (texts_are classes.table c.deref.result.now c.in_ok-copies.copies.items c.args.patterns.now c.args.numbers.now
    c.deref.ensures.value c.in_ok-copies.ensures) c.grow.ensures.few

pub returns-clause-too_many : goal.returns-clause-too_many
returns-clause-too_many c =
    let classes = c.args.classes.now in
    subst (λ (t : List (List ℕ)). IfErr c.grow.result (λ error. error ≡ TooManyStates
    → HasTooManyStates t classes.width))
    (texts_are classes.table c.deref.result.now c.in_ok-copies.copies.items c.args.patterns.now c.args.numbers.now
    c.deref.ensures.value c.in_ok-copies.ensures) c.grow.ensures.too_many
