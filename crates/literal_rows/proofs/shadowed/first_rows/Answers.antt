use Rattle.std.proofs.Common.{arith}
use Rattle.std.proofs.Common.{◌≡◌, ◌∙◌, Err, IfErr, List, Ok, Result, ap, subst, ℕ}
use Rattle.std.specs.Global.{Vec}
use Rattle.literal_base.specs.declared.packed.MatchKind.TheVariants.{LeftmostFirst}
use Rattle.literal_rows.specs.Inside.Prefixes.{AreFirstPrefixes}
use Rattle.literal_rows.specs.Inside.Shadowed.{chosen_by, texts_by}
use Rattle.literal_rows.specs.Patterns.{reversed, unshadowed}
use Rattle.literal_rows.specs.States.{HasTooManyStates}
use Rattle.literal_rows.specs.declared.grow.GrowError.{GrowError}
use Rattle.literal_rows.specs.declared.grow.GrowError.TheVariants.{TooManyStates}
use Rattle.literal_rows.proofs.lemmas.Shadowed.{chosen_unshadowed, few_unshadowed}
use Rattle.literal_rows.proofs.shadowed.first_rows.Goals as goal

texts_are : (texts : List (List ℕ)) (lent firsts : List ℕ) → lent ≡ firsts → AreFirstPrefixes texts firsts
    → chosen_by texts lent ≡ unshadowed LeftmostFirst texts
texts_are texts lent firsts same are = ap (chosen_by texts) same ∙ chosen_unshadowed texts firsts are

too_many_by : (words : List (List ℕ)) (width : ℕ) (result : Result (Vec ℕ) GrowError)
    → IfErr result (λ error. error ≡ TooManyStates
    → HasTooManyStates (reversed (unshadowed LeftmostFirst words)) width)
    → IfErr result (λ error. error ≡ TooManyStates → HasTooManyStates (reversed words) width)
too_many_by words width (Ok rows) refused = tt
too_many_by words width (Err error) refused = λ is. few_unshadowed words width (refused is)

pub returns-clause-rows : goal.returns-clause-rows
returns-clause-rows c = grind (arith, texts_are)

pub returns-clause-too_many : goal.returns-clause-too_many
returns-clause-too_many c =
    let classes = c.args.classes.now in
    let texts = texts_by classes.table c.args.patterns.now in
    too_many_by texts classes.width c.chosen_rows.result
    (subst (λ (t : List (List ℕ)). IfErr c.chosen_rows.result (λ error. error ≡ TooManyStates
    → HasTooManyStates (reversed t) classes.width))
    (texts_are texts c.deref.result.now c.in_ok-firsts.firsts.items c.deref.ensures.value c.in_ok-firsts.ensures)
    c.chosen_rows.ensures.too_many)
