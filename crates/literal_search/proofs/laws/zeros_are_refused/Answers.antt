use Rattle.std.proofs.Common.{arith, ◌≡◌, ◌∙◌, ℕ, List, [], ◌∷◌, drop, get_or, refl, sym, take}
use Rattle.std.proofs.lemmas.List.Elements.{All-drop, All-head, All-take}
use Rattle.std.specs.List.{All}
use Rattle.literal_search.specs.Prepared.{check_of}
use Rattle.literal_rows.proofs.lemmas.Check.{zeros_are_told}
use Rattle.literal_search.proofs.laws.zeros_are_refused.Goals as goal

first_is_zero : (zeros : List ℕ) → All (λ number. number ≡ 0) zeros → get_or zeros 0 0 ≡ 0
first_is_zero [] are = refl
first_is_zero (number ∷ zeros) are = All-head (λ n. n ≡ 0) number zeros are

-- a check of zero is wrong, however many of the zeros it goes over
check_is_wrong : (zeros : List ℕ) (len : ℕ) → All (λ number. number ≡ 0) zeros
    → get_or zeros 0 0 ≡ check_of (take len (drop 1 zeros)) → ⊥
check_is_wrong zeros len are is =
    zeros_are_told (take len (drop 1 zeros))
    (All-take (λ n. n ≡ 0) len (drop 1 zeros) (All-drop (λ n. n ≡ 0) 1 zeros are))
    (sym is ∙ first_is_zero zeros are)

pub returns : goal.returns
returns c = grind (arith, check_is_wrong)
