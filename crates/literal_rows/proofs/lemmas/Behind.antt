-- The live suffix behind the first symbol of a word, and the pattern that ends with the word.
use Rattle.std.proofs.Common.{◌≡◌, ℕ, ◌<◌, true, false, List, [], ◌∷◌, ◌++◌, length, Option, None, Some, refl, arith}
use Rattle.std.proofs.lemmas.Bool.{and_parts, cond-false, cond-true}
use Rattle.std.proofs.lemmas.List.Folds.{list_any_at}
use Rattle.std.proofs.lemmas.List.Quantifiers.{position-Some}
use Rattle.std.specs.Option.{IfSome, option_or}
use Rattle.literal_rows.specs.Inside.Grown.{failure_of}
use Rattle.literal_rows.specs.Words.{begins_one, ending, first_equal, live_suffix}
use Rattle.literal_rows.proofs.lemmas.Live.{live_push}

module _ (patterns : List (List ℕ)) where
  -- the live suffix where a pattern begins with the text, and where none does
  pub live_begun : (text : List ℕ) → begins_one patterns text ≡ true → live_suffix patterns text ≡ text
  live_begun [] is = refl
  live_begun (symbol ∷ more) is = cond-true _ _ _ is

  pub live_unbegun : (text : List ℕ) → begins_one patterns text ≡ false
      → live_suffix patterns text ≡ failure_of patterns text
  live_unbegun text is = grind (arith, cond-false)

  -- the failure link of a word with one symbol more
  pub failure_push : (word : List ℕ) (symbol : ℕ) → 0 < length word
      → failure_of patterns (word ++ symbol ∷ []) ≡ live_suffix patterns (failure_of patterns word ++ symbol ∷ [])
  failure_push word symbol long = grind (arith, live_push)

  -- no pattern is a text with which none begins
  unbegun_none : (text : List ℕ) → begins_one patterns text ≡ false → first_equal patterns text ≡ None
  unbegun_none text unbegun =
      by_first (first_equal patterns text) refl
    where
      by_first : (o : Option ℕ) → first_equal patterns text ≡ o → o ≡ None
      by_first None is = refl
      by_first (Some i) is =
          let at = position-Some _ patterns i [] is in
          absurd (grind (arith, list_any_at, and_parts))

  -- the pattern that ends with a text ends with its live suffix
  pub ending_by_live : (text : List ℕ) → ending patterns text ≡ ending patterns (live_suffix patterns text)
  ending_by_live [] = refl
  ending_by_live (symbol ∷ more) = grind (arith, unbegun_none, ending_by_live more)

  -- it is the text, or ends with the word of the text's failure link
  pub ending_next : (text : List ℕ) → 0 < length text
      → ending patterns text ≡ option_or (first_equal patterns text) (ending patterns (failure_of patterns text))
  ending_next text long = grind (arith, ending_by_live)

  pub ending_is_pattern : (text : List ℕ) → IfSome (ending patterns text) (λ i. i < length patterns)
  ending_is_pattern [] = tt
  ending_is_pattern (symbol ∷ more) = grind (arith, ending_is_pattern more)
