-- The longest suffix of a text that is a prefix of a pattern, as the text grows.
use Rattle.std.proofs.Common.{arith, ◌≡◌, ℕ, ◌<◌, Bool, true, false, List, [], ◌∷◌, ◌++◌, length, drop, inl, inr, ◌⊎◌}
use Rattle.std.proofs.Common.{nat_eq, append_assoc, refl, sym, ap, ◌∙◌}
use Rattle.std.proofs.lemmas.Bool.{cond-false, cond-true, false_from_ne_true, false≢true}
use Rattle.std.proofs.lemmas.Bool.Decides.{Decides-eqb}
use Rattle.std.proofs.lemmas.List.{get_or_default}
use Rattle.std.proofs.lemmas.List.Folds.{Any-from_list_any, list_any_at}
use Rattle.std.proofs.lemmas.Slice.Eq.{starts_is}
use Rattle.std.specs.List.{starts_with}
use Rattle.literal_base.specs.Occurs.{pattern_at}
use Rattle.literal_rows.specs.Words.{begins_one, live_suffix}

-- a pattern that begins with a text begins with its prefixes
begins_shorter : (pattern text more : List ℕ) → starts_with nat_eq pattern (text ++ more) ≡ true
    → starts_with nat_eq pattern text ≡ true
begins_shorter pattern text more is =
    (starts_is Decides-eqb pattern text _ refl).1 (more ++ drop (length (text ++ more)) pattern)
    (grind (arith, starts_is, append_assoc))

-- of two prefixes of one list one is a prefix of the other
prefixes : (a b more rest : List ℕ) → a ++ more ≡ b ++ rest
    → ((r : List ℕ) × (a ≡ b ++ r)) ⊎ ((r : List ℕ) × (b ≡ a ++ r))
prefixes [] b more rest same = inr (b, refl)
prefixes (x ∷ a) [] more rest same = inl (x ∷ a, refl)
prefixes (x ∷ a) (y ∷ b) more rest same = grind (arith, prefixes a b more rest (cc))

-- what is a prefix of a longer text is one of the text, or begins with it
pub stands_or_begins : (text more pattern : List ℕ) → starts_with nat_eq (text ++ more) pattern ≡ true
    → (starts_with nat_eq text pattern ≡ true) ⊎ (starts_with nat_eq pattern text ≡ true)
stands_or_begins text more pattern is =
    elim (prefixes text pattern more _ ((starts_is Decides-eqb (text ++ more) pattern _ refl).0 is)) [
      | inl one ↦ inl ((starts_is Decides-eqb text pattern _ refl).1 one.0 one.1)
      | inr one ↦ inr ((starts_is Decides-eqb pattern text _ refl).1 one.0 one.1)
    ]

-- the number of a pattern that begins with a text
pub one_begins : (patterns : List (List ℕ)) (text : List ℕ) → begins_one patterns text ≡ true
    → (i : ℕ) × (i < length patterns) × (starts_with nat_eq (pattern_at patterns i) text ≡ true)
one_begins patterns text is = grind (arith, Any-from_list_any, get_or_default)

-- where a pattern begins with a text, one begins with its prefixes
pub begins_prefix : (patterns : List (List ℕ)) (text more : List ℕ) → begins_one patterns (text ++ more) ≡ true
    → begins_one patterns text ≡ true
begins_prefix patterns text more is = grind (arith, one_begins, list_any_at, begins_shorter)

-- more of a text: the live suffix depends on the live suffix of the text before it alone
pub live_push : (patterns : List (List ℕ)) (text more : List ℕ)
    → live_suffix patterns (live_suffix patterns text ++ more) ≡ live_suffix patterns (text ++ more)
live_push patterns [] more = refl
live_push patterns (symbol ∷ text) more =
    by_begun (begins_one patterns (symbol ∷ text)) refl (live_push patterns text more)
  where
    by_begun : (b : Bool) → begins_one patterns (symbol ∷ text) ≡ b
        → live_suffix patterns (live_suffix patterns text ++ more) ≡ live_suffix patterns (text ++ more)
        → live_suffix patterns (live_suffix patterns (symbol ∷ text) ++ more)
        ≡ live_suffix patterns ((symbol ∷ text) ++ more)
    by_begun true begun further = ap (λ l. live_suffix patterns (l ++ more)) (cond-true _ _ _ begun)
    by_begun false unbegun further =
        let longer : begins_one patterns (symbol ∷ (text ++ more)) ≡ false =
        false_from_ne_true _ (λ yes. false≢true (sym unbegun ∙ begins_prefix patterns (symbol ∷ text) more yes)) in
        grind (arith, cond-false)
