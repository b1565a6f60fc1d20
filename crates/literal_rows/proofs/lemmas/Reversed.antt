-- Reversed texts: a prefix of one becomes a suffix.
use Rattle.std.proofs.lemmas.Grind.{common_steps}
use Rattle.std.proofs.Common.{◌≡◌, ℕ, ◌<◌, List, [], ◌∷◌, ◌++◌, length, get_or, drop, map}
use Rattle.std.proofs.Common.{nat_eq, reverse, sum_by, refl, sym, ap, ◌∙◌, arith, true}
use Rattle.std.proofs.lemmas.Bool.{cases_lt}
use Rattle.std.proofs.lemmas.Bool.Decides.{Decides-eqb}
use Rattle.std.proofs.lemmas.List.{get_or-map, get_or_past, length-map, length-reverse, map-append, reverse-append}
use Rattle.std.proofs.lemmas.List.{reverse-reverse}
use Rattle.std.proofs.lemmas.List.Sums.{sum_by-cons}
use Rattle.std.proofs.lemmas.Slice.Eq.{starts_is}
use Rattle.std.specs.List.{starts_with}
use Rattle.literal_base.specs.Occurs.{NoneIsEmpty, pattern_at}
use Rattle.literal_rows.specs.Inside.Classes.{symbols_in}
use Rattle.literal_rows.specs.Inside.Suffixes.{IsSuffix}
use Rattle.literal_rows.specs.Patterns.{reversed}

-- the text of a reversed pattern is that of the pattern, reversed
pub reverse_map : (f : ℕ → ℕ) (xs : List ℕ) → map f (reverse xs) ≡ reverse (map f xs)
reverse_map f [] = refl
reverse_map f (x ∷ xs) = grind (arith, common_steps, map-append, reverse-append, reverse_map f xs)

-- a reversed text, of which there are as many
pub back_at : (texts : List (List ℕ)) (i : ℕ) → pattern_at (reversed texts) i ≡ reverse (pattern_at texts i)
back_at texts i = grind (arith, cases_lt, get_or-map, get_or_past, length-map)

pub back_count : (texts : List (List ℕ)) → length (reversed texts) ≡ length texts
back_count texts = length-map texts (λ (text : List ℕ). reverse text)

pub back_long : (texts : List (List ℕ)) (i : ℕ)
    → length (pattern_at (reversed texts) i) ≡ length (pattern_at texts i)
back_long texts i = ap (λ (l : List ℕ). length l) (back_at texts i) ∙ length-reverse (pattern_at texts i)

pub some_back : (texts : List (List ℕ)) → NoneIsEmpty texts → NoneIsEmpty (reversed texts)
some_back texts some i d below =
    let inside : i < length texts = omega (arith, back_count texts) in
    let long = some i [] inside in
    let read = get_or-map (λ (text : List ℕ). reverse text) texts i [] d inside in
    omega (arith, long, ap (λ (l : List ℕ). length l) read, length-reverse (get_or texts i []))

-- the texts of reversed patterns are as long as these together
pub back_total : (classes : List ℕ) (patterns : List (List ℕ))
    → sum_by length (reversed (map (symbols_in classes) patterns)) ≡ sum_by length patterns
back_total classes [] = refl
back_total classes (bytes ∷ more) =
    grind (arith, common_steps, length-map, length-reverse, sum_by-cons, back_total classes more)

-- the texts of reversed patterns
pub map_reversed : (classes : List ℕ) (patterns : List (List ℕ))
    → map (symbols_in classes) (reversed patterns) ≡ reversed (map (symbols_in classes) patterns)
map_reversed classes [] = refl
map_reversed classes (bytes ∷ more) = grind (arith, reverse_map, map_reversed classes more)

-- what is a prefix of a text is, reversed, a suffix of the reversed text
module _ (texts : List (List ℕ)) (text : List ℕ) (i : ℕ) where
  pub prefix_is_end : i < length texts → starts_with nat_eq text (pattern_at texts i) ≡ true
      → IsSuffix (reversed texts) (reverse text) i
  prefix_is_end below stands =
      let word = pattern_at texts i in
      let rest = drop (length word) text in
      let split = (starts_is Decides-eqb text word _ refl).0 stands in
      grind (arith, back_at, back_count, reverse-append)

  pub end_is_prefix : IsSuffix (reversed texts) (reverse text) i → starts_with nat_eq text (pattern_at texts i) ≡ true
  end_is_prefix is =
      let word = pattern_at texts i in
      let prefix = is.ends.prefix in
      let split : text ≡ word ++ reverse prefix =
      sym (reverse-reverse text)
      ∙ (ap (λ (l : List ℕ). reverse l) (is.ends.split ∙ ap (λ l. prefix ++ l) (back_at texts i))
      ∙ (reverse-append prefix (reverse word) ∙ ap (λ l. l ++ reverse prefix) (reverse-reverse word))) in
      (starts_is Decides-eqb text word _ refl).1 (reverse prefix) split
