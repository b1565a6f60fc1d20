-- Which pattern replaces another, and that a search by these finds the best.
use Rattle.std.proofs.Common.{◌≡◌, ◌⊎◌, ℕ, ◌<◌, ◌≤◌, ◌∙◌, List, [], ◌∷◌, Bool, true, false, Some, inl, inr, ap, arith}
use Rattle.std.proofs.Common.{cond, get_or, length, map, nat_eq, refl, reverse, subst, suc, sym, zero}
use Rattle.std.proofs.lemmas.Bool.{cases_lt, false≢true}
use Rattle.std.proofs.lemmas.List.{ext_get_or, get_or-map, get_or_default, length-map}
use Rattle.std.proofs.lemmas.List.Elements.{All-weaker}
use Rattle.std.proofs.lemmas.List.Folds.{Any-from_list_any, list_any_at}
use Rattle.std.proofs.lemmas.List.FromFn.{get_or-range_with_len, length-range_with_len}
use Rattle.std.specs.List.{find, range_with_len, starts_with}
use Rattle.literal_base.specs.Leftmost.{IsBetter}
use Rattle.literal_base.specs.Occurs.{NoneIsEmpty, pattern_at}
use Rattle.literal_base.specs.declared.packed.MatchKind.{MatchKind}
use Rattle.literal_base.specs.declared.packed.MatchKind.TheVariants.{LeftmostFirst, LeftmostLongest}
use Rattle.literal_rows.specs.Inside.Classes.{symbols_in}
use Rattle.literal_rows.specs.Inside.Prefixes.{AreFirstPrefixes}
use Rattle.literal_rows.specs.Inside.Shadowed.{IsFirstOf, chosen_by}
use Rattle.literal_rows.specs.Inside.Suffixes.{HasSuffix, IsFirstSuffix, IsSuffix}
use Rattle.literal_rows.specs.Patterns.{first_prefix, reversed, unshadowed}
use Rattle.literal_rows.specs.States.{HasTooManyStates}
use Rattle.literal_rows.specs.Words.{begins_one}
use Rattle.literal_rows.proofs.lemmas.FirstSuffix.{end_of_itself, ends_on, ends_within}
use Rattle.literal_rows.proofs.lemmas.Reversed.{back_at, back_count, end_is_prefix, prefix_is_end}

-- the first of some texts that passes a test, up to one
pub record FindsFirst (test : List ℕ → Bool) (texts : List (List ℕ)) (upto : ℕ) : Type 0 where
  pub first : ℕ
  pub early : first ≤ upto
  pub passes : test (pattern_at texts first) ≡ true
  pub before : (j : ℕ) → j < first → test (pattern_at texts j) ≡ false
  pub found : find test texts ≡ Some (pattern_at texts first)

-- where one passes, it is found
found_in_front : (test : List ℕ → Bool) (text : List ℕ) (more : List (List ℕ)) (upto : ℕ) → test text ≡ true
    → FindsFirst test (text ∷ more) upto
found_in_front test text more upto passes = grind arith

found_behind : (test : List ℕ → Bool) (text : List ℕ) (more : List (List ℕ)) (upto : ℕ) → FindsFirst test more upto
    → (passes : Bool) → test text ≡ passes → FindsFirst test (text ∷ more) (suc upto)
found_behind test text more upto behind true passes = found_in_front test text more (suc upto) passes
found_behind test text more upto behind false fails = record {
  first = suc behind.first;
  early = omega (arith, behind.early);
  passes = behind.passes;
  before = before;
  found = ap (λ b. cond b (Some text) (find test more)) fails ∙ behind.found;
}
  where
    before : (j : ℕ) → j < suc behind.first → test (pattern_at (text ∷ more) j) ≡ false
    before zero first = fails
    before (suc j) later = behind.before j (omega (arith, later))

found_first : (test : List ℕ → Bool) (texts : List (List ℕ)) (k : ℕ) → k < length texts
    → test (pattern_at texts k) ≡ true → FindsFirst test texts k
found_first test [] k below passes = absurd (omega (arith, below))
found_first test (text ∷ more) zero below passes = found_in_front test text more 0 passes
found_first test (text ∷ more) (suc k) below passes =
    found_behind test text more k (found_first test more k (omega (arith, below)) passes) (test text) refl

-- it is no later than any other that passes
pub no_later : (test : List ℕ → Bool) (texts : List (List ℕ)) (upto j : ℕ) (finds : FindsFirst test texts upto)
    → test (pattern_at texts j) ≡ true → finds.first ≤ j
no_later test texts upto j finds passes = elim (cases_lt j finds.first) [
  | inl before ↦ absurd (false≢true (sym (finds.before j before) ∙ passes))
  | inr not ↦ omega (arith, not)
]

module _ (words : List (List ℕ)) (i : ℕ) (below : i < length words) where
  -- the first of the prefixes of a text replaces it
  pub first_found : FindsFirst (starts_with nat_eq (pattern_at words i)) words i
  first_found = grind (arith, back_at, back_count, end_is_prefix, end_of_itself, found_first)

  pub found_is : pattern_at (map (first_prefix words) words) i ≡ pattern_at words first_found.first
  found_is = grind (arith, first_found, get_or-map)

  -- reversed it is the first of the suffixes
  pub first_is : (n : ℕ) × IsFirstOf (reversed words) (pattern_at (reversed words) i) n
      × (n < length words) × (pattern_at (map (first_prefix words) words) i ≡ pattern_at words n)
  first_is = grind (arith, back_at, end_is_prefix, first_found, found_is, no_later, prefix_is_end)

-- what replaces some texts, none of which is empty, is not empty
pub some_unshadowed : (kind : MatchKind) (words : List (List ℕ)) → NoneIsEmpty words
    → NoneIsEmpty (unshadowed kind words)
some_unshadowed LeftmostLongest words some i d below = some i d below
some_unshadowed LeftmostFirst words some i d below =
    let inside : i < length words = omega (arith, below, length-map words (first_prefix words)) in
    let first = first_is words i inside in
    let long = some first.0 [] first.2 in
    grind (arith, get_or-map)

-- in reversed texts each of which was replaced by the first of its suffixes
module _ (patterns others : List (List ℕ)) (count : length others ≡ length patterns)
    (first : (i : ℕ) → i < length patterns → (n : ℕ) × IsFirstOf patterns (pattern_at patterns i) n
    × (pattern_at others i ≡ pattern_at patterns n)) (text : List ℕ)
  where
    -- the text that replaces a suffix of a text is a suffix of it, too
    pub replaced_ends : (i : ℕ) → IsSuffix patterns text i → IsSuffix others text i
    replaced_ends i is =
        let one = first i is.is_pattern in
        grind (arith, ends_on)

    -- and the longest of these is the first of the suffixes
    pub longest_is_first : (i : ℕ) → IsFirstSuffix others text i → IsFirstOf patterns text i
    longest_is_first i longest = record { is = ends; least = least }
      where
        inside : i < length patterns
        inside = omega (arith, longest.is.is_pattern, count)

        one : (n : ℕ) × IsFirstOf patterns (pattern_at patterns i) n
            × (pattern_at others i ≡ pattern_at patterns n)
        one = first i inside

        earlier : one.0 ≤ i
        earlier = one.1.least i (end_of_itself patterns i inside)

        -- the first of its suffixes is the first of its own
        own : pattern_at others one.0 ≡ pattern_at patterns one.0
        own =
            let other = first one.0 one.1.is.is_pattern in
            let within : IsSuffix patterns (pattern_at patterns i) other.0 = grind (arith, ends_on, one) in
            let same : other.0 ≡ one.0 = grind (arith, end_of_itself) in
            other.2 ∙ ap (pattern_at patterns) same

        it_ends : IsSuffix others text one.0
        it_ends = grind (arith, one, own)

        is_itself : i ≡ one.0
        is_itself = grind (arith, earlier, it_ends, one, own)

        same_text : pattern_at others i ≡ pattern_at patterns i
        same_text = one.2 ∙ ap (pattern_at patterns) (sym is_itself)

        ends : IsSuffix patterns text i
        ends = record { is_pattern = inside; ends = subst (HasSuffix text) same_text longest.is.ends }

        least : (j : ℕ) → IsSuffix patterns text j → i ≤ j
        least j is =
            let other = first j is.is_pattern in
            let before = other.1.least j (end_of_itself patterns j is.is_pattern) in
            let end = replaced_ends j is in
            elim (longest.others j end) [
              | inl same ↦ omega (arith, same)
              | inr later ↦ elim later [
                | inl shorter ↦
                    let within = ends_within text (pattern_at others j) (pattern_at others i) end.ends
                    longest.is.ends (omega (arith, shorter)) in
                    let is_end : IsSuffix patterns (pattern_at patterns i) other.0 = grind (arith, ends, same_text) in
                    omega (arith, before, is_itself, one.1.least other.0 is_end)
                | inr as_long ↦ omega (arith, as_long.1)
              ]
            ]

-- reversed texts, and what replaces them
back_first : (words : List (List ℕ)) (i : ℕ) → i < length (reversed words)
    → (n : ℕ) × IsFirstOf (reversed words) (pattern_at (reversed words) i) n
    × (pattern_at (reversed (map (first_prefix words) words)) i ≡ pattern_at (reversed words) n)
back_first words i below =
    let one = first_is words i (omega (arith, below, back_count words)) in (
      one.0,
      one.1,
      back_at (map (first_prefix words) words) i ∙ (ap (λ (l : List ℕ). reverse l) one.3
          ∙ sym (back_at words one.0)),
    )

back_known : (words : List (List ℕ)) → length (reversed (map (first_prefix words) words)) ≡ length (reversed words)
back_known words = grind (arith, back_count, length-map)

-- the automaton of these has no more states
pub few_unshadowed : (words : List (List ℕ)) (width : ℕ)
    → HasTooManyStates (reversed (unshadowed LeftmostFirst words)) width → HasTooManyStates (reversed words) width
few_unshadowed words width many =
    let begins = λ (text pattern : List ℕ). starts_with nat_eq pattern text in (
      many.0,
      record {
        apart = many.1.apart;
        begun = All-weaker (λ text. (text ≡ []) ⊎ (begins_one (reversed (map (first_prefix words) words)) text ≡ true))
            (λ text. (text ≡ []) ⊎ (begins_one (reversed words) text ≡ true))
            (λ text is. elim is [
              | inl none ↦ inl none
              | inr begun ↦
                  let one = Any-from_list_any (begins text) (reversed (map (first_prefix words) words)) begun in
                  let first = back_first words one.0 (omega (arith, one.2, back_known words)) in
                  inr (list_any_at (begins text) (reversed words) first.0 [] first.1.is.is_pattern
                  (subst (λ (pattern : List ℕ). begins text pattern ≡ true)
                  (sym one.3 ∙ (get_or_default (reversed (map (first_prefix words) words)) one.0 one.1 [] one.2
                  ∙ first.2)) one.4))
            ])
            many.0
            many.1.begun;
      },
      many.2,
    )

-- the texts with the numbers of the first prefixes are those that replace the texts
pub chosen_unshadowed : (words : List (List ℕ)) (firsts : List ℕ) → AreFirstPrefixes words firsts
    → chosen_by words firsts ≡ unshadowed LeftmostFirst words
chosen_unshadowed words firsts are =
    let count = length-map firsts (pattern_at words) in
    ext_get_or [] (chosen_by words firsts) (map (first_prefix words) words)
    (count ∙ (are.long ∙ sym (length-map words (first_prefix words))))
    (λ i below.
    let inside : i < length words = omega (arith, below, count, are.long) in
    let text = pattern_at words i in
    let found = first_found words i inside in
    let first = are.each i inside in
    let same : get_or firsts i 0 ≡ found.first = grind (arith, inside, no_later) in
    get_or-map (pattern_at words) firsts i 0 [] (omega (arith, below, count))
    ∙ (ap (pattern_at words) same ∙ sym (found_is words i inside)))

-- the texts with all numbers are the texts
pub all_chosen : (words : List (List ℕ)) → chosen_by words (range_with_len 0 (length words)) ≡ words
all_chosen words =
    let count = length-map (range_with_len 0 (length words)) (pattern_at words) in
    let many = length-range_with_len 0 (length words) in
    ext_get_or [] (chosen_by words (range_with_len 0 (length words))) words (count ∙ many)
    (λ i below.
    let inside : i < length words = omega (arith, below, count, many) in
    let at : get_or (range_with_len 0 (length words)) i 0 ≡ i = grind (arith, get_or-range_with_len, inside) in
    get_or-map (pattern_at words) (range_with_len 0 (length words)) i 0 [] (omega (arith, below, count))
    ∙ ap (pattern_at words) at)

-- the texts of patterns of some numbers
text_chosen : (classes : List ℕ) (patterns : List (List ℕ)) (number : ℕ)
    → symbols_in classes (pattern_at patterns number) ≡ pattern_at (map (symbols_in classes) patterns) number
text_chosen classes [] number = refl
text_chosen classes (pattern ∷ more) zero = refl
text_chosen classes (pattern ∷ more) (suc number) = text_chosen classes more number

pub texts_chosen : (classes : List ℕ) (patterns : List (List ℕ)) (numbers : List ℕ)
    → map (symbols_in classes) (map (pattern_at patterns) numbers)
    ≡ map (pattern_at (map (symbols_in classes) patterns)) numbers
texts_chosen classes patterns [] = refl
texts_chosen classes patterns (number ∷ more) = grind (arith, text_chosen, texts_chosen classes patterns more)

-- where a text ends with a reversed one, it ends with one of those by which a search goes
pub ends_unshadowed : (kind : MatchKind) (words : List (List ℕ)) (text : List ℕ) (i : ℕ)
    → IsSuffix (reversed words) text i → IsSuffix (reversed (unshadowed kind words)) text i
ends_unshadowed LeftmostLongest words text i is = is
ends_unshadowed LeftmostFirst words text i is =
    replaced_ends (reversed words) (reversed (map (first_prefix words) words)) (back_known words) (back_first words)
    text i is

-- the longest of these is the best of all
pub ending_is_best : (kind : MatchKind) (words : List (List ℕ)) (text : List ℕ) (i : ℕ)
    → IsFirstSuffix (reversed (unshadowed kind words)) text i
    → IsSuffix (reversed words) text i
    × ((j : ℕ) → IsSuffix (reversed words) text j → ¬ IsBetter kind (reversed words) j i)
ending_is_best LeftmostFirst words text i longest =
    let first = longest_is_first (reversed words) (reversed (map (first_prefix words) words)) (back_known words)
    (back_first words) text i longest in
    (first.is, λ j is better. omega (arith, first.least j is, better))
ending_is_best LeftmostLongest words text i is = (
  is.is,
  λ j end better. elim (is.others j end) [
    | inl same ↦ elim better [
      | inl longer ↦ omega (arith, longer, ap (λ k. length (pattern_at (reversed words) k)) same)
      | inr earlier ↦ omega (arith, earlier.1, same)
    ]
    | inr later ↦ elim later [
      | inl shorter ↦ elim better [
        | inl longer ↦ omega (arith, shorter, longer)
        | inr earlier ↦ omega (arith, shorter, earlier.0)
      ]
      | inr as_long ↦ elim better [
        | inl longer ↦ omega (arith, as_long.0, longer)
        | inr earlier ↦ omega (arith, as_long.1, earlier.1)
      ]
    ]
  ],
)
