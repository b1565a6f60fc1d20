-- How many entries a search needs does not depend on the numbers of the classes.
use Rattle.std.proofs.Common.{◌≡◌, ℕ, ◌*◌, ◌<◌, ◌≤◌, ◌⊎◌, Bool, true, List, [], ◌∷◌, ◌++◌, eqb, nat_eq}
use Rattle.std.proofs.Common.{ap, arith, drop, get_or, inl, inr, length, map, refl, subst, suc, sym, ◌∙◌}
use Rattle.std.proofs.lemmas.Bool.{cases_lt, eqb-true}
use Rattle.std.proofs.lemmas.Bool.Decides.{Decides-eqb}
use Rattle.std.proofs.lemmas.List.{get_or-map, get_or_past, length-map}
use Rattle.std.proofs.lemmas.List.Folds.{list_any_at}
use Rattle.std.proofs.lemmas.List.Sums.{fails_before_first, passes_at_first}
use Rattle.std.proofs.lemmas.Simd.{map-map}
use Rattle.std.proofs.lemmas.Slice.Eq.{starts_is}
use Rattle.std.specs.List.{position_or_len, starts_with}
use Rattle.literal_base.specs.Occurs.{pattern_at}
use Rattle.literal_rows.specs.Inside.Classes.{Tells, symbols_in}
use Rattle.literal_search.specs.Prepared.{RefusesToPrepare, TakesPlaces}
use Rattle.literal_base.specs.declared.packed.MatchKind.{MatchKind}
use Rattle.literal_base.specs.declared.packed.MatchKind.TheVariants.{LeftmostFirst, LeftmostLongest}
use Rattle.literal_search.specs.SearchValue.{SearchValue, first_prefix, reversed, unshadowed, width_for}
use Rattle.literal_rows.specs.States.{AreStates, IsRowsLength, IsStateCount}
use Rattle.literal_rows.specs.Table.{stride_of}
use Rattle.literal_rows.specs.Words.{begins_one}
use Rattle.literal_rows.specs.declared.array.ArrayTooShort.{ArrayTooShort}
use Rattle.literal_rows.proofs.lemmas.Reversed.{back_at, back_count, reverse_map}
use Rattle.literal_rows.proofs.lemmas.Shadowed.{first_found, found_is, no_later}
use Rattle.literal_rows.proofs.lemmas.Live.{one_begins}

-- functions that agree on a list
map_same : (f g : ℕ → ℕ) (xs : List ℕ) → ((k : ℕ) → k < length xs → f (get_or xs k 0) ≡ g (get_or xs k 0))
    → map f xs ≡ map g xs
map_same f g [] same = refl
map_same f g (x ∷ xs) same =
    let head : f x ≡ g x = same 0 (omega arith) in
    cc (map_same f g xs (λ k below. same (suc k) (omega arith)))

map_append : (f : ℕ → ℕ) (xs ys : List ℕ) → map f (xs ++ ys) ≡ map f xs ++ map f ys
map_append f [] ys = refl
map_append f (x ∷ xs) ys = ap (λ l. f x ∷ l) (map_append f xs ys)

-- the prefix of a list that two functions lead back to itself
fixed_prefix : (f g : ℕ → ℕ) (xs ys : List ℕ) → map g (map f (xs ++ ys)) ≡ xs ++ ys → map g (map f xs) ≡ xs
fixed_prefix f g [] ys fixed = refl
fixed_prefix f g (x ∷ xs) ys fixed =
    let head : g (f x) ≡ x = cc in
    let tail : map g (map f (xs ++ ys)) ≡ xs ++ ys = cc in
    cc (head, fixed_prefix f g xs ys tail)

-- what begins with a text still does once both are mapped
starts_on : (f : ℕ → ℕ) (text prefix : List ℕ) → starts_with nat_eq text prefix ≡ true
    → starts_with nat_eq (map f text) (map f prefix) ≡ true
starts_on f text prefix is =
    (starts_is Decides-eqb (map f text) (map f prefix) _ refl).1 (map f (drop (length prefix) text))
    (ap (map f) ((starts_is Decides-eqb text prefix _ refl).0 is) ∙ map_append f prefix (drop (length prefix) text))

-- the class, in other classes, of the first byte that has this one
relabel : List ℕ → List ℕ → ℕ → ℕ
relabel one other symbol = get_or other (position_or_len (λ s. eqb s symbol) one) 0

module _ (ignore_case : Bool) (patterns : List (List ℕ)) where
  -- the bytes of patterns have by it their classes in the others
  relabel_at : (one other : List ℕ) → Tells ignore_case one patterns → Tells ignore_case other patterns
      → length one ≡ 256 → length other ≡ 256 → (i k : ℕ) → i < length patterns → k < length (pattern_at patterns i)
      → relabel one other (get_or one (get_or (pattern_at patterns i) k 0) 0)
      ≡ get_or other (get_or (pattern_at patterns i) k 0) 0
  unfolding relabel
  relabel_at one other tells_one tells_other all_one all_other i k below inside =
      let byte = get_or (pattern_at patterns i) k 0 in
      let test = λ (s : ℕ). eqb s (get_or one byte 0) in
      let first = position_or_len test one in
      elim (cases_lt first 256) [
        | inl there ↦
            let same = eqb-true (get_or one first 0) (get_or one byte 0)
            (passes_at_first test one 0 (omega (arith, there, all_one))) in
            (tells_other i k first below inside there).1 ((tells_one i k first below inside there).0 same)
        | inr none ↦ grind (arith, fails_before_first, get_or_past)
      ]

  text_at : (classes : List ℕ) (i : ℕ) → i < length patterns
      → pattern_at (map (symbols_in classes) patterns) i ≡ symbols_in classes (pattern_at patterns i)
  text_at classes i below = get_or-map (symbols_in classes) patterns i [] [] below

  -- so the texts of patterns become those in the others
  texts_at : (one other : List ℕ) → Tells ignore_case one patterns → Tells ignore_case other patterns
      → length one ≡ 256 → length other ≡ 256 → (i : ℕ) → i < length patterns
      → pattern_at (map (symbols_in other) patterns) i
      ≡ map (relabel one other) (pattern_at (map (symbols_in one) patterns) i)
  texts_at one other tells_one tells_other all_one all_other i below =
      grind (arith, text_at, map_same, relabel_at, map-map)

-- texts that two functions lead from one to the other
module _ (texts others : List (List ℕ)) (on back : ℕ → ℕ) (count : length others ≡ length texts)
    (go : (i : ℕ) → i < length texts → pattern_at others i ≡ map on (pattern_at texts i))
    (come : (i : ℕ) → i < length texts → pattern_at texts i ≡ map back (pattern_at others i))
  where
    -- each text comes back
    fixed_text : (i : ℕ) → i < length texts → map back (map on (pattern_at texts i)) ≡ pattern_at texts i
    fixed_text i below = ap (map back) (sym (go i below)) ∙ sym (come i below)

    -- a text with which a pattern begins comes back
    fixed_begun : (text : List ℕ) → begins_one texts text ≡ true → map back (map on text) ≡ text
    fixed_begun text begun =
        let it = one_begins texts text begun in
        let split = (starts_is Decides-eqb (pattern_at texts it.0) text _ refl).0 it.2 in
        grind (arith, fixed_prefix, fixed_text)

    begun_on : (text : List ℕ) → begins_one texts text ≡ true → begins_one others (map on text) ≡ true
    begun_on text begun = grind (arith, list_any_at, one_begins, starts_on)

    fixed_state : (text : List ℕ) → (text ≡ []) ⊎ (begins_one texts text ≡ true) → map back (map on text) ≡ text
    fixed_state text (inl none) = subst (λ (l : List ℕ). map back (map on l) ≡ l) (sym none) refl
    fixed_state text (inr begun) = fixed_begun text begun

    state_on : (text : List ℕ) → (text ≡ []) ⊎ (begins_one texts text ≡ true)
        → (map on text ≡ []) ⊎ (begins_one others (map on text) ≡ true)
    state_on text (inl none) = inl (ap (map on) none)
    state_on text (inr begun) = inr (begun_on text begun)

    -- so there are as many states in the other classes
    states_on : (states : List (List ℕ)) → AreStates texts states → AreStates others (map (map on) states)
    states_on states are =
        let many = length-map states (λ (text : List ℕ). map on text) in
        record {
          apart = λ i j d before inside same.
              let below : j < length states = omega (arith, inside, many) in
              let first : i < length states = omega (arith, before, below) in
              are.apart i j [] before below
              (sym (fixed_state (get_or states i []) (are.begun i [] first))
              ∙ (ap (map back) (sym (get_or-map (λ (t : List ℕ). map on t) states i [] d first)
              ∙ (same ∙ get_or-map (λ (t : List ℕ). map on t) states j [] d below))
              ∙ fixed_state (get_or states j []) (are.begun j [] below)));
          begun = λ i d inside.
              let below : i < length states = omega (arith, inside, many) in
              subst (λ (t : List ℕ). (t ≡ []) ⊎ (begins_one others t ≡ true))
              (sym (get_or-map (λ (t : List ℕ). map on t) states i [] d below))
              (state_on (get_or states i []) (are.begun i [] below));
        }

    pub no_more : (n m : ℕ) → IsStateCount texts n → IsStateCount others m → n ≤ m
    no_more n m first second =
        let fits = second.most (map (map on) first.texts) (states_on first.texts first.are_states) in
        omega (arith, fits, first.count_is, length-map first.texts (λ (text : List ℕ). map on text))

    -- a prefix of one stays one
    prefix_on : (i j : ℕ) → i < length texts → j < length texts
        → starts_with nat_eq (pattern_at texts i) (pattern_at texts j) ≡ true
        → starts_with nat_eq (pattern_at others i) (pattern_at others j) ≡ true
    prefix_on i j below inside is = grind (arith, starts_on)

    -- so what replaces one is not later
    found_on : (i : ℕ) (below : i < length texts) (inside : i < length others)
        → (first_found others i inside).first ≤ (first_found texts i below).first
    found_on i below inside = grind (arith, first_found, no_later, prefix_on)

-- then it is the same
module _ (texts others : List (List ℕ)) (on back : ℕ → ℕ) (count : length others ≡ length texts)
    (go : (i : ℕ) → i < length texts → pattern_at others i ≡ map on (pattern_at texts i))
    (come : (i : ℕ) → i < length texts → pattern_at texts i ≡ map back (pattern_at others i))
  where
    unshadowed_on : (kind : MatchKind) (i : ℕ) → i < length texts
        → pattern_at (unshadowed kind others) i ≡ map on (pattern_at (unshadowed kind texts) i)
    unshadowed_on LeftmostLongest i below = go i below
    unshadowed_on LeftmostFirst i below =
        let inside : i < length others = omega (arith, below, count) in
        let found = first_found texts i below in
        let same : (first_found others i inside).first ≡ found.first = omega (
          arith,
          found_on texts others on back count go come i below inside,
          found_on others texts back on (sym count) (λ k few. come k (omega (arith, few, count)))
              (λ k few. go k (omega (arith, few, count))) i inside below,
        ) in
        grind (arith, found_is)

    -- also reversed
    back_on : (kind : MatchKind) (i : ℕ) → i < length texts
        → pattern_at (reversed (unshadowed kind others)) i ≡ map on (pattern_at (reversed (unshadowed kind texts)) i)
    back_on kind i below = grind (arith, back_at, reverse_map, unshadowed_on)

-- there are as many as texts
as_many : (kind : MatchKind) (texts : List (List ℕ)) → length (reversed (unshadowed kind texts)) ≡ length texts
as_many LeftmostLongest texts = back_count texts
as_many LeftmostFirst texts = back_count (map (first_prefix texts) texts) ∙ length-map texts (first_prefix texts)

-- the automaton of one list of texts has no more states than that of the other
no_more_back : (kind : MatchKind) (texts others : List (List ℕ)) (on back : ℕ → ℕ) → length others ≡ length texts
    → ((i : ℕ) → i < length texts → pattern_at others i ≡ map on (pattern_at texts i))
    → ((i : ℕ) → i < length texts → pattern_at texts i ≡ map back (pattern_at others i)) → (n m : ℕ)
    → IsStateCount (reversed (unshadowed kind texts)) n → IsStateCount (reversed (unshadowed kind others)) m → n ≤ m
no_more_back kind texts others on back count go come =
    no_more (reversed (unshadowed kind texts)) (reversed (unshadowed kind others)) on back
    (as_many kind others ∙ (count ∙ sym (as_many kind texts)))
    (λ i below. back_on texts others on back count go come kind i (omega (arith, below, as_many kind texts)))
    (λ i below. back_on others texts back on (sym count) (λ k few. come k (omega (arith, few, count)))
    (λ k few. go k (omega (arith, few, count))) kind i (omega (arith, below, count, as_many kind texts)))

-- the number of entries that a search needs follows from its patterns
pub places_once : (search : SearchValue) (n m : ℕ) → TakesPlaces search n → TakesPlaces search m → n ≡ m
unfolding TakesPlaces IsRowsLength
places_once search n m (one, are_one, tells_one, first) (other, are_other, tells_other, second) =
    let patterns = search.query.patterns in
    let kind = search.query.kind in
    let texts = map (symbols_in one) patterns in
    let others = map (symbols_in other) patterns in
    let many = length-map patterns (symbols_in one) in
    let count : length others ≡ length texts = length-map patterns (symbols_in other) ∙ sym many in
    let on = relabel one other in
    let back = relabel other one in
    let go = λ (i : ℕ) (below : i < length texts). texts_at search.ignore_case patterns one other tells_one
    tells_other are_one.each are_other.each i (omega (arith, below, many)) in
    let come = λ (i : ℕ) (below : i < length texts). texts_at search.ignore_case patterns other one tells_other
    tells_one are_other.each are_one.each i (omega (arith, below, many)) in
    let up = no_more_back kind texts others on back count go come first.1.0 second.1.0 first.1.1 second.1.1 in
    let down = no_more_back kind others texts back on (sym count) (λ k few. come k (omega (arith, few, count)))
    (λ k few. go k (omega (arith, few, count))) second.1.0 first.1.0 second.1.1 first.1.1 in
    let same : first.1.0 ≡ second.1.0 = omega (arith, up, down) in
    let rows = ap (λ k. k * stride_of (width_for search.ignore_case patterns)) same in
    omega (arith, first.2, second.2, first.1.2, second.1.2, rows)

-- so no array that is as long is refused
pub long_enough : (search : SearchValue) (n : ℕ) (array : List ℕ) (error : ArrayTooShort) → TakesPlaces search n
    → n ≤ length array → ¬ RefusesToPrepare search array error
long_enough search n array error takes fits refused = grind (arith, places_once)
