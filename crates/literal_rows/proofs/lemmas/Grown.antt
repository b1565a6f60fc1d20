-- Words of states, as they grow by a symbol.
use Rattle.std.proofs.Common.{◌≡◌, ℕ, ◌+◌, ◌<◌, ◌≤◌, Bool, true, false, List, [], ◌∷◌, ◌++◌, length, get_or, Option}
use Rattle.std.proofs.Common.{None, Some, suc, ◌-◌, take, drop, map, nat_eq, ◌&&◌, ltb, eqb, cond, if◌then◌else◌}
use Rattle.std.proofs.Common.{eq-eqb, append-nil, append_assoc, refl, sym, ap, ◌∙◌, arith, ◌||◌, not}
use Rattle.std.proofs.lemmas.Bool.{and_from, and_parts, cond-false, cond-true, eqb-true, lt-ltb, ltb-true, ltb-false}
use Rattle.std.proofs.lemmas.Bool.{ne_eqb}
use Rattle.std.proofs.lemmas.Bool.Decides.{Decides-eqb}
use Rattle.std.proofs.lemmas.List.{drop_all, drop_more, get_or-map, get_or_at, length-append, length-map, take_at}
use Rattle.std.proofs.lemmas.List.{get_or_append_left}
use Rattle.std.proofs.lemmas.List.FromFn.{fill_by_all, get_or-range_with_len, length-range_with_len}
use Rattle.std.proofs.lemmas.List.Elements.{filter_passes}
use Rattle.std.proofs.lemmas.Slice.Eq.{starts_is}
use Rattle.std.specs.List.{filter, find, list_any, position, position_or_len, range_with_len, slice_range, starts_with}
use Rattle.std.specs.List.{All, slice_get}
use Rattle.std.specs.Option.{option_or}
use Rattle.literal_base.specs.Occurs.{pattern_at}
use Rattle.literal_rows.specs.Inside.Grown.{goes_on, list_for, symbols_after}
use Rattle.literal_rows.specs.Words.{begins_one, first_equal}
use Rattle.std.proofs.lemmas.Grind.{common_steps}
use Rattle.std.proofs.lemmas.Option.{slice_get-get_or, slice_get_past}
use Rattle.std.proofs.lemmas.List.Folds.{find_at}

pub list_any-map : {X Y : Type 0} (p : Y → Bool) (f : X → Y) (xs : List X)
    → list_any p (map f xs) ≡ list_any (λ x. p (f x)) xs
list_any-map p f [] = refl
list_any-map p f (x ∷ xs) = ap (λ t. p (f x) || t) (list_any-map p f xs)

pub position_or_len-map : {X Y : Type 0} (p : Y → Bool) (f : X → Y) (xs : List X)
    → position_or_len p (map f xs) ≡ position_or_len (λ x. p (f x)) xs
position_or_len-map p f [] = refl
position_or_len-map p f (x ∷ xs) = ap (λ n. cond (not (p (f x))) (1 + n) 0) (position_or_len-map p f xs)

-- a list filtered twice
pub filter_filter : {X : Type 0} (p q r : X → Bool) → ((x : X) → r x ≡ (p x && q x)) → (xs : List X)
    → filter q (filter p xs) ≡ filter r xs
filter_filter p q r both [] = refl
filter_filter {X} p q r both (x ∷ xs) = grind (arith, filter_filter p q r both xs)

-- what is found in a list and where
pub find_filter : {X : Type 0} (p q r : X → Bool) → ((x : X) → (p x && r x) ≡ (p x && q x)) → (xs : List X)
    → find (λ x. p x && r x) xs ≡ find q (filter p xs)
find_filter p q r both [] = refl
find_filter {X} p q r both (x ∷ xs) = grind (arith, find_filter p q r both xs)

-- whether a filter keeps anything
pub any_of_none : {X : Type 0} (p : X → Bool) (xs : List X) → filter p xs ≡ [] → list_any p xs ≡ false
any_of_none p [] none = refl
any_of_none {X} p (x ∷ xs) none = grind (arith, any_of_none p xs)

pub any_of_one : {X : Type 0} (p : X → Bool) (xs : List X) (first : X) (more : List X) → filter p xs ≡ first ∷ more
    → list_any p xs ≡ true
any_of_one p [] first more is = cc
any_of_one {X} p (x ∷ xs) first more is = grind (arith, any_of_one p xs first more)

-- what is found in a list of numbers is where it is found
pub find_range : (p : ℕ → Bool) (n : ℕ) → find p (range_with_len 0 n) ≡ position p (range_with_len 0 n)
find_range p n =
    let xs = range_with_len 0 n in
    find_at p xs ∙ by_place (ltb (position_or_len p xs) (length xs)) refl
  where
    by_place : (t : Bool) → ltb (position_or_len p (range_with_len 0 n)) (length (range_with_len 0 n)) ≡ t
        → slice_get (range_with_len 0 n) (position_or_len p (range_with_len 0 n))
        ≡ cond (ltb (position_or_len p (range_with_len 0 n)) (length (range_with_len 0 n)))
        (Some (position_or_len p (range_with_len 0 n))) None
    by_place true is =
        let xs = range_with_len 0 n in
        let k = position_or_len p xs in
        let inside = ltb-true _ _ is in
        let at : get_or xs k 0 ≡ k = grind (arith, get_or-range_with_len, length-range_with_len) in
        slice_get-get_or xs k 0 inside ∙ (ap Some at ∙ sym (cond-true _ _ _ is))
    by_place false is = grind (arith, cond-false, ltb-false, slice_get_past)

-- where each passes, all are kept
pub filter_all : {X : Type 0} (p : X → Bool) (xs : List X) → ((x : X) → p x ≡ true) → filter p xs ≡ xs
filter_all p [] is = refl
filter_all {X} p (x ∷ xs) is = grind (arith, filter_all p xs is)

-- a part of a list, from its first element on
pub range_more : (xs : List ℕ) (i e d : ℕ) → i < e → e ≤ length xs
    → slice_range xs i e ≡ get_or xs i d ∷ slice_range xs (i + 1) e
range_more xs i e d before inside = grind (arith, drop_more)

-- a list and maybe more behind it
module _ {X : Type 0} (lists longer more : List X) (is : longer ≡ lists ++ more) where
  pub longer_long : length lists ≤ length longer
  longer_long = omega (arith, length-append lists more, ap (λ (l : List X). length l) is)

  pub longer_kept : (k : ℕ) (d : X) → k < length lists → get_or longer k d ≡ get_or lists k d
  longer_kept k d below = ap (λ l. get_or l k d) is ∙ get_or_append_left lists more d k below

pub numbers_more : (n : ℕ) (lists longer : List ℕ) (b : Bool) (x : ℕ) → x < n
    → longer ≡ lists ++ (if b then x ∷ [] else []) → All (λ i. i < n) lists → All (λ i. i < n) longer
numbers_more n lists longer b x below is all = grind (arith, common_steps)

-- two tests of which each is true where the other is
pub same_test : (x y : Bool) → (x ≡ true → y ≡ true) → (y ≡ true → x ≡ true) → x ≡ y
same_test x y f g = grind arith

-- a text begins with a word and a symbol if it begins with the word and goes on with the symbol
starts_longer : (t word : List ℕ) (symbol : ℕ)
    → starts_with nat_eq t (word ++ symbol ∷ []) ≡ (starts_with nat_eq t word && goes_on t (length word) symbol)
starts_longer t word symbol =
    same_test _ _ there back
  where
    there : starts_with nat_eq t (word ++ symbol ∷ []) ≡ true
        → (starts_with nat_eq t word && goes_on t (length word) symbol) ≡ true
    there is =
        let rest = drop (length (word ++ symbol ∷ [])) t in
        let split : t ≡ word ++ symbol ∷ rest =
        (starts_is Decides-eqb t (word ++ symbol ∷ []) _ refl).0 is ∙ append_assoc word (symbol ∷ []) rest in
        let begins = (starts_is Decides-eqb t word _ refl).1 (symbol ∷ rest) split in
        let at = ap (λ l. get_or l (length word) 0) split ∙ get_or_at word symbol rest 0 (length word) refl in
        let long = ap (λ (l : List ℕ). length l) split ∙ length-append word (symbol ∷ rest) in
        let inside : length word < length t = omega (arith, long) in
        and_from _ _ begins (and_from _ _ (lt-ltb (length word) (length t) inside) (eq-eqb _ _ at))

    back : (starts_with nat_eq t word && goes_on t (length word) symbol) ≡ true
        → starts_with nat_eq t (word ++ symbol ∷ []) ≡ true
    back is =
        let parts = and_parts _ _ is in
        let on = and_parts _ _ parts.1 in
        let inside = ltb-true (length word) (length t) on.0 in
        let split : t ≡ word ++ drop (length word) t = (starts_is Decides-eqb t word _ refl).0 parts.0 in
        let at = eqb-true _ _ on.1 in
        let rest = drop (length word + 1) t in
        let more : drop (length word) t ≡ symbol ∷ rest =
        drop_more t (length word) 0 inside ∙ ap (λ s. s ∷ rest) at in
        (starts_is Decides-eqb t (word ++ symbol ∷ []) _ refl).1 rest
        (grind (arith, append_assoc))

-- where a text begins with a word, the word begins with the text if that is no longer
whole_by_length : (t word : List ℕ) (long : ℕ) → length word ≡ long
    → (starts_with nat_eq t word && starts_with nat_eq word t) ≡ (starts_with nat_eq t word && eqb (length t) long)
whole_by_length t word long is_long =
    same_test _ _ there back
  where
    there : (starts_with nat_eq t word && starts_with nat_eq word t) ≡ true
        → (starts_with nat_eq t word && eqb (length t) long) ≡ true
    there is =
        let parts = and_parts _ _ is in
        let one = ap (λ (l : List ℕ). length l) ((starts_is Decides-eqb t word _ refl).0 parts.0)
        ∙ length-append word (drop (length word) t) in
        let other = ap (λ (l : List ℕ). length l) ((starts_is Decides-eqb word t _ refl).0 parts.1)
        ∙ length-append t (drop (length t) word) in
        and_from _ _ parts.0 (eq-eqb _ _ (omega (arith, one, other, is_long)))

    back : (starts_with nat_eq t word && eqb (length t) long) ≡ true
        → (starts_with nat_eq t word && starts_with nat_eq word t) ≡ true
    back is =
        let parts = and_parts _ _ is in
        let same = eqb-true _ _ parts.1 in
        let rest : drop (length word) t ≡ [] = drop_all (length word) t (omega (arith, same, is_long)) in
        let whole : t ≡ word ++ [] =
        (starts_is Decides-eqb t word _ refl).0 parts.0 ∙ ap (λ l. word ++ l) rest in
        and_from _ _ parts.0
        (grind (arith, append-nil))

-- the list for a word and a symbol
pub list_longer : (patterns : List (List ℕ)) (word : List ℕ) (symbol : ℕ)
    → filter (λ i. goes_on (pattern_at patterns i) (length word) symbol) (list_for patterns word)
    ≡ list_for patterns (word ++ symbol ∷ [])
list_longer patterns word symbol = grind (arith, filter_filter, starts_longer)

-- what an element of a part of a list is mapped to
pub mapped_at : (tells : ℕ → ℕ) (xs : List ℕ) (start end index x : ℕ) → start ≤ index → index < end → end ≤ length xs
    → x ≡ get_or xs index x → get_or (map tells (slice_range xs start end)) (index - start) 0 ≡ tells x
mapped_at tells xs start end index x after before inside is =
    let long : index - start < length (slice_range xs start end) = grind (arith, common_steps) in
    get_or-map tells (slice_range xs start end) (index - start) x 0 long
    ∙ ap tells (grind (arith, common_steps))

-- a text goes on with a symbol if that comes next
pub goes_on_after : (text : List ℕ) (at symbol : ℕ) → symbol < 256
    → goes_on text at symbol ≡ eqb (get_or text at 256) symbol
goes_on_after text at symbol small = grind (arith, common_steps)

-- a list of which none passes, by what each element tells
none_passes : (goes : ℕ → Bool) (tells : ℕ → ℕ) (symbol : ℕ) → ((x : ℕ) → goes x ≡ eqb (tells x) symbol)
    → (xs : List ℕ) → ((k : ℕ) → k < length (map tells xs) → get_or (map tells xs) k 0 ≡ symbol → ⊥)
    → filter goes xs ≡ []
none_passes goes tells symbol is [] none = refl
none_passes goes tells symbol is (x ∷ xs) none =
    let more = none_passes goes tells symbol is xs (λ k inside at. none (suc k) (omega arith) at) in
    let here : goes x ≡ false = is x ∙ ne_eqb _ _ (none 0 (omega arith)) in
    cond-false _ _ _ here ∙ more

-- where a symbol comes next in no pattern that begins with a word, no pattern begins with both
pub none_listed : (patterns : List (List ℕ)) (word : List ℕ) (symbol : ℕ) → symbol < 256
    → ((k : ℕ) → k < length (symbols_after patterns word) → get_or (symbols_after patterns word) k 0 ≡ symbol → ⊥)
    → list_for patterns (word ++ symbol ∷ []) ≡ []
none_listed patterns word symbol small none =
    sym (list_longer patterns word symbol)
    ∙ none_passes (λ i. goes_on (pattern_at patterns i) (length word) symbol)
    (λ i. get_or (pattern_at patterns i) (length word) 256) symbol
    (λ i. goes_on_after (pattern_at patterns i) (length word) symbol small) (list_for patterns word) none

module _ (patterns : List (List ℕ)) (word : List ℕ) where
  numbers : List ℕ
  numbers = range_with_len 0 (length patterns)

  by_number : patterns ≡ map (pattern_at patterns) numbers
  unfolding numbers
  by_number = fill_by_all (pattern_at patterns) patterns (length patterns) [] refl (λ k below. refl)

  begins_by_number : begins_one patterns word
      ≡ list_any (λ i. starts_with nat_eq (pattern_at patterns i) word) numbers
  begins_by_number = grind (arith, by_number, list_any-map)

  -- a pattern begins with a word where its list has one
  pub unbegun_by_list : list_for patterns word ≡ [] → begins_one patterns word ≡ false
  unfolding numbers
  unbegun_by_list none = begins_by_number ∙ any_of_none _ numbers none

  begun_by_list : (first : ℕ) (more : List ℕ) → list_for patterns word ≡ first ∷ more
      → begins_one patterns word ≡ true
  unfolding numbers
  begun_by_list first more is = begins_by_number ∙ any_of_one _ numbers first more is

  pub begun_by_length : 0 < length (list_for patterns word) → begins_one patterns word ≡ true
  begun_by_length some = by_list (list_for patterns word) refl some
    where
      by_list : (l : List ℕ) → list_for patterns word ≡ l → 0 < length l → begins_one patterns word ≡ true
      by_list [] is some = absurd (omega arith)
      by_list (first ∷ more) is some = begun_by_list first more is

  -- the first pattern that is the word
  first_by_list : (long : ℕ) → length word ≡ long
      → first_equal patterns word ≡ find (λ i. eqb (length (pattern_at patterns i)) long) (list_for patterns word)
  unfolding numbers
  first_by_list long is_long =
      ap (position equal) by_number
      ∙ (by_place (position_or_len equal (map (pattern_at patterns) numbers))
      (position_or_len-map equal (pattern_at patterns) numbers)
      ∙ (sym (find_range (λ i. equal (pattern_at patterns i)) (length patterns))
      ∙ find_filter _ _ _ (λ i. whole_by_length (pattern_at patterns i) word long is_long) numbers))
    where
      equal : List ℕ → Bool
      equal pattern = starts_with nat_eq pattern word && starts_with nat_eq word pattern

      by_place : (index : ℕ) → index ≡ position_or_len (λ i. equal (pattern_at patterns i)) numbers
          → cond (ltb index (length (map (pattern_at patterns) numbers))) (Some index) None
          ≡ position (λ i. equal (pattern_at patterns i)) numbers
      by_place index is = grind (arith, length-map, numbers)

-- the list of the empty word has all patterns
pub list_of_empty : (patterns : List (List ℕ)) → list_for patterns [] ≡ range_with_len 0 (length patterns)
list_of_empty patterns = grind (arith, filter_all, starts_is)

-- a list that is filtered from an index in lists on: what is added and found so far, and what is left
module _ (goes : ℕ → Bool) (old : List ℕ) (start end index x : ℕ) (before : index < end)
    (inside : end ≤ length old) (read : x ≡ get_or old index x) where
  rest : List ℕ
  rest = slice_range old (index + 1) end

  rest_is : slice_range old index end ≡ x ∷ rest
  unfolding rest
  rest_is = grind (arith, range_more)

  filter_step : filter goes (slice_range old index end) ≡ (if goes x then x ∷ [] else []) ++ filter goes rest
  filter_step = grind (arith, rest_is)

  pub added_more : (lists longer : List ℕ) → longer ≡ lists ++ (if goes x then x ∷ [] else [])
      → lists ++ filter goes (slice_range old index end) ≡ old ++ filter goes (slice_range old start end)
      → longer ++ filter goes (slice_range old (index + 1) end) ≡ old ++ filter goes (slice_range old start end)
  unfolding rest
  added_more lists longer is so_far = grind (arith, append_assoc, filter_step)

  module _ (whole : ℕ → Bool) where
    found_is : find whole (filter goes (slice_range old index end))
        ≡ (if goes x && whole x then Some x else find whole (filter goes rest))
    found_is = grind (arith, rest_is, rest)

    found_or : (found : Option ℕ) (later : Option ℕ)
        → option_or (option_or found (Some x)) later ≡ option_or found (Some x)
    found_or found later = grind arith

    pub found_yet : (found found' : Option ℕ) → found' ≡ option_or found (Some x) → (goes x && whole x) ≡ true
        → option_or found (find whole (filter goes (slice_range old index end)))
        ≡ find whole (filter goes (slice_range old start end))
        → option_or found' (find whole (filter goes (slice_range old (index + 1) end)))
        ≡ find whole (filter goes (slice_range old start end))
    unfolding rest
    found_yet found found' is both so_far = grind (arith, rest, found_or, found_is, cond-true)

    pub found_none : (found found' : Option ℕ) → found' ≡ found → (goes x && whole x) ≡ false
        → option_or found (find whole (filter goes (slice_range old index end)))
        ≡ find whole (filter goes (slice_range old start end))
        → option_or found' (find whole (filter goes (slice_range old (index + 1) end)))
        ≡ find whole (filter goes (slice_range old start end))
    unfolding rest
    found_none found found' is none so_far = grind (arith, rest, found_is, cond-false)

-- the list for a word and a symbol, and the first pattern that is both, from the word's list
module _ (patterns : List (List ℕ)) (word : List ℕ) (symbol depth : ℕ) (list : List ℕ) (long : length word ≡ depth)
    (listed : list ≡ list_for patterns word) where
  pub list_by_list : filter (λ i. goes_on (pattern_at patterns i) depth symbol) list
      ≡ list_for patterns (word ++ symbol ∷ [])
  list_by_list = grind (arith, list_longer)

  pub whole_by_list : find (λ i. eqb (length (pattern_at patterns i)) (depth + 1))
      (filter (λ i. goes_on (pattern_at patterns i) depth symbol) list)
      ≡ first_equal patterns (word ++ symbol ∷ [])
  whole_by_list =
      ap (find (λ i. eqb (length (pattern_at patterns i)) (depth + 1))) list_by_list
      ∙ sym (first_by_list patterns (word ++ symbol ∷ []) (depth + 1)
      (length-append word (symbol ∷ []) ∙ ap (λ n. n + 1) long))

-- a pattern in the list for a word begins with it
pub prefix_by_list : (patterns : List (List ℕ)) (word : List ℕ) (first : ℕ) (more : List ℕ)
    → list_for patterns word ≡ first ∷ more
    → (length word ≤ length (pattern_at patterns first)) × (take (length word) (pattern_at patterns first) ≡ word)
prefix_by_list patterns word first more is =
    let begins : starts_with nat_eq (pattern_at patterns first) word ≡ true =
    ap (λ (l : List ℕ). starts_with nat_eq (pattern_at patterns (get_or l 0 first)) word) (sym is)
    ∙ filter_passes (λ i. starts_with nat_eq (pattern_at patterns i) word) _ 0 first
    (omega (arith, ap (λ (l : List ℕ). length l) is)) in
    let split = (starts_is Decides-eqb (pattern_at patterns first) word _ refl).0 begins in
    grind (arith, length-append, take_at)
