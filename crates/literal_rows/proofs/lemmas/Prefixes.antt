-- Prefixes among sorted texts. For `prefixes`.
use Rattle.std.proofs.lemmas.Grind.{common_steps}
use Rattle.std.proofs.Common.{◌≡◌, ◌≢◌, ◌∙◌, ◌+◌, ◌-◌, ◌<◌, ◌≤◌, ◌++◌, ◌∷◌, [], ℕ, List, None, Option, Some, ap}
use Rattle.std.proofs.Common.{append-nil, MatchOption, append_assoc, arith, drop, false, get_or, inl, inr, length, min}
use Rattle.std.proofs.Common.{refl, subst, suc, sym, set, zero}
use Rattle.std.proofs.lemmas.Bool.{cases_lt, false≢true}
use Rattle.std.proofs.lemmas.Bool.Decides.{Decides-eqb}
use Rattle.std.proofs.lemmas.Slice.Eq.{starts_is}
use Rattle.std.specs.Cmp.{nat_cmp_is, IsStrictWeakOrder, IsTotalOrder}
use Rattle.std.specs.Cmp.Lexicographic.{slice_cmp}
use Rattle.std.specs.Ordering.{nat_cmp, ordering_then, is_lt, on, then_cmp}
use Rattle.std.specs.declared.cmp.Ordering.{Ordering}
use Rattle.std.specs.declared.cmp.Ordering.TheVariants.{Equal, Greater}
use Rattle.std.specs.List.{All, range_with_len}
use Rattle.std.specs.List.Sorted.{IsPermutation, IsSortedBy}
use Rattle.std.proofs.lemmas.Cmp.{nat_cmp_total, nat_list_cmp_total, on_total, then_total, tied_itself}
use Rattle.std.proofs.lemmas.Map.Keys.{ge_from_not_lt}
use Rattle.std.proofs.lemmas.List.{get_or-map, get_or-set_other, get_or-set_same, get_or_append_left, get_or_push}
use Rattle.std.proofs.lemmas.List.{length-append, length-map}
use Rattle.std.proofs.lemmas.List.Elements.{All-from_get_or, All-get_or, Contains-get_or}
use Rattle.std.proofs.lemmas.List.FromFn.{get_or-range_with_len}
use Rattle.std.proofs.lemmas.List.Sorted.{All-permutation, Contains-permutation}
use Rattle.std.proofs.lemmas.List.MinMax.{ranks_by}
use Rattle.literal_rows.specs.declared.prefixes.Numbered.{Numbered}
use Rattle.literal_base.specs.Occurs.{pattern_at}
use Rattle.literal_rows.specs.Inside.Prefixes.{AreInOrder, AreLastPrefixes, AreSorted, StartsWith, IsFirstPrefix}
use Rattle.literal_rows.specs.Inside.Prefixes.{IsLastPrefix, numbers_in, symbols_in_order}

-- a text that begins with a word is the word and the rest, and back
begun : (text word : List ℕ) → StartsWith text word → text ≡ word ++ drop (length word) text
begun text word is = (starts_is Decides-eqb text word _ refl).0 is

begins_by : (text word rest : List ℕ) → text ≡ word ++ rest → StartsWith text word
begins_by text word rest split = (starts_is Decides-eqb text word _ refl).1 rest split

pub begins_itself : (text : List ℕ) → StartsWith text text
begins_itself text = begins_by text text [] (sym (append-nil text))

-- a prefix of a prefix is one
pub begins_on : (text middle word : List ℕ) → StartsWith text middle → StartsWith middle word → StartsWith text word
begins_on text middle word one other =
    let rest = drop (length middle) text in
    let tail = drop (length word) middle in
    begins_by text word (tail ++ rest)
    (begun text middle one ∙ (ap (λ (l : List ℕ). l ++ rest) (begun middle word other) ∙ append_assoc word tail rest))

-- numbers neither of which is greater are equal
same_if : (x y : ℕ) → nat_cmp x y ≢ Greater → nat_cmp y x ≢ Greater → x ≡ y
same_if x y first second = grind (arith, common_steps, cases_lt)

-- where a text is neither greater than another nor less than a prefix of it, this is a prefix of it too
between_both : (word middle rest : List ℕ) → slice_cmp nat_cmp word middle ≢ Greater
    → slice_cmp nat_cmp middle (word ++ rest) ≢ Greater → (tail : List ℕ) × (middle ≡ word ++ tail)
between_both [] middle rest first second = (middle, refl)
between_both (x ∷ word) [] rest first second = absurd (first refl)
between_both (x ∷ word) (y ∷ middle) rest first second =
    let same : x ≡ y = grind (arith, same_if) in
    let forth : nat_cmp x y ≡ Equal = sym (nat_cmp_is x y Equal same) in
    let back : nat_cmp y x ≡ Equal = sym (nat_cmp_is y x Equal (sym same)) in
    let further = between_both word middle rest
    (λ is. first (ap (λ o. ordering_then o (slice_cmp nat_cmp word middle)) forth ∙ is))
    (λ is. second (ap (λ o. ordering_then o (slice_cmp nat_cmp middle (word ++ rest))) back ∙ is)) in
    (further.0, ap (λ n. n ∷ middle) (sym same) ∙ ap (λ (l : List ℕ). x ∷ l) further.1)

pub begins_between : (text middle word : List ℕ) → StartsWith text word → slice_cmp nat_cmp word middle ≢ Greater
    → slice_cmp nat_cmp middle text ≢ Greater → StartsWith middle word
begins_between text middle word is first second =
    let tail = between_both word middle (drop (length word) text) first
    (subst (λ (t : List ℕ). slice_cmp nat_cmp middle t ≢ Greater) (begun text word is) second) in
    begins_by middle word tail.0 tail.1

-- a text that is not greater than its prefix is the prefix
no_more : (word rest : List ℕ) → slice_cmp nat_cmp (word ++ rest) word ≢ Greater → rest ≡ []
no_more [] [] first = refl
no_more [] (x ∷ rest) first = absurd (first refl)
no_more (x ∷ word) rest first =
    no_more word rest (λ is. first (ap (λ o. ordering_then o (slice_cmp nat_cmp (word ++ rest) word))
    (sym (nat_cmp_is x x Equal refl)) ∙ is))

pub same_as_prefix : (text word : List ℕ) → StartsWith text word → slice_cmp nat_cmp text word ≢ Greater → text ≡ word
same_as_prefix text word is first =
    let rest = drop (length word) text in
    let split = begun text word is in
    let none = no_more word rest (subst (λ (t : List ℕ). slice_cmp nat_cmp t word ≢ Greater) split first) in
    split ∙ (ap (λ l. word ++ l) none ∙ append-nil word)

-- the words before this one that are a prefix of it are not after an offset, if there is one
abbrev pub IsUpTo : List (List ℕ) → ℕ → Option ℕ → Type 0
IsUpTo words index answer = MatchOption answer
    ((k : ℕ) → k < index → ¬ StartsWith (pattern_at words index) (pattern_at words k))
    (λ last. (last < index)
    × ((k : ℕ) → k < index → StartsWith (pattern_at words index) (pattern_at words k) → k ≤ last))

-- if that one is none, they are not after the last of its own prefixes
pub step_back : (words : List (List ℕ)) (sorted : AreInOrder words) (index at : ℕ) → index < length words
    → IsUpTo words index (Some at) → ¬ StartsWith (pattern_at words index) (pattern_at words at) → (answer : Option ℕ)
    → IsLastPrefix words at answer → IsUpTo words index answer
step_back words sorted index at inside upto fails answer last = by answer last
  where
    earlier : (k : ℕ) → k < index → StartsWith (pattern_at words index) (pattern_at words k)
        → (k < at) × StartsWith (pattern_at words at) (pattern_at words k)
    earlier k below begins = grind (arith, begins_between)

    by : (answer : Option ℕ) → IsLastPrefix words at answer → IsUpTo words index answer
    by None none = grind (arith, earlier)
    by (Some last) is = grind (arith, earlier)

module _ (texts words : List (List ℕ)) (numbers : List ℕ) (sorted : AreSorted texts words numbers) (index : ℕ)
    (inside : index < length words) where
  abbrev pub number : ℕ
  number = get_or numbers index 0

  -- none that is a prefix of this one, from here on, has a smaller number
  later : (k : ℕ) → index ≤ k → k < length words → StartsWith (pattern_at words index) (pattern_at words k)
      → number ≤ get_or numbers k 0
  later k after below begins =
      elim (cases_lt index k) [
        | inl further ↦ sorted.ties index k further below
            (same_as_prefix (pattern_at words index) (pattern_at words k) begins (sorted.ordered index k after below))
        | inr here ↦
            let same : index ≡ k = omega (arith, after, here) in
            omega (arith, ap (λ n. get_or numbers n 0) same)
      ]

  own : StartsWith (pattern_at words index) (pattern_at texts number)
  own = subst (StartsWith (pattern_at words index)) (sorted.is index inside).1 (begins_itself (pattern_at words index))

  -- without a prefix before it, it is its own first one
  pub first_itself : IsLastPrefix words index None → IsFirstPrefix texts (pattern_at words index) number
  first_itself none = record {
    is_text = (sorted.is index inside).0;
    begins = own;
    least = λ j below begins.
        let (k, here, is) = sorted.has j below in
        let at : pattern_at words k ≡ pattern_at texts j = grind arith in
        let this = subst (StartsWith (pattern_at words index)) (sym at) begins in
        elim (cases_lt k index) [
          | inl before ↦ absurd (none k before this)
          | inr after ↦ omega (arith, is, later k (omega (arith, after)) here this)
        ];
  }

  -- else its first is the last prefix's, or itself
  pub first_of_last : (last first : ℕ) → IsLastPrefix words index (Some last)
      → IsFirstPrefix texts (pattern_at words last) first
      → IsFirstPrefix texts (pattern_at words index) (min number first)
  first_of_last last first is known = record {
    is_text = omega (arith, (sorted.is index inside).0, known.is_text);
    begins = grind (arith, begins_on, cases_lt, own);
    least = λ j below begins.
        let (k, here, number_is) = sorted.has j below in
        let at : pattern_at words k ≡ pattern_at texts j = grind arith in
        let this = subst (StartsWith (pattern_at words index)) (sym at) begins in
        elim (cases_lt k index) [
          | inl before ↦
              let upto = is.2 k before this in
              let within = begins_between (pattern_at words index) (pattern_at words last) (pattern_at words k) this
              (sorted.ordered k last upto (omega (arith, is.0, inside)))
              (sorted.ordered last index (omega (arith, is.0)) inside) in
              omega (arith, known.least j below (subst (StartsWith (pattern_at words last)) at within))
          | inr after ↦ omega (arith, number_is, later k (omega (arith, after)) here this)
        ];
  }

-- the word and the number of one
pub word_at : (all : List Numbered) (k : ℕ) (d : Numbered) → k < length all
    → pattern_at (symbols_in_order all) k ≡ (get_or all k d).symbols.items
word_at all k d below = get_or-map (λ (n : Numbered). n.symbols.items) all k d [] below

pub number_at : (all : List Numbered) (k : ℕ) (d : Numbered) → k < length all
    → get_or (numbers_in all) k 0 ≡ (get_or all k d).number
number_at all k d below = get_or-map (λ (n : Numbered). n.number) all k d 0 below

-- the order of patterns with their numbers
abbrev in_order : Numbered → Numbered → Ordering
in_order =
    then_cmp (on (λ (n : Numbered). n.symbols.items) (slice_cmp nat_cmp)) (on (λ (n : Numbered). n.number) nat_cmp)

in_order_total : IsTotalOrder in_order
in_order_total = grind (arith, common_steps, nat_cmp_total, nat_list_cmp_total, on_total, then_total)

module _ (all : List Numbered) (rises : IsSortedBy (λ x y. is_lt (in_order x y)) all) where
  order : IsStrictWeakOrder (λ (x y : Numbered). is_lt (in_order x y))
  order = ranks_by in_order_total (λ (n : Numbered). n)

  -- none is less than one before it
  not_less_after : (j more k : ℕ) (d : Numbered) → k ≡ j + more → k < length all
      → is_lt (in_order (get_or all k d) (get_or all j d)) ≡ false
  not_less_after j zero k d is below =
      subst (λ n. is_lt (in_order (get_or all n d) (get_or all j d)) ≡ false)
      (let same : j ≡ k = omega (arith, is) in same)
      (ap is_lt (tied_itself in_order_total (get_or all j d)))
  not_less_after j (suc more) k d is below =
      order.chain (get_or all k d) (get_or all (j + more) d) (get_or all j d)
      (subst (λ n. is_lt (in_order (get_or all n d) (get_or all (j + more) d)) ≡ false)
      (let same : j + more + 1 ≡ k = omega (arith, is) in same)
      (rises (j + more) d (omega arith) (omega (arith, is, below))))
      (not_less_after j more (j + more) d refl (omega (arith, is, below)))

  not_less : (j k : ℕ) (d : Numbered) → j ≤ k → k < length all
      → is_lt (in_order (get_or all k d) (get_or all j d)) ≡ false
  not_less j k d upto below = not_less_after j (k - j) k d (omega (arith, upto)) below

-- what is not less is not before
not_greater : (a b : List ℕ) (more : Ordering) → is_lt (ordering_then (slice_cmp nat_cmp b a) more) ≡ false
    → slice_cmp nat_cmp a b ≢ Greater
not_greater a b more not greater = grind (arith, false≢true, nat_list_cmp_total)

-- one of a list
some_of : (all : List Numbered) (k : ℕ) → k < length all → Numbered
some_of [] k below = absurd (omega (arith, below))
some_of (one ∷ all) k below = one

-- the word is the text of its number
abbrev IsGiven : List (List ℕ) → Numbered → Type 0
IsGiven texts n = (n.number < length texts) × (n.symbols.items ≡ pattern_at texts n.number)

-- patterns with their numbers, sorted
pub are_sorted : (texts : List (List ℕ)) (given all : List Numbered) → symbols_in_order given ≡ texts
    → numbers_in given ≡ range_with_len 0 (length texts) → IsPermutation given all
    → IsSortedBy (λ x y. is_lt (in_order x y)) all → AreSorted texts (symbols_in_order all) (numbers_in all)
are_sorted texts given all words numbers moved rises = record {
  long = length-map all (λ (n : Numbered). n.number) ∙ sym many;
  is = λ k below.
      let inside : k < length all = omega (arith, below, many) in
      let d = some_of all k inside in
      let one = All-get_or (IsGiven texts) all k d inside (each d) in (
        subst (λ n. n < length texts) (sym (number_at all k d inside)) one.0,
        word_at all k d inside ∙ (one.1 ∙ ap (pattern_at texts) (sym (number_at all k d inside))),
      );
  has = λ i below.
      let inside : i < length given = omega (arith, below, given_long) in
      let d = some_of given i inside in
      let held = Contains-permutation given all (get_or given i d) moved (Contains-get_or given i d inside) in (
        held.0,
        omega (arith, held.1, many),
        number_at all held.0 (get_or given i d) held.1
            ∙ (ap (λ (n : Numbered). n.number) held.2 ∙ (sym (number_at given i d inside) ∙ number_is i below)),
      );
  ordered = λ j k upto below.
      let inside : k < length all = omega (arith, below, many) in
      let d = some_of all k inside in
      let first = word_at all j d (omega (arith, inside, upto)) in
      let second = word_at all k d inside in
      let not = not_greater (get_or all j d).symbols.items (get_or all k d).symbols.items
      (nat_cmp (get_or all k d).number (get_or all j d).number) (not_less all rises j k d upto inside) in
      subst (λ (w : List ℕ). slice_cmp nat_cmp w (pattern_at (symbols_in_order all) k) ≢ Greater) (sym first)
      (subst (λ (w : List ℕ). slice_cmp nat_cmp (get_or all j d).symbols.items w ≢ Greater) (sym second) not);
  ties = λ j k before below same.
      let inside : k < length all = omega (arith, below, many) in
      let d = some_of all k inside in
      let first = word_at all j d (omega (arith, inside, before)) in
      let second = word_at all k d inside in
      let equal : (get_or all k d).symbols.items ≡ (get_or all j d).symbols.items = sym second ∙ (sym same ∙ first) in
      let level : slice_cmp nat_cmp (get_or all k d).symbols.items (get_or all j d).symbols.items ≡ Equal =
      grind (arith, nat_list_cmp_total, tied_itself) in
      let not = ge_from_not_lt (get_or all k d).number (get_or all j d).number
      (ap (λ o. is_lt (ordering_then o (nat_cmp (get_or all k d).number (get_or all j d).number))) (sym level)
      ∙ not_less all rises j k d (omega (arith, before)) inside) in
      omega (arith, not, number_at all j d (omega (arith, inside, before)), number_at all k d inside);
}
  where
    many : length (symbols_in_order all) ≡ length all
    many = length-map all (λ (n : Numbered). n.symbols.items)

    given_long : length given ≡ length texts
    given_long = sym (length-map given (λ (n : Numbered). n.symbols.items)) ∙ ap (λ (l : List (List ℕ)). length l) words

    number_is : (i : ℕ) → i < length texts → get_or (numbers_in given) i 0 ≡ i
    number_is i below = grind (arith, get_or-range_with_len)

    each : Numbered → All (IsGiven texts) all
    each d =
        All-permutation (IsGiven texts) given all moved
        (All-from_get_or (IsGiven texts) given d (λ i inside.
        let below : i < length texts = omega (arith, inside, given_long) in
        let is = sym (number_at given i d inside) ∙ number_is i below in (
          omega (arith, is, below),
          sym (word_at given i d inside)
              ∙ (ap (λ (l : List (List ℕ)). pattern_at l i) words ∙ ap (pattern_at texts) (sym is)),
        )))

-- the last prefixes of one more
pub prefixed_more : (words : List (List ℕ)) (before : List (Option ℕ)) (last : Option ℕ) → AreLastPrefixes words before
    → IsLastPrefix words (length before) last → AreLastPrefixes words (before ++ last ∷ [])
prefixed_more words before last are is k below = elim (cases_lt k (length before)) [
  | inl earlier ↦ subst (IsLastPrefix words k) (sym (get_or_append_left before (last ∷ []) None k earlier))
      (are k earlier)
  | inr not ↦
      let here : k ≡ length before = omega (arith, not, below, length-append before (last ∷ [])) in
      subst (IsLastPrefix words k) (sym (get_or_push before last None k (sym here)))
      (subst (λ n. IsLastPrefix words n last) (sym here) is)
]

-- the first prefixes of one more, at the indices of their numbers
pub firsts_more : (texts words : List (List ℕ)) (numbers firsts : List ℕ) → AreSorted texts words numbers
    → length firsts ≡ length texts → (index first : ℕ) → index < length words
    → ((k : ℕ) → k < index → IsFirstPrefix texts (pattern_at words k) (get_or firsts (get_or numbers k 0) 0))
    → IsFirstPrefix texts (pattern_at words index) first → (k : ℕ) → k < index + 1
    → IsFirstPrefix texts (pattern_at words k)
    (get_or (set firsts (get_or numbers index 0) first) (get_or numbers k 0) 0)
firsts_more texts words numbers firsts sorted long index first inside known is k below =
    elim (cases_lt n m) [
      | inl less ↦ other (λ same. omega (arith, less, same))
      | inr not ↦ elim (cases_lt m n) [
        | inl more ↦ other (λ same. omega (arith, more, same))
        | inr neither ↦ this (omega (arith, not, neither))
      ]
    ]
  where
    n : ℕ
    n = get_or numbers k 0

    m : ℕ
    m = get_or numbers index 0

    here : k < length words
    here = omega (arith, below, inside)

    this : n ≡ m → IsFirstPrefix texts (pattern_at words k) (get_or (set firsts m first) n 0)
    this same = grind (arith, get_or-set_same, here, m)

    other : n ≢ m → IsFirstPrefix texts (pattern_at words k) (get_or (set firsts m first) n 0)
    other differs = grind (arith, cases_lt, get_or-set_other, m, n)
