-- How many states there are.
use Rattle.std.proofs.lemmas.Grind.{common_steps}
use Rattle.std.proofs.Common.{◌≡◌, ◌≢◌, ℕ, ◌+◌, ◌*◌, ◌-◌, ◌<◌, ◌≤◌, ◌^◌, ◌⊎◌, true, List, [], ◌∷◌, ◌++◌, suc, zero}
use Rattle.std.proofs.Common.{cond, length-append, ltb, sum_by}
use Rattle.std.proofs.Common.{length, get_or, map, take, drop, eqb, nat_eq, inl, inr, refl, sym, ap, ◌∙◌, arith, subst}
use Rattle.std.proofs.Math.Nat.{mul-le-mul_right}
use Rattle.std.proofs.Math.Seq.{take-append_seam}
use Rattle.std.proofs.lemmas.List.Sums.{sum_by-cons}
use Rattle.std.proofs.lemmas.Bool.{cases_lt, eqb-true, lt-ltb, ltb-true, ne_eqb}
use Rattle.std.proofs.lemmas.Bool.Decides.{Decides-eqb}
use Rattle.std.proofs.lemmas.List.{get_or-map, get_or_append_left, get_or_default, get_or_past, get_or_push, length-map}
use Rattle.std.proofs.lemmas.List.{length-take-le, length_push, same_from_push, take-append-drop, take_all, take_more}
use Rattle.std.proofs.lemmas.List.Elements.{All-head, All-tail}
use Rattle.std.proofs.lemmas.List.Folds.{Any-from_list_any, list_any_at}
use Rattle.std.proofs.lemmas.List.FromFn.{get_or-map-range_with_len, length-map-range_with_len}
use Rattle.std.proofs.lemmas.Map.Keys.{IsDistinct-from_apart}
use Rattle.std.proofs.lemmas.Map.Steps.{length-le_from_distinct_below}
use Rattle.std.proofs.lemmas.Slice.Eq.{starts_is}
use Rattle.std.specs.Global.{Vec}
use Rattle.std.specs.List.{All, range_with_len, starts_with}
use Rattle.literal_base.specs.Occurs.{pattern_at}
use Rattle.literal_rows.specs.Inside.Classes.{AreClasses, symbols_in}
use Rattle.literal_rows.specs.Inside.Grown.{AreWords}
use Rattle.literal_rows.specs.States.{AreStates, HasTooManyStates}
use Rattle.literal_rows.specs.Table.{Recognises, stride_of}
use Rattle.literal_rows.specs.Words.{begins_one, word_of}
use Rattle.literal_rows.proofs.lemmas.Live.{begins_prefix, one_begins}

-- If each text that is empty or a prefix of a pattern is the word of a number below a bound, there are no more of them.
module _ (patterns : List (List ℕ)) (bound : ℕ) (word : ℕ → List ℕ)
    (number_of : (text : List ℕ) → (text ≡ []) ⊎ (begins_one patterns text ≡ true)
    → (n : ℕ) × (n < bound) × (word n ≡ text)) where
  numbers_of : (texts : List (List ℕ)) → All (λ text. (text ≡ []) ⊎ (begins_one patterns text ≡ true)) texts
      → (numbers : List ℕ) × (length numbers ≡ length texts)
      × ((k d : ℕ) (e : List ℕ) → k < length texts
      → (get_or numbers k d < bound) × (word (get_or numbers k d) ≡ get_or texts k e))
  numbers_of [] begun = ([], refl, λ k d e inside. absurd (omega arith))
  numbers_of (text ∷ texts) begun =
      let first = number_of text
      (All-head (λ (t : List ℕ). (t ≡ []) ⊎ (begins_one patterns t ≡ true)) text texts begun) in
      let rest = numbers_of texts
      (All-tail (λ (t : List ℕ). (t ≡ []) ⊎ (begins_one patterns t ≡ true)) text texts begun) in
      (first.0 ∷ rest.0, ap suc rest.1, at first rest)
    where
      at : (first : (n : ℕ) × (n < bound) × (word n ≡ text))
          → (rest : (numbers : List ℕ) × (length numbers ≡ length texts)
          × ((k d : ℕ) (e : List ℕ) → k < length texts
          → (get_or numbers k d < bound) × (word (get_or numbers k d) ≡ get_or texts k e)))
          → (k d : ℕ) (e : List ℕ) → k < suc (length texts)
          → (get_or (first.0 ∷ rest.0) k d < bound)
          × (word (get_or (first.0 ∷ rest.0) k d) ≡ get_or (text ∷ texts) k e)
      at first rest zero d e inside = (first.1, first.2)
      at first rest (suc k) d e inside = rest.2 k d e (omega arith)

  pub few_numbered : (texts : List (List ℕ)) → AreStates patterns texts → length texts ≤ bound
  few_numbered texts are =
      let all = numbers_of texts are.begun in
      let distinct = IsDistinct-from_apart eqb all.0 (λ i j d before inside. ne_eqb _ _ (λ same.
      are.apart i j [] before (omega (arith, all.1, inside))
      (sym (all.2 i d [] (omega (arith, all.1, before, inside))).1
      ∙ (ap word same ∙ (all.2 j d [] (omega (arith, all.1, inside))).1)))) in
      let fits = length-le_from_distinct_below all.0 (bound) distinct (λ q is.
      let one = Any-from_list_any (eqb q) all.0 is in
      let read = (all.2 one.0 one.1 [] (omega (arith, all.1, one.2))).0 in
      omega (arith, read, one.3, eqb-true q one.1 one.4)) in
      omega (arith, fits, all.1)

module _ (patterns : List (List ℕ)) (width : ℕ)
    (below : (i k : ℕ) → get_or (pattern_at patterns i) k 0 < width) (rows : List ℕ)
    (r : Recognises patterns width rows) where
  -- each prefix of a text with which a pattern begins has a state
  state_of_prefix : (text : List ℕ) → begins_one patterns text ≡ true → (k : ℕ) → k ≤ length text
      → (n : ℕ) × (n < length r.words) × (word_of r.words n ≡ take k text)
  state_of_prefix text begun zero short = (0, r.some, r.root)
  state_of_prefix text begun (suc k) short =
      let before = state_of_prefix text begun k (omega arith) in
      let symbol = get_or text k 0 in
      let one = one_begins patterns text begun in
      let pattern = pattern_at patterns one.0 in
      let split = (starts_is Decides-eqb pattern text _ refl).0 one.2 in
      let read : get_or pattern k 0 ≡ symbol = grind (arith, get_or_append_left) in
      let next : suc k ≡ k + 1 = omega arith in
      let more : take (suc k) text ≡ take k text ++ symbol ∷ [] = grind (arith, take_more) in
      let prefix_begun = begins_prefix patterns (take (suc k) text) (drop (suc k) text)
      (grind (arith, common_steps)) in
      grind arith

  state_of : (text : List ℕ) → (text ≡ []) ⊎ (begins_one patterns text ≡ true)
      → (n : ℕ) × (n < length r.words) × (word_of r.words n ≡ text)
  state_of text (inl none) = (0, r.some, r.root ∙ sym none)
  state_of text (inr begun) =
      let is = state_of_prefix text begun (length text) (omega arith) in
      (is.0, is.1, is.2 ∙ take_all (length text) text (omega arith))

  -- so there are no more such texts than states
  pub few_states : (texts : List (List ℕ)) → AreStates patterns texts → length texts ≤ length r.words
  few_states texts are = few_numbered patterns (length r.words) (word_of r.words) state_of texts are

-- the prefixes of some texts by numbers: the empty one, those of the first, and then those of the next
prefix_by : List (List ℕ) → ℕ → List ℕ
prefix_by [] n = []
prefix_by (text ∷ more) n = cond (ltb (length text) n) (prefix_by more (n - length text)) (take n text)

prefix_here : (text : List ℕ) (more : List (List ℕ)) (n : ℕ) → n ≤ length text
    → prefix_by (text ∷ more) n ≡ take n text
unfolding prefix_by
prefix_here text more n within = grind (arith, ltb-true, prefix_by)

prefix_further : (text : List ℕ) (more : List (List ℕ)) (n : ℕ) → 0 < n
    → prefix_by (text ∷ more) (length text + n) ≡ prefix_by more n
unfolding prefix_by
prefix_further text more n some = grind (arith, lt-ltb, prefix_by)

prefix_of_none : (texts : List (List ℕ)) → prefix_by texts 0 ≡ []
unfolding prefix_by
prefix_of_none [] = refl
prefix_of_none (text ∷ more) = prefix_here text more 0 (omega arith)

number_of_prefix : (texts : List (List ℕ)) (i : ℕ) (symbol : ℕ) (text : List ℕ) → i < length texts
    → starts_with nat_eq (pattern_at texts i) (symbol ∷ text) ≡ true
    → (n : ℕ) × (0 < n) × (n < sum_by length texts + 1) × (prefix_by texts n ≡ symbol ∷ text)
number_of_prefix [] i symbol text below begins = absurd (omega (arith, below))
number_of_prefix (first ∷ more) zero symbol text below begins =
    let word = symbol ∷ text in
    let split = (starts_is Decides-eqb first word _ refl).0 begins in
    let total = sum_by-cons length first more in
    let long = ap (λ (l : List ℕ). length l) split ∙ length-append word (drop (length word) first) in (
      length word,
      omega arith,
      omega (arith, long, total),
      prefix_here first more (length word) (omega (arith, long))
          ∙ (ap (take (length word)) split ∙ take-append_seam word (drop (length word) first)),
    )
number_of_prefix (first ∷ more) (suc i) symbol text below begins =
    let (n, some, few, is) = number_of_prefix more i symbol text (omega (arith, below)) begins in
    let total = sum_by-cons length first more in
    (length first + n, omega (arith, some), omega (arith, few, total), prefix_further first more n some ∙ is)

number_of_any : (texts : List (List ℕ)) (text : List ℕ) → (text ≡ []) ⊎ (begins_one texts text ≡ true)
    → (n : ℕ) × (n < sum_by length texts + 1) × (prefix_by texts n ≡ text)
number_of_any texts text (inl none) = (0, omega arith, prefix_of_none texts ∙ sym none)
number_of_any texts [] (inr begun) = (0, omega arith, prefix_of_none texts)
number_of_any texts (symbol ∷ text) (inr begun) = grind (arith, number_of_prefix, one_begins)

-- the states are at most one more than all symbols
pub few_by_length : (patterns texts : List (List ℕ)) → AreStates patterns texts
    → length texts ≤ sum_by length patterns + 1
few_by_length patterns texts are =
    few_numbered patterns (sum_by length patterns + 1) (prefix_by patterns) (number_of_any patterns) texts are

pub few_if_short : (patterns : List (List ℕ)) (width : ℕ)
    → (sum_by length patterns + 1) * stride_of width ≤ 2 ^ 31 - 1 → ¬ HasTooManyStates patterns width
few_if_short patterns width short (texts, are, many) = grind (arith, few_by_length, mul-le-mul_right)

-- words that are made one by one
module _ (patterns words : List (List ℕ)) (width upto : ℕ)
    (are : AreWords patterns words width upto) where
  pub made_more : (later : ℕ) → upto ≤ later → AreWords patterns words width later
  made_more later more =
      record {
        root = are.root;
        apart = are.apart;
        begun = are.begun;
        made = grind arith;
      }

  -- the word at the next index is new
  is_new : (state symbol : ℕ) → state < length words → upto ≡ state * stride_of width + symbol → (n : ℕ)
      → n < length words → word_of words n ≢ word_of words state ++ symbol ∷ []
  is_new state symbol is_state at n below same =
      elim (cases_lt 0 n) [
        | inl some ↦
            let by = are.made n some below in
            grind (arith, same_from_push)
        | inr none ↦
            grind (arith, common_steps)
      ]

  pub made_next : (state symbol : ℕ) → state < length words → symbol < width
      → upto ≡ state * stride_of width + symbol
      → begins_one patterns (word_of words state ++ symbol ∷ []) ≡ true
      → AreWords patterns (words ++ (word_of words state ++ symbol ∷ []) ∷ []) width (upto + 1)
  made_next state symbol is_state is_symbol at begun = record {
    root = old 0 (omega arith) ∙ are.root;
    apart = λ i j before inside same. elim (cases_lt j (length words)) [
      | inl early ↦ are.apart i j before early (sym (old i (omega arith)) ∙ (same ∙ old j early))
      | inr late ↦ is_new state symbol is_state at i (omega (arith, more, inside))
          (sym (old i (omega (arith, more, inside))) ∙ (same ∙ last j (omega (arith, more, inside))))
    ];
    begun = λ n inside. elim (cases_lt n (length words)) [
      | inl early ↦ subst (λ w. (w ≡ []) ⊎ (begins_one patterns w ≡ true)) (sym (old n early)) (are.begun n early)
      | inr late ↦ inr (ap (begins_one patterns) (last n (omega (arith, more, inside))) ∙ begun)
    ];
    made = λ n some inside. elim (cases_lt n (length words)) [
      | inl early ↦
          let by = are.made n some early in
          let was = by.early in
          let is = by.is_state in
          record {
            state = by.state;
            symbol = by.symbol;
            is_state = omega (arith, is, more);
            is_symbol = by.is_symbol;
            early = omega (arith, was);
            word_is = old n early ∙ (by.word_is ∙ ap (λ w. w ++ by.symbol ∷ []) (sym (old by.state by.is_state)));
          }
      | inr late ↦ record {
        state = state;
        symbol = symbol;
        is_state = omega (arith, is_state, more);
        is_symbol = is_symbol;
        early = omega (arith, at);
        word_is = last n (omega (arith, more, inside)) ∙ ap (λ w. w ++ symbol ∷ []) (sym (old state is_state));
      }
    ];
  }
    where
      word : List ℕ
      word = word_of words state ++ symbol ∷ []

      more : length (words ++ word ∷ []) ≡ length words + 1
      more = length_push words word

      old : (n : ℕ) → n < length words → word_of (words ++ word ∷ []) n ≡ word_of words n
      old n below = get_or_append_left words (word ∷ []) [] n below

      last : (n : ℕ) → length words ≡ n → word_of (words ++ word ∷ []) n ≡ word
      last n is = get_or_push words word [] n is

-- made words are different states
pub states_made : (patterns words : List (List ℕ)) (width upto : ℕ)
    → AreWords patterns words width upto → AreStates patterns words
states_made patterns words width upto are = grind (arith, get_or_default)

-- the symbols of all patterns are below the width
pub symbols_below : (classes : List ℕ) (width : ℕ) → AreClasses classes width → (patterns : List (Vec ℕ))
    → (i k : ℕ) → get_or (pattern_at (map (λ pattern. symbols_in classes pattern.items) patterns) i) k 0 < width
symbols_below classes width are patterns i k =
    elim (cases_lt i (length patterns)) [
      | inl inside ↦ at patterns i inside
      | inr past ↦
          let none = get_or_past (map (λ (p : Vec ℕ). symbols_in classes p.items) patterns) i []
          (omega (arith, length-map patterns (λ (p : Vec ℕ). symbols_in classes p.items))) in
          subst (λ (l : List ℕ). get_or l k 0 < width) (sym none) are.some
    ]
  where
    class_below : (byte : ℕ) → get_or classes byte 0 < width
    class_below byte = grind (arith, cases_lt, get_or_past)

    symbol_below : (bytes : List ℕ) → get_or (symbols_in classes bytes) k 0 < width
    symbol_below bytes = elim (cases_lt k (length bytes)) [
      | inl inside ↦
          subst (λ n. n < width) (sym (get_or-map (λ byte. get_or classes byte 0) bytes k 0 0 inside))
          (class_below (get_or bytes k 0))
      | inr past ↦
          subst (λ n. n < width) (sym (get_or_past (symbols_in classes bytes) k 0
          (omega (arith, length-map bytes (λ byte. get_or classes byte 0))))) are.some
    ]

    at : (ps : List (Vec ℕ)) (j : ℕ) → j < length ps
        → get_or (pattern_at (map (λ pattern. symbols_in classes pattern.items) ps) j) k 0 < width
    at [] j inside = absurd (omega arith)
    at (p ∷ ps) zero inside = symbol_below p.items
    at (p ∷ ps) (suc j) inside = at ps j (omega arith)

-- the prefixes of a pattern
module _ (patterns : List (List ℕ)) (i : ℕ) (below : i < length patterns) where
  prefix : ℕ → List ℕ
  prefix n = take n (pattern_at patterns i)

  prefix_begins : (n : ℕ) → begins_one patterns (prefix n) ≡ true
  unfolding prefix
  prefix_begins n =
      list_any_at (λ e. starts_with nat_eq e (prefix n)) patterns i [] below
      ((starts_is Decides-eqb (pattern_at patterns i) (prefix n) _ refl).1 (drop n (pattern_at patterns i))
      (sym (take-append-drop n (pattern_at patterns i))))

  -- where these are too many for rows, all states are
  pub too_many_prefixes : (width : ℕ) → 2 ^ 31 - 1 < (length (pattern_at patterns i) + 1) * stride_of width
      → HasTooManyStates patterns width
  unfolding prefix
  too_many_prefixes width long = (
    map prefix (range_with_len 0 count),
    record {
      apart = λ j k d before inside same. omega (
        arith,
        length-take-le j (pattern_at patterns i) (omega (arith, before, inside, many)),
        length-take-le k (pattern_at patterns i) (omega (arith, inside, many)),
        ap (λ (l : List ℕ). length l) (sym (at j d (omega (arith, before, inside, many))) ∙ (same ∙ at k d (omega (
          arith,
          many,
        )))),
      );
      begun = λ k d inside. inr (subst (λ (text : List ℕ). begins_one patterns text ≡ true)
          (sym (at k d (omega (arith, inside, many)))) (prefix_begins k));
    },
    subst (λ n. 2 ^ 31 - 1 < n * stride_of width) (sym many) long,
  )
    where
      count : ℕ
      count = length (pattern_at patterns i) + 1

      many : length (map prefix (range_with_len 0 count)) ≡ count
      many = length-map-range_with_len prefix 0 count

      at : (k : ℕ) (d : List ℕ) → k < count → get_or (map prefix (range_with_len 0 count)) k d ≡ prefix k
      at k d inside = get_or-map-range_with_len prefix 0 count k k d inside (omega arith)
