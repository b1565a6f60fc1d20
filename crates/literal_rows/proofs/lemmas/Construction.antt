-- States, lists and rows, as they grow.
use Rattle.std.proofs.lemmas.Grind.{common_steps}
use Rattle.std.proofs.Common.{◌≡◌, ℕ, ◌+◌, ◌*◌, ◌-◌, ◌<◌, ◌≤◌, ◌^◌, List, [], ◌∷◌, ◌++◌, length, get_or, inl, inr, refl}
use Rattle.std.proofs.Common.{◌≢◌, get_or-take, map, set, take, get_or-set_other, get_or-set_same, sym, ap, ◌∙◌, arith}
use Rattle.std.proofs.Common.{subst, ◌/◌, Option, None, Some}
use Rattle.std.proofs.lemmas.Bool.{cases_lt}
use Rattle.std.proofs.lemmas.List.{drop-append-le, get_or-append_right, get_or-map, get_or_append_left, get_or_push}
use Rattle.std.proofs.lemmas.List.{length-drop, length-map, length_push, length-append, take-append-le, take_all}
use Rattle.std.proofs.lemmas.List.FromFn.{get_or-range_with_len, length-range_with_len}
use Rattle.std.proofs.lemmas.Nat.{mul-add-lt, same_from_place, div-mul-add}
use Rattle.std.specs.List.{range_with_len}
use Rattle.std.specs.Option.{unwrap_or, IfSome, option_or}
use Rattle.literal_rows.specs.Table.{LeadsTo, Recognises, nothing, stride_of, code_of}
use Rattle.literal_rows.specs.Words.{ending, live_suffix, word_of, first_equal}
use Rattle.literal_rows.specs.Inside.Grown.{AreRows, IsLonger, failure_of, list_for, symbols_after}
use Rattle.literal_rows.specs.Inside.Construction.{AreTexts, IsConstruction, IsStateAt, list_in, texts_of, word_in}
use Rattle.literal_rows.specs.Inside.Construction.{words_in, HasFailure, LeadBack, LeadOn, word_after}
use Rattle.literal_rows.specs.Inside.Construction.{words_of}
use Rattle.literal_rows.specs.declared.grow.Construction.{Construction}
use Rattle.literal_rows.specs.declared.texts.State.{State}
use Rattle.literal_rows.specs.declared.texts.Texts.{Texts}
use Rattle.literal_rows.proofs.lemmas.Grown.{list_of_empty, none_listed, unbegun_by_list}
use Rattle.std.proofs.lemmas.Option.{IfSome_then}
use Rattle.literal_base.specs.Occurs.{pattern_at}
use Rattle.literal_rows.proofs.lemmas.Behind.{ending_is_pattern, ending_next, failure_push, live_unbegun}

-- an element with one more behind the last
old_at : {A : Type 0} (xs : List A) (x d : A) (k : ℕ) → k < length xs → get_or (xs ++ x ∷ []) k d ≡ get_or xs k d
old_at xs x d k below = get_or_append_left xs (x ∷ []) d k below

-- words that get longer
pub longer_same : (words : List (List ℕ)) → IsLonger words words
longer_same words = record { more = omega arith; same = λ state is_state. refl }

pub longer_push : (words : List (List ℕ)) (word : List ℕ) → IsLonger words (words ++ word ∷ [])
longer_push words word = grind (arith, length_push, old_at)

module _ (patterns words longer : List (List ℕ)) (width : ℕ) (more : IsLonger words longer) where
  to_longer : (code : ℕ) (word : List ℕ) → LeadsTo patterns words width code word
      → LeadsTo patterns longer width code word
  to_longer code word to = grind arith

  state_longer : (n : ℕ) (s : State) (lists lists' : List ℕ)
      → (s.end ≤ length lists → (s.end ≤ length lists') × (list_in lists' s ≡ list_in lists s))
      → IsStateAt patterns words width lists n s → IsStateAt patterns longer width lists' n s
  unfolding to_longer
  state_longer n s lists lists' kept is = record {
    shallow = is.shallow;
    prefix = is.prefix;
    ordered = is.ordered;
    inside = (kept is.inside).0;
    listed = (kept is.inside).1 ∙ is.listed;
    ended = is.ended;
    failure_is = λ later.
        let was = is.failure_is later in
        record { some = was.some; to = to_longer s.failure _ was.to; earlier = was.earlier };
  }

  rows_longer : (rows : List ℕ) → length rows ≤ length words * stride_of width
      → AreRows patterns words width rows → AreRows patterns longer width rows
  rows_longer rows filled are =
      record {
        leads = grind (arith, common_steps, to_longer);
        ends = grind (arith, common_steps);
      }

-- a list in longer lists
list_kept : (lists more : List ℕ) (s : State) → s.start ≤ s.end → s.end ≤ length lists
    → list_in (lists ++ more) s ≡ list_in lists s
list_kept lists more s ordered inside = grind (arith, drop-append-le, take-append-le, length-drop)

module _ (t : Texts) where
  -- the word of a state
  pub word_at : (states : List State) (n : ℕ) (d : State) → n < length states
      → word_of (words_in t states) n ≡ word_in (texts_of t) (get_or states n d)
  word_at states n d below = get_or-map (word_in (texts_of t)) states n d [] below

  pub words_length : (states : List State) → length (words_in t states) ≡ length states
  words_length states = length-map states (word_in (texts_of t))

  -- more lists
  pub grown_lists : (states : List State) (lists rows more : List ℕ) → IsConstruction t states lists rows
      → ((k d : ℕ) → k < length (lists ++ more) → get_or (lists ++ more) k d < length t.patterns.now)
      → IsConstruction t states (lists ++ more) rows
  grown_lists states lists rows more g numbers = record {
    texts = g.texts;
    some = g.some;
    root = g.root;
    few = g.few;
    filled = g.filled;
    numbers = numbers;
    each = λ n d below.
        let is = g.each n d below in
        let s = get_or states n d in
        state_longer (texts_of t) (words_in t states) (words_in t states) t.width
        (longer_same (words_in t states))
        n s lists (lists ++ more)
        (λ inside. (omega (arith, length-append lists more), list_kept lists more s is.ordered inside)) is;
    led = g.led;
  }

  -- one state more
  pub grown_state : (states : List State) (lists rows : List ℕ) (s : State) → IsConstruction t states lists rows
      → IsStateAt (texts_of t) (words_in t states) t.width lists (length states) s
      → (length states + 1) * stride_of t.width ≤ 2 ^ 31 - 1 → IsConstruction t (states ++ s ∷ []) lists rows
  grown_state states lists rows s g is few =
      let longer : IsLonger (words_in t states) (words_in t (states ++ s ∷ [])) =
      grind (arith, common_steps, longer_push) in
      let more = length_push states s in
      let known = words_length states in
      record {
        texts = g.texts;
        some = omega (arith, more);
        root = longer.same 0 (omega (arith, known, g.some)) ∙ g.root;
        few = subst (λ (n : ℕ). n * stride_of t.width ≤ 2 ^ 31 - 1) (sym more) few;
        filled =
            grind arith;
        numbers = g.numbers;
        each = λ n d below. elim (cases_lt n (length states)) [
          | inl old ↦
              subst (IsStateAt (texts_of t) (words_in t (states ++ s ∷ [])) t.width lists n)
              (sym (old_at states s d n old))
              (state_longer (texts_of t) (words_in t states) (words_in t (states ++ s ∷ [])) t.width longer n
              (get_or states n d) lists lists (λ inside. (inside, refl)) (g.each n d old))
          | inr late ↦
              let last : length states ≡ n = omega (arith, more) in
              subst (IsStateAt (texts_of t) (words_in t (states ++ s ∷ [])) t.width lists n)
              (sym (get_or_push states s d n last))
              (subst (λ (m : ℕ). IsStateAt (texts_of t) (words_in t (states ++ s ∷ [])) t.width lists m s) last
              (state_longer (texts_of t) (words_in t states) (words_in t (states ++ s ∷ [])) t.width longer
              (length states) s lists lists (λ inside. (inside, refl)) is))
        ];
        led = grind (arith, rows_longer);
      }

  -- an index in the last row
  at_last : (rows last : List ℕ) (state n c : ℕ) → length rows ≡ state * stride_of t.width
      → length last ≡ stride_of t.width → c < stride_of t.width → length rows ≤ n * stride_of t.width + c
      → n * stride_of t.width + c < length (rows ++ last)
      → (state ≡ n) × (get_or (rows ++ last) (n * stride_of t.width + c) 0 ≡ get_or last c 0)
  at_last rows last state n c full long below late inside =
      let at = n * stride_of t.width + c in
      let more = length-append rows last in
      let same = same_from_place state (at - length rows) n c (stride_of t.width)
      (omega (arith, more, full, long, late, inside)) below (omega (arith, full, late)) in (
        same.0,
        get_or-append_right rows last (length rows) at 0 refl late ∙ ap (λ k. get_or last k 0) same.1,
      )

  -- a number leads on from a state with a symbol
  abbrev LeadsFrom : List State → ℕ → ℕ → ℕ → Type 0
  LeadsFrom states state symbol number =
      LeadsTo (texts_of t) (words_in t states) t.width number
      (live_suffix (texts_of t) (word_of (words_in t states) state ++ symbol ∷ []))

  -- one row more: for each symbol a number that leads on from a state, and behind these what ends there
  grown_row : (states : List State) (lists rows last : List ℕ) (state : ℕ)
      → IsConstruction t states lists rows → length rows ≡ state * stride_of t.width → state < length states
      → length last ≡ stride_of t.width
      → ((symbol : ℕ) → symbol < t.width → LeadsFrom states state symbol (get_or last symbol 0))
      → get_or last t.width 0 ≡ unwrap_or (ending (texts_of t) (word_of (words_in t states) state)) nothing
      → IsConstruction t states lists (rows ++ last)
  grown_row states lists rows last state g full is_state long leads ends =
      grind (arith, at_last, cases_lt, get_or_append_left, length-append, mul-add-lt)

  -- from a list of numbers for at least all symbols
  pub row_pushed : (states : List State) (lists rows longer row whole : List ℕ) (state : ℕ) (s : State)
      → IsConstruction t states lists rows → length rows ≡ state * stride_of t.width → state < length states
      → s ≡ get_or states state s → t.width < length row → whole ≡ take (t.width + 1) (set row t.width s.ending)
      → longer ≡ rows ++ whole
      → ((symbol : ℕ) → symbol < t.width → symbol < t.width → LeadsFrom states state symbol (get_or row symbol 0))
      → IsConstruction t states lists longer
  row_pushed states lists rows longer row whole state s g full is_state is long cut more on =
      let at = λ (symbol : ℕ) (below : symbol < t.width + 1).
      ap (λ l. get_or l symbol 0) cut ∙ get_or-take (t.width + 1) (set row t.width s.ending) symbol 0 below in
      subst (IsConstruction t states lists) (sym more)
      (grown_row states lists rows whole state g full is_state
      (ap (λ (l : List ℕ). length l) cut ∙ grind (arith, common_steps))
      (λ symbol below.
      let other : symbol ≢ t.width = omega arith in
      subst (LeadsFrom states state symbol) (sym (at symbol (omega arith)))
      (rw get_or-set_other (on symbol below below)))
      (at t.width (omega arith) ∙ (get_or-set_same row t.width s.ending 0 long
      ∙ grind (arith, common_steps, word_at))))

  -- the state of the empty word
  pub grown_start : (s : State) → AreTexts t → s.depth ≡ 0 → s.start ≡ 0 → s.end ≡ length t.patterns.now
      → s.ending ≡ nothing
      → IsConstruction t (s ∷ []) (range_with_len 0 (length t.patterns.now)) []
  grown_start s texts depth start end none =
      grind (arith, length-range_with_len, get_or-range_with_len, take_all, length-map, list_of_empty)

  -- where each state has its row, the rows recognise the patterns
  unfoldable pub recognises : (states : List State) (lists rows : List ℕ) → IsConstruction t states lists rows
      → length rows ≡ length states * stride_of t.width → Recognises (texts_of t) t.width rows
  recognises states lists rows g full =
      let known = words_length states in
      record {
        words = words_in t states;
        some = omega (arith, known, g.some);
        root = g.root;
        full = full ∙ ap (λ n. n * stride_of t.width) (sym known);
        few = omega (arith, full, g.few);
        leads = λ state symbol is_state is_symbol.
            g.led.leads state symbol is_symbol
            (let fits = mul-add-lt state (stride_of t.width) symbol (length states) (omega (arith, is_state, known))
            (omega arith)
            in omega (arith, fits, full));
        ends = λ state is_state.
            g.led.ends state
            (let fits = mul-add-lt state (stride_of t.width) t.width (length states) (omega (arith, is_state, known))
            (omega arith)
            in omega (arith, fits, full));
      }

-- words of states that stay the same
pub words_same : (g g' : Construction) → g'.texts ≡ g.texts → g'.states ≡ g.states → words_of g' ≡ words_of g
words_same g g' texts states = grind arith

module _ (t : Texts) (states : List State) (lists rows : List ℕ) (g : IsConstruction t states lists rows) where
  -- a number that leads to a state: its row
  pub row_of : (code : ℕ) (word : List ℕ) (to : LeadsTo (texts_of t) (words_in t states) t.width code word)
      → (to.state < length states) × (to.state * stride_of t.width < 2 ^ 31)
  row_of code word to = grind (arith, common_steps)

  failure_is : (n : ℕ) (d : State) → 0 < n → n < length states
      → HasFailure (texts_of t) (words_in t states) t.width n (get_or states n d)
  failure_is n d later below = (g.each n d below).failure_is later

  pub long_word : (n : ℕ) (d : State) → n < length states
      → length (word_of (words_in t states) n) ≡ (get_or states n d).depth
  long_word n d below = grind (arith, common_steps)

  -- and those of the word of a later state with one symbol more: they are in the row of its failure state
  pub link_row : (n : ℕ) (s : State) → 0 < n → n < length states → n * stride_of t.width ≤ length rows
      → s ≡ get_or states n s → (start : ℕ)
      → ((p : ℕ) (pattern : Option ℕ) → p < 2 ^ 31 → s.failure ≡ code_of p pattern → start ≡ p)
      → (start + t.width ≤ length rows)
      × ((symbol : ℕ) → symbol < t.width → LeadsTo (texts_of t) (words_in t states) t.width
      (get_or rows (start + symbol) 0) (failure_of (texts_of t) (word_of (words_in t states) n ++ symbol ∷ [])))
  link_row n s later below filled is start read =
      let link = failure_is n s later below in
      let word = word_of (words_in t states) n in
      let from = link.to.state in
      let row = row_of (get_or states n s).failure _ link.to in
      let at : start ≡ from * stride_of t.width = grind arith in
      let same : word_of (words_in t states) from ≡ failure_of (texts_of t) word =
      grind (arith, common_steps) in
      let whole = mul-add-lt from (stride_of t.width) t.width n link.earlier (omega arith) in (
        omega (arith, at, whole, filled),
        λ symbol is_symbol.
            let next : live_suffix (texts_of t) (word_of (words_in t states) from ++ symbol ∷ [])
            ≡ failure_of (texts_of t) (word ++ symbol ∷ []) =
            grind (arith, failure_push, long_word) in
            subst (λ p. LeadsTo (texts_of t) (words_in t states) t.width (get_or rows (p + symbol) 0)
            (failure_of (texts_of t) (word ++ symbol ∷ []))) (sym at)
            (subst (LeadsTo (texts_of t) (words_in t states) t.width _) next
            (g.led.leads from symbol is_symbol (omega (arith, whole, filled)))),
      )

  -- the ending of the state at which a number's row begins
  pub ending_by_start : (code start : ℕ) (s : State)
      → ((p : ℕ) (pattern : Option ℕ) → p < 2 ^ 31 → code ≡ code_of p pattern → start ≡ p)
      → s ≡ get_or states (start / stride_of t.width) s → (word : List ℕ)
      → LeadsTo (texts_of t) (words_in t states) t.width code word
      → s.ending ≡ unwrap_or (ending (texts_of t) word) nothing
  ending_by_start code start s start_of read word to =
      let at : start ≡ to.state * stride_of t.width + 0 =
      grind (arith, common_steps) in
      grind (arith, common_steps, div-mul-add)

  -- the list of a state
  pub list_at : (n : ℕ) (d : State) → n < length states
      → list_in lists (get_or states n d) ≡ list_for (texts_of t) (word_of (words_in t states) n)
  list_at n d below =
      (g.each n d below).listed ∙ ap (list_for (texts_of t)) (sym (word_at t states n d below))

  -- the symbols with which the patterns of a state's list go on
  pub after_is : (n : ℕ) (s : State) → n < length states → s ≡ get_or states n s
      → map (λ i. get_or (pattern_at (texts_of t) i) s.depth 256) (list_in lists s)
      ≡ symbols_after (texts_of t) (word_of (words_in t states) n)
  after_is n s below is = grind (arith, list_at, long_word)

-- a number more in a row, behind words that may be more
module _ (g g' : Construction) (state class code : ℕ) (row : List ℕ) (texts : g'.texts ≡ g.texts)
    (kept : IsLonger (words_of g) (words_of g')) (is_state : state < length (words_of g))
    (inside : class < length row) where
  same_word : word_of (words_of g') state ≡ word_of (words_of g) state
  same_word = kept.same state is_state

  pub put_on : LeadsTo (texts_of g.texts) (words_of g') g.texts.width code
      (live_suffix (texts_of g.texts) (word_after g state class))
      → LeadOn g state class row → LeadOn g' state (class + 1) (set row class code)
  put_on leads on =
      subst (λ (t : Texts). (symbol : ℕ) → symbol < class + 1 → symbol < t.width
      → LeadsTo (texts_of t) (words_of g') t.width (get_or (set row class code) symbol 0)
      (live_suffix (texts_of t) (word_of (words_of g') state ++ symbol ∷ []))) (sym texts)
      (λ symbol before is_symbol. subst (λ w. LeadsTo (texts_of g.texts) (words_of g') g.texts.width
      (get_or (set row class code) symbol 0) (live_suffix (texts_of g.texts) (w ++ symbol ∷ []))) (sym same_word)
      (elim (cases_lt symbol class) [
        | inl early ↦
            let other : symbol ≢ class = omega arith in
            rw get_or-set_other (to_longer (texts_of g.texts) (words_of g) (words_of g') g.texts.width kept _ _
            (on symbol early is_symbol))
        | inr late ↦
            let at : symbol ≡ class = omega arith in
            grind (arith, common_steps)
      ]))

  pub put_back : LeadBack g state class row → LeadBack g' state (class + 1) (set row class code)
  put_back back =
      subst (λ (t : Texts). (symbol : ℕ) → class + 1 ≤ symbol → symbol < t.width
      → LeadsTo (texts_of t) (words_of g') t.width (get_or (set row class code) symbol 0)
      (failure_of (texts_of t) (word_of (words_of g') state ++ symbol ∷ []))) (sym texts)
      (λ symbol late is_symbol. subst (λ w. LeadsTo (texts_of g.texts) (words_of g') g.texts.width
      (get_or (set row class code) symbol 0) (failure_of (texts_of g.texts) (w ++ symbol ∷ []))) (sym same_word)
      (let other : symbol ≢ class = omega arith in
      rw get_or-set_other (to_longer (texts_of g.texts) (words_of g) (words_of g') g.texts.width kept _ _
      (back symbol (omega arith) is_symbol))))

-- the numbers of a row lead on for more symbols: no pattern goes on with those from one to the next
pub passed_over : (g : Construction) (state from next : ℕ) (row symbols : List ℕ)
    → symbols ≡ symbols_after (texts_of g.texts) (word_of (words_of g) state) → g.texts.width ≤ 256
    → ((k : ℕ) → k < length symbols → from ≤ get_or symbols k 0 → next ≤ get_or symbols k 0)
    → LeadOn g state from row → LeadBack g state from row → LeadOn g state next row
passed_over g state from next row symbols are few none on back symbol before is_symbol =
    grind (arith, cases_lt, live_unbegun, none_listed, unbegun_by_list)

-- what ends with a word with one symbol more
pub ending_push : (patterns : List (List ℕ)) (word : List ℕ) (symbol : ℕ)
    → let text = word ++ symbol ∷ [] in
    unwrap_or (first_equal patterns text) (unwrap_or (ending patterns (failure_of patterns text)) nothing)
    ≡ unwrap_or (ending patterns text) nothing
ending_push patterns word symbol =
    let text = word ++ symbol ∷ [] in
    by_first (first_equal patterns text)
    ∙ sym (grind (arith, ending_next, length-append))
  where
    by_first : (o : Option ℕ)
        → unwrap_or o (unwrap_or (ending patterns (failure_of patterns (word ++ symbol ∷ []))) nothing)
        ≡ unwrap_or (option_or o (ending patterns (failure_of patterns (word ++ symbol ∷ [])))) nothing
    by_first None = refl
    by_first (Some i) = refl

-- a state with a word
pub new_state : (patterns words : List (List ℕ)) (width : ℕ) (lists : List ℕ) (n : ℕ) (s : State)
    (word : List ℕ) → length words ≡ n → word_in patterns s ≡ word → 0 < s.depth → s.depth ≤ n
    → s.depth ≤ length (pattern_at patterns s.pattern) → s.start ≤ s.end → s.end ≤ length lists
    → list_in lists s ≡ list_for patterns word → s.ending ≡ unwrap_or (ending patterns word) nothing
    → LeadsTo patterns words width s.failure (failure_of patterns word) → IsStateAt patterns words width lists n s
new_state patterns words width lists n s word known is some shallow prefix ordered inside listed ended leads =
    record {
      shallow = shallow;
      prefix = prefix;
      ordered = ordered;
      inside = inside;
      listed = listed ∙ ap (list_for patterns) (sym is);
      ended = ended ∙ ap (λ w. unwrap_or (ending patterns w) nothing) (sym is);
      failure_is = λ later.
          let to = subst (λ w. LeadsTo patterns words width s.failure (failure_of patterns w)) (sym is) leads in
          record { some = some; to = to; earlier = omega (arith, to.is_state, known) };
    }

-- what ends with a text is no `nothing`
pub ending_is_small : (t : Texts) (states : List State) (lists rows : List ℕ) → IsConstruction t states lists rows
    → (text : List ℕ) → IfSome (ending (texts_of t) text) (λ i. i < nothing)
ending_is_small t states lists rows g text =
    IfSome_then (ending (texts_of t) text) (ending_is_pattern (texts_of t) text)
    (grind (arith, length-map))
