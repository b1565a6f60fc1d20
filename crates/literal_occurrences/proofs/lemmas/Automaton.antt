-- States of an automaton after a text, and which patterns end there.
use Rattle.std.proofs.lemmas.Grind.{get_or_default_zero}
use Rattle.std.proofs.Common.{◌≡◌, ◌⊎◌, ℕ, ◌+◌, ◌-◌, ◌*◌, ◌<◌, ◌≤◌, ◌^◌, List, [], ◌∷◌, ◌++◌, length, get_or, Bool}
use Rattle.std.proofs.Common.{Option, None, Some, inl, inr, ap, arith, length-append, refl, subst, sym, ◌∙◌}
use Rattle.std.proofs.Math.Seq.{get_or-append_seam}
use Rattle.std.proofs.lemmas.Bool.{cases_lt}
use Rattle.std.proofs.lemmas.List.{drop-drop, drop-take, get_or-drop, get_or-take, get_or_append_left, get_or_past}
use Rattle.std.proofs.lemmas.List.{length-map, map-append, take-take, take_all}
use Rattle.std.specs.List.{slice_range}
use Rattle.std.specs.Option.{unwrap_or}
use Rattle.literal_base.specs.Occurs.{IsValidSpan, NoneIsEmpty, between, pattern_at, whole_of}
use Rattle.literal_occurrences.specs.Automaton.{AreAtEnd, EndsText, IsStateAfter, OccursAtEnd}
use Rattle.literal_rows.specs.Inside.Classes.{symbols_in}
use Rattle.literal_rows.specs.Inside.Suffixes.{AreSuffixes, IsFirstSuffix, IsSuffix}
use Rattle.literal_rows.specs.Inside.Walk.{IsAt, text_of}
use Rattle.literal_occurrences.specs.PreparedOverlapping.{AreTables, Tables, texts_in}
use Rattle.literal_rows.specs.Table.{LeadsTo, Recognises, code_of, nothing, stride_of}
use Rattle.literal_rows.specs.Words.{ending, live_suffix}
use Rattle.literal_rows.proofs.lemmas.Behind.{ending_by_live}
use Rattle.literal_rows.proofs.lemmas.EndsFound.{end_occurs, occurrence_ends}
use Rattle.literal_rows.proofs.lemmas.FirstSuffix.{ends_of_first, ends_on, first_ends, first_is_own, none_ends}
use Rattle.literal_rows.proofs.lemmas.Found.{some_symbols}
use Rattle.literal_rows.proofs.lemmas.Arrays.{length_part}
use Rattle.literal_rows.proofs.lemmas.Walk.{ends_at, leads_on, row_fits}

-- the state before any text
pub starts_empty : (t : Tables) → IsStateAfter t [] 0
starts_empty t = grind arith

bytes_more : (text : List ℕ) (byte : ℕ) → ((i : ℕ) → get_or text i 0 < 256) → byte < 256
    → (i : ℕ) → get_or (text ++ byte ∷ []) i 0 < 256
bytes_more text byte bytes small i =
    let one = get_or-append_seam text byte [] 0 in
    let past = get_or_past (text ++ byte ∷ []) i 0 in
    let long = length-append text (byte ∷ []) in
    grind (arith, cases_lt, get_or_append_left)

-- where the row of a state begins
abbrev pub IsRowOf : ℕ → ℕ → Type 0
IsRowOf state row = ((state < 2 ^ 31) × (row ≡ state)) ⊎ ((2 ^ 31 ≤ state) × (row ≡ state - 2 ^ 31))

module _ (t : Tables) (are : AreTables t) (text : List ℕ) (state : ℕ) (is : IsStateAfter t text state) where
  abbrev symbols : List ℕ
  symbols = symbols_in t.classes text

  -- a pattern ends with the text exactly if the number says so
  none_below : state < 2 ^ 31 → ending (texts_in t) symbols ≡ None
  none_below small = by (ending (texts_in t) symbols) refl
    where
      by : (o : Option ℕ) → ending (texts_in t) symbols ≡ o → ending (texts_in t) symbols ≡ None
      by None none = none
      by (Some first) some =
          let to = is.leads are.recognises in
          let code = to.code_is
          ∙ ap (code_of (to.state * stride_of t.width)) (sym (ending_by_live (texts_in t) symbols) ∙ some) in
          absurd (omega arith)

  some_above : 2 ^ 31 ≤ state → (first : ℕ) × (ending (texts_in t) symbols ≡ Some first)
  some_above large = by (ending (texts_in t) symbols) refl
    where
      by : (o : Option ℕ) → ending (texts_in t) symbols ≡ o → (first : ℕ) × (ending (texts_in t) symbols ≡ Some first)
      by None none =
          let to = is.leads are.recognises in
          let fits = row_fits (texts_in t) t.width t.rows are.recognises to.state to.is_state in
          let few = are.recognises.few in
          let code = to.code_is
          ∙ ap (code_of (to.state * stride_of t.width)) (sym (ending_by_live (texts_in t) symbols) ∙ none) in
          absurd (omega arith)
      by (Some first) some = (first, some)

  module _ (row : ℕ) (row_is : IsRowOf state row) where
    pub stands_at_row : (recognises : Recognises (texts_in t) t.width t.rows)
        → IsAt (texts_in t) t.width t.rows recognises symbols row
    stands_at_row recognises =
        let to = is.leads recognises in
        let fits = row_fits (texts_in t) t.width t.rows recognises to.state to.is_state in
        let few = recognises.few in
        record { state = to.state; is_state = to.is_state; row_is = grind arith; live_suffix = sym to.word_is }

    pub row_within : row + t.width < length t.rows
    row_within =
        let at = stands_at_row are.recognises in
        let fits = row_fits (texts_in t) t.width t.rows are.recognises at.state at.is_state in
        omega (arith, at.row_is)

    -- the state after one byte more
    pub steps : (byte code : ℕ) → byte < 256 → code ≡ get_or t.rows (row + get_or t.classes byte 0) 0
        → IsStateAfter t (text ++ byte ∷ []) code
    steps byte code small code_is =
        let more = map-append (λ byte. get_or t.classes byte 0) text (byte ∷ []) in
        record {
          bytes = bytes_more text byte is.bytes small;
          leads = λ recognises. subst
              (λ (s : List ℕ). LeadsTo (texts_in t) recognises.words t.width code (live_suffix (texts_in t) s))
              (sym more) (leads_on (texts_in t) t.width t.rows recognises symbols row (stands_at_row recognises)
              (get_or t.classes byte 0) (are.classes.below byte small) code code_is);
        }

  -- patterns that are a suffix of the text
  read_whole : text_of t.classes text (between 0 (length text)) ≡ symbols
  read_whole = ap (symbols_in t.classes) (take_all (length text - 0) text (omega arith))

  valid : IsValidSpan text (whole_of text)
  valid = record { ordered = omega arith; in_haystack = omega arith }

  ends_text : (i : ℕ) → IsSuffix (texts_in t) symbols i → EndsText t text i
  ends_text i suffix =
      let one = end_occurs t.ignore_case t.classes t.patterns are.tells are.kept.some text is.bytes (whole_of text)
      valid 0 (length text) i (omega arith) (omega arith) (omega arith)
      (subst (λ (s : List ℕ). IsSuffix (texts_in t) s i) (sym read_whole) suffix) in
      (length text - length (pattern_at t.patterns i), one.0, sym one.1)

  is_suffix : (i : ℕ) → EndsText t text i → IsSuffix (texts_in t) symbols i
  is_suffix i (start, occurs, whole) =
      subst (λ (s : List ℕ). IsSuffix (texts_in t) s i) read_whole
      (occurrence_ends t.ignore_case t.classes t.patterns are.tells are.kept.some text is.bytes (whole_of text) valid
      0 i start (length text) (omega arith) (sym whole) occurs)

  some_texts : NoneIsEmpty (texts_in t)
  some_texts = some_symbols t.classes t.patterns are.kept.some

  pub none_end : state < 2 ^ 31 → (i : ℕ) → ¬ EndsText t text i
  none_end small i ends = none_ends (texts_in t) some_texts symbols (none_below small) i (is_suffix i ends)

  pub ends_above : (i : ℕ) → EndsText t text i → 2 ^ 31 ≤ state
  ends_above i ends = elim (cases_lt state (2 ^ 31)) [
    | inl small ↦ absurd (none_end small i ends)
    | inr large ↦ large
  ]

  first_there : (first : ℕ) → ending (texts_in t) symbols ≡ Some first → IsFirstSuffix (texts_in t) symbols first
  first_there = first_ends (texts_in t) some_texts symbols

  pub one_ends : 2 ^ 31 ≤ state → (i : ℕ) × EndsText t text i
  one_ends large =
      let one = some_above large in
      (one.0, ends_text one.0 (first_there one.0 one.1).is)

  -- the list of the pattern that the row names
  module _ (row : ℕ) (large : 2 ^ 31 ≤ state) (row_is : row ≡ state - 2 ^ 31) where
    abbrev longest : ℕ
    longest = get_or t.rows (row + t.width) 0

    is_first : IsFirstSuffix (texts_in t) symbols longest
    is_first =
        let one = some_above large in
        let at = stands_at_row row (inr (large, row_is)) are.recognises in
        let named : longest ≡ one.0 = ends_at (texts_in t) t.width t.rows are.recognises symbols row at
        ∙ ap (λ o. unwrap_or o nothing) one.1 in
        subst (IsFirstSuffix (texts_in t) symbols) (sym named) (first_there one.0 one.1)

    pub named_below : longest < length t.patterns
    named_below = omega (arith, is_first.is.is_pattern, length-map t.patterns (symbols_in t.classes))

    list : AreSuffixes (texts_in t) (pattern_at (texts_in t) longest) 0 t.ends (get_or t.starts longest 0)
        (get_or t.starts (longest + 1) 0)
    list = are.lists.each longest named_below (first_is_own (texts_in t) some_texts symbols longest is_first)

    -- which lies in the lists
    pub list_ordered : get_or t.starts longest 0 ≤ get_or t.starts (longest + 1) 0
    list_ordered = are.lists.ordered longest named_below

    pub list_inside : get_or t.starts (longest + 1) 0 ≤ length t.ends
    list_inside = are.lists.inside (longest + 1) (omega (arith, named_below))

    abbrev from : ℕ
    from = get_or t.starts longest 0

    abbrev part : List ℕ
    part = slice_range t.ends from (get_or t.starts (longest + 1) 0)

    -- and has all that end with the text
    pub listed_end : AreAtEnd t.patterns t.ignore_case text (whole_of text)
        (slice_range t.ends (get_or t.starts longest 0) (get_or t.starts (longest + 1) 0))
    listed_end = record {
      ascend = λ i j d before below.
          let less = list.ascends (from + i) (from + j) (omega arith) (omega arith) (omega (arith, long, below)) in
          omega (arith, at i d (omega arith), at j d below, less);
      each = λ k d below.
          let one = list.each (from + k) (omega arith) (omega (arith, long, below)) in
          subst (EndsText t text) (sym (at k d below)) (ends_text _ (of_text _ one.0));
      every = λ i ends.
          let suffix = ends_of_first (texts_in t) some_texts symbols longest is_first i (is_suffix i ends) in
          let one = list.every i suffix (omega arith) in
          let k = one.0 - from in
          let below : k < length part = omega (arith, long, one.1, one.2) in
          let index_is : from + k ≡ one.0 = omega (arith, one.1) in
          (k, below, at k i below ∙ (ap (λ n. get_or t.ends n 0) index_is ∙ one.3));
    }
      where
        long : length part ≡ get_or t.starts (longest + 1) 0 - from
        long = length_part t.ends from (get_or t.starts (longest + 1) 0) list_ordered list_inside

        at : (k d : ℕ) → k < length part → get_or part k d ≡ get_or t.ends (from + k) 0
        at k d below = grind (arith, get_or-drop, get_or-take, get_or_default_zero, long)

        of_text : (i : ℕ) → IsSuffix (texts_in t) (pattern_at (texts_in t) longest) i → IsSuffix (texts_in t) symbols i
        of_text i end = grind (arith, ends_on, is_first)

-- What occurs at the end of a part of a haystack.
module _ (patterns : List (List ℕ)) (ignore_case : Bool) (haystack : List ℕ) (from at : ℕ) (ordered : from ≤ at)
    (inside : at ≤ length haystack)
  where
    abbrev text : List ℕ
    text = slice_range haystack from at

    long_text : length text ≡ at - from
    long_text = length_part haystack from at ordered inside

    same_part : (start n : ℕ) → from + start + n ≤ at
        → slice_range text start (start + n) ≡ slice_range haystack (from + start) (from + start + n)
    same_part start n within =
        let sizes : at - from ≡ start + (at - from - start) = omega arith in
        grind (arith, drop-drop, drop-take, take-take)

    pub in_haystack : (i : ℕ) → OccursAtEnd patterns ignore_case text (whole_of text) i
        → OccursAtEnd patterns ignore_case haystack (between from at) i
    in_haystack i (start, o, whole) = grind (arith, at, long_text, same_part)

    pub in_part : (i : ℕ) → OccursAtEnd patterns ignore_case haystack (between from at) i
        → OccursAtEnd patterns ignore_case text (whole_of text) i
    in_part i (start, o, whole) =
        let begun = o.after_start in
        let start_is : from + (start - from) ≡ start = omega arith in
        let within : start - from + length (pattern_at patterns i) ≡ length text = omega (arith, whole, long_text) in (
          start - from,
          record {
            is_pattern = o.is_pattern;
            after_start = omega arith;
            before_end = omega arith;
            same = grind (arith, same_part);
          },
          within,
        )

    pub all_in_haystack : (all : List ℕ) → AreAtEnd patterns ignore_case text (whole_of text) all
        → AreAtEnd patterns ignore_case haystack (between from at) all
    all_in_haystack all are = grind (arith, in_haystack, in_part)
