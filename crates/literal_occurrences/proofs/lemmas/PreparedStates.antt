-- States after a text by an array that is lent, and walks from them.
use Rattle.std.proofs.Common.{◌≡◌, ℕ, ◌+◌, ◌-◌, ◌*◌, ◌%◌, ◌<◌, ◌≤◌, ◌^◌, List, [], ◌∷◌, ◌++◌, length, get_or, Option}
use Rattle.std.proofs.Common.{None, Some, ap, append-nil, append_assoc, arith, inl, inr, refl, slice_range, subst, sym}
use Rattle.std.proofs.Common.{◌∙◌, Err, Ok, Result}
use Rattle.std.proofs.lemmas.Bool.{cases_lt}
use Rattle.std.specs.Borrow.{Bor}
use Rattle.std.specs.Result.{IsOkAnd}
use Rattle.literal_base.specs.Occurs.{whole_of}
use Rattle.literal_occurrences.specs.Automaton.{AreAtEnd, IsStateAfter}
use Rattle.literal_rows.specs.Inside.Classes.{AreClasses, symbols_in}
use Rattle.literal_occurrences.specs.PreparedOverlapping.{AreTables, Tables, texts_in}
use Rattle.literal_occurrences.specs.PreparedStates.{EndsAfter}
use Rattle.literal_rows.specs.Table.{code_of, stride_of}
use Rattle.literal_rows.specs.Words.{ending}
use Rattle.literal_rows.specs.declared.damaged.Damaged.{Damaged}
use Rattle.literal_occurrences.proofs.lemmas.Automaton.{IsRowOf, list_inside, list_ordered, listed_end, named_below}
use Rattle.literal_occurrences.proofs.lemmas.Automaton.{none_end, one_ends, row_within, steps}
use Rattle.literal_rows.proofs.lemmas.Behind.{ending_by_live}
use Rattle.literal_rows.proofs.lemmas.Walk.{row_fits, slice_push}

module _ (t : Tables) (are : AreTables t) (text : List ℕ) (state : ℕ) (is : IsStateAfter t text state) where
  abbrev symbols : List ℕ
  symbols = symbols_in t.classes text

  -- the number of a state has 32 bits
  pub state_small : state < 2 ^ 32
  state_small = by (ending (texts_in t) symbols) refl
    where
      by : (o : Option ℕ) → ending (texts_in t) symbols ≡ o → state < 2 ^ 32
      by None none =
          let to = is.leads are.recognises in
          let fits = row_fits (texts_in t) t.width t.rows are.recognises to.state to.is_state in
          let few = are.recognises.few in
          let code = to.code_is
          ∙ ap (code_of (to.state * stride_of t.width)) (sym (ending_by_live (texts_in t) symbols) ∙ none) in
          omega arith
      by (Some first) some =
          let to = is.leads are.recognises in
          let fits = row_fits (texts_in t) t.width t.rows are.recognises to.state to.is_state in
          let few = are.recognises.few in
          let code = to.code_is
          ∙ ap (code_of (to.state * stride_of t.width)) (sym (ending_by_live (texts_in t) symbols) ∙ some) in
          omega arith

  -- and without the highest bit it is the index of its row
  pub row_by : (row : ℕ) → row ≡ state % 2 ^ 31 → IsRowOf state row
  row_by row row_is = grind (arith, cases_lt, state_small)

  pub has_row : state % 2 ^ 31 < length t.rows
  has_row = let within = row_within t are text state is (state % 2 ^ 31) (row_by (state % 2 ^ 31) refl) in omega arith

  -- the list of the longest pattern there, as a part of an array, has all patterns that end with the text
  module _ (row : ℕ) (row_is : row ≡ state % 2 ^ 31) (large : 2 ^ 31 ≤ state) where
    at_row : row ≡ state - 2 ^ 31
    at_row = let few = state_small in omega arith

    pub listed : (starts ends : List ℕ) (pattern : ℕ) → starts ≡ t.starts → ends ≡ t.ends
        → pattern ≡ get_or t.rows (row + t.width) 0 → (result : Result (Bor (List ℕ)) Damaged)
        → (pattern + 1 < length starts → get_or starts pattern 0 ≤ get_or starts (pattern + 1) 0
        → get_or starts (pattern + 1) 0 ≤ length ends
        → IsOkAnd result (λ list. list.now
        ≡ slice_range ends (get_or starts pattern 0) (get_or starts (pattern + 1) 0)))
        → IsOkAnd result (λ all. AreAtEnd t.patterns t.ignore_case text (whole_of text) all.now)
    listed starts ends pattern starts_are ends_are pattern_is (Ok all) given =
        let below = named_below t are text state is row large at_row in
        let list = given (grind (arith, are.lists.long))
        (grind (arith, list_ordered t are text state is row large at_row))
        (grind (arith, list_inside t are text state is row large at_row)) in
        let same : all.now ≡ slice_range t.ends (get_or t.starts (get_or t.rows (row + t.width) 0) 0)
        (get_or t.starts (get_or t.rows (row + t.width) 0 + 1) 0) = cc in
        subst (AreAtEnd t.patterns t.ignore_case text (whole_of text)) (sym same)
        (listed_end t are text state is row large at_row)
    listed starts ends pattern starts_are ends_are pattern_is (Err error) given =
        grind (arith, at_row, list_inside, list_ordered, named_below)

-- a walk that has read the bytes of a haystack from an offset on after a text is in a state, and no pattern has ended
-- since
pub record HasWalked (t : Tables) (text haystack : List ℕ) (start at state : ℕ) : Type 0 where
  pub is : IsStateAfter t (text ++ slice_range haystack start at) state
  pub none : (end : ℕ) → start < end → end ≤ at → ¬ EndsAfter t text haystack start end

-- the state in which a walk began, or one in which no pattern ends, and the row of either
pub record WalksAt (t : Tables) (text haystack : List ℕ) (start first at row : ℕ) : Type 0 where
  pub number : ℕ
  pub walked : HasWalked t text haystack start at number
  pub row_is : IsRowOf number row
  pub begun : at ≡ start → number ≡ first
  pub further : start < at → number ≡ row

module _ (t : Tables) (are : AreTables t) (text haystack : List ℕ) (start : ℕ) where
  pub walks_none : (state row : ℕ) → IsStateAfter t text state → row ≡ state % 2 ^ 31
      → WalksAt t text haystack start state start row
  walks_none state row is row_is = grind (arith, append-nil, row_by)

  -- with one byte more
  module _ (first at row : ℕ) (after : start ≤ at) (inside : at < length haystack)
      (walks : WalksAt t text haystack start first at row) (small : get_or haystack at 0 < 256) (code : ℕ)
      (code_if : row + t.width < length t.rows
      → code ≡ get_or t.rows (row + get_or t.classes (get_or haystack at 0) 0) 0)
    where
      pub walked_to : IsStateAfter t (text ++ slice_range haystack start (at + 1)) code
      walked_to = subst (λ (l : List ℕ). IsStateAfter t l code)
          (sym (ap (λ l. text ++ l) (slice_push haystack start at after inside)
          ∙ sym (append_assoc text (slice_range haystack start at) (get_or haystack at 0 ∷ []))))
          (steps t are (text ++ slice_range haystack start at) walks.number walks.walked.is row walks.row_is
          (get_or haystack at 0) code small
          (code_if (row_within t are (text ++ slice_range haystack start at) walks.number walks.walked.is row
          walks.row_is)))

      pub walked_on : code < 2 ^ 31 → WalksAt t text haystack start first (at + 1) code
      walked_on low = record {
        number = code;
        walked = record {
          is = walked_to;
          none = λ end after upto ends. elim (cases_lt at end) [
            | inl last ↦ let end_is : end ≡ at + 1 = omega arith in
                let one = subst (EndsAfter t text haystack start) end_is ends in
                none_end t are (text ++ slice_range haystack start (at + 1)) code walked_to low one.0 one.1
            | inr before ↦ walks.walked.none end after before ends
          ];
        };
        row_is = inl (low, refl);
        begun = λ is. absurd (omega arith);
        further = λ _. refl;
      }

      pub walked_end : 2 ^ 31 ≤ code → EndsAfter t text haystack start (at + 1)
      walked_end high = one_ends t are (text ++ slice_range haystack start (at + 1)) code walked_to high

-- the number for a byte, by the parts of a table that are those of an array
pub code_in : (classes classes' rows rows' : List ℕ) (width width' row byte code : ℕ) → classes ≡ classes'
    → width ≡ width' → rows ≡ rows' → AreClasses classes' width'
    → (AreClasses classes width → row + width < length rows → code ≡ get_or rows (row + get_or classes byte 0) 0)
    → row + width' < length rows' → code ≡ get_or rows' (row + get_or classes' byte 0) 0
code_in classes classes' rows rows' width width' row byte code a b c are given = grind arith
