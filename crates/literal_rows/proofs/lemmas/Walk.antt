-- A walk through rows that recognise patterns.
use Rattle.std.proofs.Common.{◌≡◌, ℕ, ◌+◌, ◌*◌, ◌-◌, ◌<◌, ◌≤◌, ◌^◌, List, [], ◌∷◌, ◌++◌, length, get_or}
use Rattle.std.proofs.Common.{Option, Some, None, inl, inr, ◌⊎◌, take, drop}
use Rattle.std.proofs.Common.{append_assoc, refl, sym, ap, subst, ◌∙◌, arith}
use Rattle.std.proofs.lemmas.Bool.{cases_lt}
use Rattle.std.proofs.lemmas.List.{drop-drop, drop-take, get_or-drop, length-drop, length-map, length-take, map-append}
use Rattle.std.proofs.lemmas.List.{take-append-drop, take-take, take_more}
use Rattle.std.specs.List.{slice_range}
use Rattle.std.specs.Borrow.{Bor}
use Rattle.std.specs.Option.{unwrap_or}
use Rattle.std.specs.Slice.{IsItemAt}
use Rattle.literal_base.specs.Occurs.{between}
use Rattle.literal_rows.specs.Inside.Classes.{symbols_in}
use Rattle.literal_rows.specs.Inside.Walk.{IsAt, IsFirstEnd, IsRow, NoneEnds, WalksOn, read_to, text_of}
use Rattle.literal_rows.specs.Table.{LeadsTo, Recognises, code_of, nothing, stride_of}
use Rattle.literal_rows.specs.Words.{ending, live_suffix}
use Rattle.literal_rows.proofs.lemmas.Behind.{ending_by_live}
use Rattle.literal_rows.proofs.lemmas.Live.{live_push}

-- each row lies in the rows
pub row_fits : (patterns : List (List ℕ)) (width : ℕ) (rows : List ℕ) (recognises : Recognises patterns width rows)
    (state : ℕ) → state < length recognises.words → state * stride_of width + stride_of width ≤ length rows
row_fits patterns width rows recognises state below = grind arith

-- what ends where a walk stands
pub ends_at : (patterns : List (List ℕ)) (width : ℕ) (rows : List ℕ) (recognises : Recognises patterns width rows)
    (text : List ℕ) (row : ℕ)
    → IsAt patterns width rows recognises text row
    → get_or rows (row + width) 0 ≡ unwrap_or (ending patterns text) nothing
ends_at patterns width rows recognises text row at = grind (arith, ending_by_live)

-- where the number for a symbol in a row leads, for a walk in that row
module _ (patterns : List (List ℕ)) (width : ℕ) (rows : List ℕ) (recognises : Recognises patterns width rows)
    (text : List ℕ) (row : ℕ) (at : IsAt patterns width rows recognises text row) (symbol : ℕ)
    (below : symbol < width) (code : ℕ) (code_is : code ≡ get_or rows (row + symbol) 0)
  where
    pub leads_on : LeadsTo patterns recognises.words width code (live_suffix patterns (text ++ symbol ∷ []))
    leads_on = grind (arith, live_push)

    leads_by : (ends : Option ℕ) → ending patterns (text ++ symbol ∷ []) ≡ ends
        → code ≡ code_of (leads_on.state * stride_of width) ends
    leads_by ends is = grind (arith, ending_by_live, leads_on)

    stands : (next : ℕ) → next ≡ leads_on.state * stride_of width
        → IsAt patterns width rows recognises (text ++ symbol ∷ []) next
    stands next is = grind (arith, leads_on)

    -- a number below 2^31 leads to a state with whose word nothing ends
    pub at_without_end : code < 2 ^ 31
        → IsAt patterns width rows recognises (text ++ symbol ∷ []) code
        × (ending patterns (text ++ symbol ∷ []) ≡ None)
    at_without_end is_small = by_ending (ending patterns (text ++ symbol ∷ [])) refl
      where
        by_ending : (o : Option ℕ) → ending patterns (text ++ symbol ∷ []) ≡ o
            → IsAt patterns width rows recognises (text ++ symbol ∷ []) code
            × (ending patterns (text ++ symbol ∷ []) ≡ None)
        by_ending None ends = (stands code (leads_by None ends), ends)
        by_ending (Some i) ends = absurd (omega (arith, leads_by (Some i) ends))

    -- one from 2^31 on leads to a state with whose word a pattern ends
    pub at_with_end : 2 ^ 31 ≤ code
        → IsAt patterns width rows recognises (text ++ symbol ∷ []) (code - 2 ^ 31)
        × (ending patterns (text ++ symbol ∷ []) ≡ Some (get_or rows (code - 2 ^ 31 + width) 0))
    at_with_end is_large = by_ending (ending patterns (text ++ symbol ∷ [])) refl
      where
        by_ending : (o : Option ℕ) → ending patterns (text ++ symbol ∷ []) ≡ o
            → IsAt patterns width rows recognises (text ++ symbol ∷ []) (code - 2 ^ 31)
            × (ending patterns (text ++ symbol ∷ []) ≡ Some (get_or rows (code - 2 ^ 31 + width) 0))
        by_ending None ends =
            let fits = row_fits patterns width rows recognises leads_on.state leads_on.is_state in
            let few = recognises.few in
            absurd (omega (arith, leads_by None ends))
        by_ending (Some i) ends =
            let row_is : code - 2 ^ 31 ≡ leads_on.state * stride_of width = omega (arith, leads_by (Some i) ends) in
            let on = stands (code - 2 ^ 31) row_is in
            let pattern_is : get_or rows (code - 2 ^ 31 + width) 0 ≡ i =
            ends_at patterns width rows recognises (text ++ symbol ∷ []) (code - 2 ^ 31) on
            ∙ ap (λ o. unwrap_or o nothing) ends in
            (on, ends ∙ ap Some (sym pattern_is))

-- a part of a text in two
pub slice_halves : (text : List ℕ) (from at to : ℕ) → from ≤ at → at ≤ to
    → slice_range text from to ≡ slice_range text from at ++ slice_range text at to
slice_halves text from at to after before =
    let rest = drop from text in
    let n = at - from in
    let m = to - from in
    let at_is : from + n ≡ at = omega arith in
    sym (take-append-drop n (take m rest))
    ∙ (ap (λ l. l ++ drop n (take m rest)) (take-take n m rest (omega arith))
    ∙ ap (λ l. take n rest ++ l)
    (ap (λ k. drop n (take k rest)) (let whole : m ≡ n + (to - at) = omega arith in whole)
    ∙ (drop-take n (to - at) rest
    ∙ (ap (take (to - at)) (drop-drop n from text) ∙ ap (λ k. take (to - at) (drop k text)) at_is))))

-- and of the classes of a haystack's bytes
pub text_halves : (classes haystack : List ℕ) (from at to : ℕ) → from ≤ at → at ≤ to
    → text_of classes haystack (between from to)
    ≡ text_of classes haystack (between from at) ++ text_of classes haystack (between at to)
text_halves classes haystack from at to after before =
    ap (symbols_in classes) (slice_halves haystack from at to after before)
    ∙ map-append (λ byte. get_or classes byte 0) (slice_range haystack from at) (slice_range haystack at to)

pub slice_push : (text : List ℕ) (from at : ℕ) → from ≤ at → at < length text
    → slice_range text from (at + 1) ≡ slice_range text from at ++ get_or text at 0 ∷ []
slice_push text from at after inside =
    let long : (at + 1) - from ≡ (at - from) + 1 = omega arith in
    let at_is : from + (at - from) ≡ at = omega arith in
    grind (arith, get_or-drop, length-drop, take_more)

module _ (classes haystack : List ℕ) (start at : ℕ) (after : start ≤ at) (inside : at < length haystack) where
  -- the classes of the bytes up to the next one
  pub text_push : text_of classes haystack (between start (at + 1))
      ≡ text_of classes haystack (between start at) ++ get_or classes (get_or haystack at 0) 0 ∷ []
  text_push = grind (arith, map-append, slice_push)

  -- and of all bytes of a span
  pub text_split : (end : ℕ) → at < end
      → text_of classes haystack (between start end)
      ≡ text_of classes haystack (between start at)
      ++ get_or classes (get_or haystack at 0) 0 ∷ text_of classes haystack (between (at + 1) end)
  text_split end before =
      text_halves classes haystack start (at + 1) end (omega arith) (omega arith)
      ∙ (ap (λ l. l ++ text_of classes haystack (between (at + 1) end)) text_push
      ∙ append_assoc (text_of classes haystack (between start at)) (get_or classes (get_or haystack at 0) 0 ∷ [])
      (text_of classes haystack (between (at + 1) end)))

-- a walk that read nothing
pub at_start : (patterns : List (List ℕ)) (width : ℕ) (rows : List ℕ)
    (recognises : Recognises patterns width rows) → IsAt patterns width rows recognises [] 0
at_start patterns width rows recognises = grind arith

-- the row of where a walk stands lies in the rows
pub row_at : (patterns : List (List ℕ)) (width : ℕ) (rows : List ℕ)
    (recognises : Recognises patterns width rows) (text : List ℕ) (row : ℕ)
    → IsAt patterns width rows recognises text row → IsRow width rows row
row_at patterns width rows recognises text row at = grind (arith, row_fits)

pub text_length : (classes haystack : List ℕ) (start at : ℕ) → start ≤ at → at ≤ length haystack
    → start + length (text_of classes haystack (between start at)) ≡ at
text_length classes haystack start at after inside = grind (arith, length-drop, length-map, length-take)

-- what `get` answers, if it answers, is the number there
pub got_is : (numbers : List ℕ) (i : ℕ) (answer : Option (Bor ℕ)) (item : Bor ℕ) → IsItemAt numbers i answer
    → answer ≡ Some item → item.now ≡ get_or numbers i 0
got_is numbers i answer item is some = grind arith

-- a walk that stood at a row as it began to read
module _ (width : ℕ) (rows : List ℕ) (from : ℕ) (classes haystack : List ℕ) (start : ℕ) where
  read_push : (text : List ℕ) (at : ℕ) → start ≤ at → at < length haystack
      → read_to text classes haystack start (at + 1)
      ≡ read_to text classes haystack start at ++ get_or classes (get_or haystack at 0) 0 ∷ []
  read_push text at after inside = grind (arith, append_assoc, text_push)

  none_push : (patterns : List (List ℕ)) (text : List ℕ) (at : ℕ)
      → NoneEnds patterns text classes haystack start at
      → ending patterns (read_to text classes haystack start (at + 1)) ≡ None
      → NoneEnds patterns text classes haystack start (at + 1)
  none_push patterns text at none here end after upto = grind (arith, cases_lt)

  module _ (at row : ℕ) (walks : WalksOn width rows from classes haystack start at row) (after : start ≤ at)
      (inside : at < length haystack) (below : get_or classes (get_or haystack at 0) 0 < width) (code : ℕ)
      (code_if : row + width < length rows → code ≡ get_or rows (row + get_or classes (get_or haystack at 0) 0) 0)
    where
      number : (patterns : List (List ℕ)) (recognises : Recognises patterns width rows)
          (text : List ℕ) → IsAt patterns width rows recognises (read_to text classes haystack start at) row
          → code ≡ get_or rows (row + get_or classes (get_or haystack at 0) 0) 0
      number patterns recognises text stood = grind (arith, row_at)

      -- behind one byte more nothing ends
      pub walks_further : code < 2 ^ 31 → WalksOn width rows from classes haystack start (at + 1) code
      walks_further small patterns recognises text begins =
          let stood = walks patterns recognises text begins in
          let code_is = number patterns recognises text stood.0 in
          let on = at_without_end patterns width rows recognises (read_to text classes haystack start at) row
          stood.0 _ below code code_is small in
          let more = sym (read_push text at after inside) in (
            subst (λ t. IsAt patterns width rows recognises t code) more on.0,
            none_push patterns text at stood.1 (subst (λ t. ending patterns t ≡ None) more on.1),
          )

      module _ (patterns : List (List ℕ)) (recognises : Recognises patterns width rows) (text : List ℕ)
          (begins : IsAt patterns width rows recognises text from)
        where
          -- something ends
          pub reaches_end : 2 ^ 31 ≤ code → IsFirstEnd patterns width rows recognises text
              classes haystack start (record { row = code - 2 ^ 31; end = at + 1 })
          reaches_end large =
              let stood = walks patterns recognises text begins in
              let code_is = number patterns recognises text stood.0 in
              let on = at_with_end patterns width rows recognises (read_to text classes haystack start at)
              row
              stood.0 _ below code code_is large in
              let more = sym (read_push text at after inside) in
              let last : at ≡ at + 1 - 1 = omega arith in
              grind arith

          -- the number leads to a row
          pub number_leads : ((code < 2 ^ 31) × IsRow width rows code)
              ⊎ ((2 ^ 31 ≤ code) × IsRow width rows (code - 2 ^ 31))
          number_leads =
              let stood = walks patterns recognises text begins in
              let code_is = number patterns recognises text stood.0 in
              let read = read_to text classes haystack start at in
              let next = read ++ get_or classes (get_or haystack at 0) 0 ∷ [] in
              elim (cases_lt code (2 ^ 31)) [
                | inl small ↦ inl (
                  small,
                  row_at patterns width rows recognises next code
                      (at_without_end patterns width rows recognises read row stood.0 _ below code code_is small).0,
                )
                | inr large ↦ inr (
                  large,
                  row_at patterns width rows recognises next (code - 2 ^ 31)
                      (at_with_end patterns width rows recognises read row stood.0 _ below code code_is large).0,
                )
              ]
