-- Walks over the bytes of patterns, by their rows.
use Rattle.std.proofs.Common.{◌≡◌, ℕ, ◌+◌, ◌-◌, ◌<◌, ◌≤◌, ◌^◌, List, [], ◌∷◌, ◌++◌, length, get_or, take, drop, inl}
use Rattle.std.proofs.Common.{inr, ◌⊎◌, sym, subst, arith}
use Rattle.std.proofs.lemmas.List.{get_or-map, length-map}
use Rattle.std.specs.Global.{Vec}
use Rattle.std.specs.Option.{unwrap_or}
use Rattle.literal_base.specs.Occurs.{pattern_at}
use Rattle.literal_rows.specs.Inside.Classes.{symbols_in}
use Rattle.literal_rows.specs.Inside.Lists.{HasReadText, Recognise, symbols_of}
use Rattle.literal_rows.specs.Inside.Walk.{IsAt}
use Rattle.literal_rows.specs.Table.{Recognises, nothing}
use Rattle.literal_rows.specs.Words.{ending}
use Rattle.literal_rows.specs.declared.suffixes.Recognised.{Recognised}
use Rattle.literal_rows.proofs.lemmas.Walk.{at_with_end, at_without_end, ends_at, row_at, slice_push}

-- there are the symbols of each pattern, and so few
pub symbols_count : (r : Recognised) → length (symbols_of r) ≡ length r.patterns.now
symbols_count r = grind (arith, length-map)

pub symbols_few : (r : Recognised) → Recognise r → length (symbols_of r) ≤ 2 ^ 31 - 1
symbols_few r recognise = omega (arith, symbols_count r, recognise.few)

module _ (r : Recognised) (recognise : Recognise r) where
  -- the symbols of a pattern that was read
  pub symbols_are : (pattern : ℕ) (read : Vec ℕ) → pattern < length r.patterns.now
      → read ≡ get_or r.patterns.now pattern read
      → pattern_at (symbols_of r) pattern ≡ symbols_in r.classes.now read.items
  symbols_are pattern read below is = grind (arith, get_or-map)

  -- one symbol more
  module _ (text : List ℕ) (row symbol code : ℕ) (behind : HasReadText r row text) (below : symbol < r.width)
      (code_is : code ≡ get_or r.rows.now (row + symbol) 0)
    where
      pub stands_on : (next : ℕ) → ((code < 2 ^ 31) × (next ≡ code)) ⊎ ((2 ^ 31 ≤ code) × (next ≡ code - 2 ^ 31))
          → HasReadText r next (text ++ symbol ∷ [])
      stands_on next way = record {
        is_row = row_at (symbols_of r) r.width r.rows.now recognise.recognises (text ++ symbol ∷ []) next
            (by way recognise.recognises);
        at = by way;
      }
        where
          by : ((code < 2 ^ 31) × (next ≡ code)) ⊎ ((2 ^ 31 ≤ code) × (next ≡ code - 2 ^ 31))
              → (recognises : Recognises (symbols_of r) r.width r.rows.now)
              → IsAt (symbols_of r) r.width r.rows.now recognises (text ++ symbol ∷ []) next
          by (inl small) recognises =
              subst (λ n. IsAt (symbols_of r) r.width r.rows.now recognises (text ++ symbol ∷ []) n)
              (sym small.1) (at_without_end (symbols_of r) r.width r.rows.now recognises text row
              (behind.at recognises) symbol below code code_is small.0).0
          by (inr large) recognises =
              subst (λ n. IsAt (symbols_of r) r.width r.rows.now recognises (text ++ symbol ∷ []) n)
              (sym large.1) (at_with_end (symbols_of r) r.width r.rows.now recognises text row
              (behind.at recognises) symbol below code code_is large.0).0

  -- what ends where a walk stands
  pub ends_there : (text : List ℕ) (row : ℕ) → HasReadText r row text
      → get_or r.rows.now (row + r.width) 0 ≡ unwrap_or (ending (symbols_of r) text) nothing
  ends_there text row behind =
      ends_at (symbols_of r) r.width r.rows.now recognise.recognises text row
      (behind.at recognise.recognises)

  -- a symbol more of a pattern that was read
  pub pattern_push : (pattern from at : ℕ) (read : Vec ℕ) → pattern < length r.patterns.now
      → read ≡ get_or r.patterns.now pattern read → from ≤ at → at < length read.items
      → take (at + 1 - from) (drop from (pattern_at (symbols_of r) pattern))
      ≡ take (at - from) (drop from (pattern_at (symbols_of r) pattern))
      ++ get_or r.classes.now (get_or read.items at 0) 0 ∷ []
  pattern_push pattern from at read below is after inside = grind (arith, length-map, slice_push, get_or-map)
