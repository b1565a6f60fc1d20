-- The fields of a confirming search, and what a search by a table keeps between two searches.
use Rattle.std.specs.Prelude.{◌≡◌, ⊤, ℕ, ◌+◌, ◌<◌, ◌≤◌, false, List, [], ◌∷◌, Option, None, Some, IfSome, slice_index}
use Rattle.literal_base.specs.Occurs.{NoneIsEmpty}
use Rattle.literal_packed.specs.PatternsValue.{IsInOrder, query_of}
use Rattle.literal_prefilters.specs.ConfirmingValue.{ConfirmingValue}
use Rattle.literal_prefilters.specs.PrefilterValue.{CoveredBy, by_table, by_memmem, by_packed}
use Rattle.literal_prefilters.specs.declared.prefilter.confirming.Strategy.{Strategy}
use Rattle.literal_prefilters.specs.declared.prefilter.confirming.Strategy.TheVariants.{Memmem, Packed, Table}
use Rattle.literal_prefilters.specs.declared.prefilter.byte_table.TableByte.{TableByte}
use Rattle.literal_prefilters.specs.Table.{distance_of, is_in}

-- a `ConfirmingSearch` as callers see it, from its strategy
abbrev pub value_of_strategy : Strategy → ConfirmingValue
value_of_strategy (Memmem pattern kind) = record {
  query = record { kind = kind; patterns = pattern ∷ [] };
  ignore_case = false;
  prefilter = by_memmem pattern;
}
value_of_strategy (Packed query) = record { query = query; ignore_case = false; prefilter = by_packed query }
value_of_strategy (Table search) =
    record { query = query_of search.patterns; ignore_case = search.ignore_case; prefilter = by_table search.table }

-- the patterns that are tried are in match order
abbrev pub AreTriedInOrder : Strategy → Type 0
AreTriedInOrder (Memmem pattern kind) = ⊤
AreTriedInOrder (Packed query) = ⊤
AreTriedInOrder (Table search) = IsInOrder search.patterns

-- the invariant of a `ConfirmingSearch`
pub record IsReady (strategy : Strategy) : Type 0 where
  pub covered : CoveredBy (value_of_strategy strategy).prefilter (value_of_strategy strategy).query
      (value_of_strategy strategy).ignore_case
  pub not_empty : NoneIsEmpty (value_of_strategy strategy).query.patterns
  pub in_order : AreTriedInOrder strategy

-- the offset up to which the haystack was read, from the last table byte that was found
abbrev pub read_to : ℕ → Option TableByte → ℕ
read_to start None = start
read_to start (Some found) = found.place + 1

-- the kept byte is the first table byte from an offset on. Or it is before that offset, and all up to the offset was
-- read
pub record IsKept (table : List (Option ℕ)) (haystack : List ℕ) (start at end : ℕ) (kept : Option TableByte) : Type 0
  where
    pub after_start : start ≤ at
    pub behind : at ≤ read_to start kept
    pub within : read_to start kept ≤ end
    pub free : (k : ℕ) → at ≤ k → k + 1 < read_to start kept → is_in table (slice_index haystack k) ≡ false
    pub distance : IfSome kept (λ f. distance_of table (slice_index haystack f.place) ≡ Some f.distance)
