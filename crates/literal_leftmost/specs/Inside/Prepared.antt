-- The parts of a prepared search, and how they are written.
use Rattle.std.specs.Prelude.{◌≡◌, ◌+◌, ℕ, List, length, slice_index}
use Rattle.literal_leftmost.specs.SearchValue.{SearchValue}
use Rattle.literal_leftmost.specs.Prepared.{ForPrepared, HasAllParts, PreparedMatchesValue, back_tables_in}
use Rattle.literal_leftmost.specs.Prepared.{longest_in, prepared_len}
use Rattle.literal_rows.specs.declared.array.TheConstants.{LENGTHS_AT}
use Rattle.literal_base.specs.declared.search.Span.{Span}
use Rattle.literal_leftmost.specs.Inside.Backward.{AreBackFor, IsSafe, back_tables_by}
use Rattle.literal_leftmost.specs.Inside.Cursor.{IsCursor, KnowsAhead, look_ups_of}
use Rattle.literal_leftmost.specs.declared.backward.Backward.{Backward}
use Rattle.literal_leftmost.specs.declared.cursor.Cursor.{Cursor}

-- the parts of an array that a backward walk reads, for every search for which the array is prepared
pub record IsBackIn (numbers : List ℕ) (b : Backward) : Type 0 where
  pub parts : HasAllParts numbers
  pub safe : IsSafe b
  pub is_for : ForPrepared numbers (λ search. AreBackFor search b)
  pub tables : (search : SearchValue) → back_tables_by search b ≡ back_tables_in search numbers
  pub longest : b.table.longest ≡ longest_in numbers
  pub patterns : length b.lens.now ≡ slice_index numbers 3
  pub end : LENGTHS_AT + length b.lens.now + length b.table.rows.now + length b.links.now + length b.prints.now
      ≡ prepared_len numbers

-- an iteration goes on with marks, for every search for which the array is prepared
pub record GoesOnBy (numbers haystack : List ℕ) (span : Span) (c : Cursor) : Type 0 where
  pub cursor : IsCursor (longest_in numbers) span c
  pub knows : ForPrepared numbers (λ search. KnowsAhead (back_tables_in search numbers) haystack span c)

-- an iteration by an array as contracts see it, by its state
abbrev pub lent_at : List ℕ → List ℕ → Span → Cursor → PreparedMatchesValue
lent_at numbers haystack span c = record {
  numbers = numbers;
  haystack = haystack;
  span = span;
  at = c.at;
  look_ups = look_ups_of (longest_in numbers) span c;
}
