-- The two tables of a list of patterns.
use Rattle.std.specs.Prelude.{◌==◌, ℕ, ◌&&◌, ◌||◌, not, zero, suc, max, Bool, false, List, length, drop, Option, None}
use Rattle.std.specs.Prelude.{Some, fold, nat_lt, nat_le, slice_index, if◌then◌else◌}
use Rattle.std.specs.List.{list_any, list_all}
use Rattle.literal_base.specs.Bytes.{by_byte}
use Rattle.literal_base.specs.Rank.{rank_of}
use Rattle.literal_base.specs.Occurs.{same_byte}
use Rattle.literal_prefilters.specs.Table.{size}

-- the table of the bytes in a set, each with its distance
abbrev pub table_of : (ℕ → Bool) → (ℕ → ℕ) → List (Option ℕ)
table_of in_set distance = by_byte (λ b. if in_set b then Some (distance b) else None)

-- the table, if it has one to three bytes
abbrev pub if_small : List (Option ℕ) → Option (List (Option ℕ))
if_small table = if nat_le 1 (size table) && nat_le (size table) 3 then Some table else None

-- the table of the bytes in a set, each with the distance 0
abbrev pub of_set : (ℕ → Bool) → List (Option ℕ)
of_set in_set = table_of in_set (λ _. 0)

-- the table, if it has one to three bytes, all at most 0x7F
abbrev pub if_low : List (Option ℕ) → Option (List (Option ℕ))
if_low table = if size (drop 128 table) == 0 then if_small table else None

-- some pattern begins with the byte, in some case
abbrev pub is_start_byte : Bool → List (List ℕ) → ℕ → Bool
is_start_byte ignore_case patterns byte = list_any (λ p. same_byte ignore_case byte (slice_index p 0)) patterns

-- the bytes with which the patterns begin, each with the distance 0
abbrev pub start_bytes : Bool → List (List ℕ) → List (Option ℕ)
start_bytes ignore_case patterns = of_set (is_start_byte ignore_case patterns)

-- the start table: the table of the start bytes, if there are one to three, all at most 0x7F
abbrev pub start_table : Bool → List (List ℕ) → Option (List (Option ℕ))
start_table ignore_case patterns = if_low (start_bytes ignore_case patterns)

-- the byte of lower rank of two, or the first if the ranks are equal
abbrev pub rarer : ℕ → ℕ → ℕ
rarer a b = if nat_lt (rank_of b) (rank_of a) then b else a

-- the first byte of least rank in a pattern
abbrev pub rarest : List ℕ → ℕ
rarest pattern = fold rarer (slice_index pattern 0) pattern

-- the set after one more pattern. A pattern with a byte of the set adds nothing; any other adds its rarest byte, in
-- both cases if case is ignored
abbrev pub with_rarest : Bool → (ℕ → Bool) → List ℕ → ℕ → Bool
with_rarest ignore_case in_set pattern byte =
    in_set byte || (not (list_any in_set pattern) && same_byte ignore_case byte (rarest pattern))

-- whether a byte is in the set of rare bytes: the set after all patterns, in the order of their numbers
abbrev pub is_rare_byte : Bool → List (List ℕ) → ℕ → Bool
is_rare_byte ignore_case patterns = fold (with_rarest ignore_case) (λ _. false) patterns

-- the largest offset below a number at which a byte is in a pattern, in either case if case is ignored
abbrev pub offset_below : Bool → ℕ → List ℕ → ℕ → ℕ
offset_below ignore_case byte pattern zero = 0
offset_below ignore_case byte pattern (suc n) =
    if same_byte ignore_case byte (slice_index pattern n) then n else offset_below ignore_case byte pattern n

-- the largest offset at which the byte is in any pattern, in either case if case is ignored
abbrev pub largest_offset : Bool → List (List ℕ) → ℕ → ℕ
largest_offset ignore_case patterns byte =
    fold (λ most p. max most (offset_below ignore_case byte p (length p))) 0 patterns

-- the rare bytes, each with its largest offset as its distance
abbrev pub rare_bytes : Bool → List (List ℕ) → List (Option ℕ)
rare_bytes ignore_case patterns = table_of (is_rare_byte ignore_case patterns) (largest_offset ignore_case patterns)

-- the rare table: the table of the rare bytes, if there is a pattern, each pattern has at most 255 bytes, and the set
-- has at most three
abbrev pub rare_table : Bool → List (List ℕ) → Option (List (Option ℕ))
rare_table ignore_case patterns =
    let table = rare_bytes ignore_case patterns in
    if (nat_lt 0 (length patterns) && list_all (λ p. nat_le (length p) 255) patterns) && nat_le
    (size table) 3 then Some table else None
