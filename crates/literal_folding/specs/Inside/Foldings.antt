-- The index of the row that may have a character.
use Rattle.std.specs.Prelude.{◌≡◌, ℕ, true, false, nat_lt}
use Rattle.std.specs.List.Sorted.{IsPartitionPoint}
use Rattle.literal_folding.specs.Folding.{Row}
use Rattle.literal_folding.specs.declared.foldings.TheConstants.{FOLDINGS}

-- the last character of each row before the index is below the number, and that of each later row is not
abbrev pub IsRowIndex : ℕ → ℕ → Type 0
IsRowIndex code i =
    IsPartitionPoint (λ (row : Row). nat_lt row.1 code ≡ true) (λ (row : Row). nat_lt row.1 code ≡ false) FOLDINGS i
