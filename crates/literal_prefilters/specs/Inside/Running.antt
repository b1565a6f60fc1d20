-- The data that the builder of a prefilter keeps besides its patterns, while these are added one by one.
use Rattle.std.specs.Prelude.{◌≡◌, ◌<◌, ◌≤◌, ℕ, Bool, false, not, List, [], ◌∷◌, ◌++◌, length, fold, nat_lt, nat_le}
use Rattle.std.specs.Prelude.{slice_index, if◌then◌else◌}
use Rattle.std.specs.List.{list_all, take_while}
use Rattle.literal_base.specs.Bytes.{contains}
use Rattle.literal_prefilters.specs.declared.prefilter.running.Running.{Running}
use Rattle.literal_prefilters.specs.declared.prefilter.running.RunningRare.{RunningRare}
use Rattle.literal_prefilters.specs.declared.prefilter.running.RunningStart.{RunningStart}
use Rattle.literal_prefilters.specs.Table.{size}
use Rattle.literal_prefilters.specs.Tables.{of_set, is_start_byte, is_rare_byte, largest_offset}

-- no pattern is longer than a rare table allows
abbrev pub are_short : List (List ℕ) → Bool
are_short patterns = list_all (λ p. nat_le (length p) 255) patterns

-- the patterns, added one by one, that are included in a set: no more once it has more than three bytes
abbrev pub taken_in : (List (List ℕ) → ℕ → Bool) → List (List ℕ) → List (List ℕ)
taken_in bytes_of patterns =
    fold (λ taken p. if nat_le (size (of_set (bytes_of taken))) 3 then taken ++ p ∷ [] else taken) [] patterns

-- the patterns whose first byte is included
abbrev pub start_taken : Bool → List (List ℕ) → List (List ℕ)
start_taken ignore_case patterns = taken_in (is_start_byte ignore_case) patterns

-- the patterns whose rare byte is included: none from the first on that is longer than a rare table allows
abbrev pub rare_taken : Bool → List (List ℕ) → List (List ℕ)
rare_taken ignore_case patterns =
    taken_in (is_rare_byte ignore_case) (take_while (λ p. nat_le (length p) 255) patterns)

-- the set is the wanted one. Or both have more than three bytes, so that there is no table of the wanted one, and with
-- more patterns there never is; then the set need not be updated
pub record IsUpTo (set wanted : ℕ → Bool) : Type 0 where
  pub exact : size (of_set set) ≤ 3 → (b : ℕ) → set b ≡ wanted b
  pub past : 3 < size (of_set set) → 3 < size (of_set wanted)

-- the start bytes that a builder of prefilters keeps besides the patterns, as far as they are updated: those of the
-- patterns that were included
pub record IsRunningStart (ignore_case : Bool) (patterns : List (List ℕ)) (start : RunningStart) : Type 0 where
  pub taken : (b : ℕ) → contains start.set b ≡ is_start_byte ignore_case (start_taken ignore_case patterns) b
  pub set : IsUpTo (contains start.set) (is_start_byte ignore_case patterns)

-- the rare bytes of the patterns and their largest offsets, as far as they are updated: those of the patterns that were
-- included. After a long pattern there is no rare table, and there never is
pub record IsRunningRare (ignore_case : Bool) (patterns : List (List ℕ)) (rare : RunningRare) : Type 0 where
  pub taken : (b : ℕ) → contains rare.set b ≡ is_rare_byte ignore_case (rare_taken ignore_case patterns) b
  pub raised : (b : ℕ) → slice_index rare.offsets b ≡ largest_offset ignore_case (rare_taken ignore_case patterns) b
  pub long : rare.has_long ≡ not (are_short patterns)
  pub set : rare.has_long ≡ false → IsUpTo (contains rare.set) (is_rare_byte ignore_case patterns)
  pub some : rare.has_long ≡ false → nat_lt 0 (length patterns) ≡ nat_le 1 (size (of_set (contains rare.set)))
  pub offsets : rare.has_long ≡ false → size (of_set (contains rare.set)) ≤ 3
      → (b : ℕ) → slice_index rare.offsets b ≡ largest_offset ignore_case patterns b
  pub near : (b : ℕ) → slice_index rare.offsets b ≤ 254

-- the data for the tables of the patterns
pub record IsRunning (ignore_case : Bool) (patterns : List (List ℕ)) (running : Running) : Type 0 where
  pub start : IsRunningStart ignore_case patterns running.start
  pub rare : IsRunningRare ignore_case patterns running.rare

-- two such data are the same: the same bytes, and the same offsets
pub record AreSame (a b : Running) : Type 0 where
  pub start : (byte : ℕ) → contains a.start.set byte ≡ contains b.start.set byte
  pub long : a.rare.has_long ≡ b.rare.has_long
  pub rare : (byte : ℕ) → contains a.rare.set byte ≡ contains b.rare.set byte
  pub offsets : (byte : ℕ) → slice_index a.rare.offsets byte ≡ slice_index b.rare.offsets byte
