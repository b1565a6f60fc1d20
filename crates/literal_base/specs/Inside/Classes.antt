-- The rest of iterations over byte classes.
use Rattle.std.specs.Prelude.{ℕ, ◌+◌, ◌-◌, ◌==◌, if◌then◌else◌, List, [], ◌∷◌, Option, None, Some, filter, length}
use Rattle.std.specs.Prelude.{slice_index}
use Rattle.std.specs.List.{range_with_len}
use Rattle.literal_base.specs.Classes.{alphabet_len_of}

-- the classes from a class up
abbrev pub classes_from : List ℕ → ℕ → List ℕ
classes_from classes class = range_with_len class (alphabet_len_of classes - class)

-- the bytes of a class from a byte up
abbrev pub bytes_from : List ℕ → ℕ → ℕ → List ℕ
bytes_from classes class byte =
    filter (λ b. slice_index classes b == class) (range_with_len byte (length classes - byte))

-- a run put before others, joined with the first of them if they touch
abbrev pub joined : ℕ × ℕ → List (ℕ × ℕ) → List (ℕ × ℕ)
joined run [] = run ∷ []
joined run (next ∷ more) = if next.0 == run.1 + 1 then (run.0, next.1) ∷ more else run ∷ next ∷ more

-- the runs of bytes in ascending order
abbrev pub runs_of : List ℕ → List (ℕ × ℕ)
runs_of [] = []
runs_of (b ∷ bytes) = joined (b, b) (runs_of bytes)

-- the runs of bytes in ascending order, after a run that they may continue
abbrev pub runs_after : Option (ℕ × ℕ) → List ℕ → List (ℕ × ℕ)
runs_after None bytes = runs_of bytes
runs_after (Some run) bytes = joined run (runs_of bytes)
