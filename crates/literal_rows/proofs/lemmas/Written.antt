-- The numbers of a search, made around its rows.
use Rattle.std.proofs.Common.{◌≡◌, ℕ, List, ◌∷◌, ◌++◌, append_assoc, arith, length}
use Rattle.std.proofs.Math.ListN.{set}
use Rattle.std.proofs.lemmas.List.{take_all}
use Rattle.std.specs.List.{slice_range}
use Rattle.literal_rows.specs.Inside.Arrays.{checked}
use Rattle.literal_rows.specs.Arrays.{check_of}

-- the parts, one behind the other, and the check over them
pub assembled : (version width count rows_len longest kind check : ℕ)
    (lengths rows classes starts ends prints all : List ℕ)
    → all ≡ version ∷ 0 ∷ width ∷ count ∷ rows_len ∷ longest ∷ kind
    ∷ ((((lengths ++ rows) ++ classes) ++ starts) ++ ends) ++ prints
    → check ≡ check_of (slice_range all 2 (length all))
    → set all 1 check ≡ checked version
    (width ∷ count ∷ rows_len ∷ longest ∷ kind ∷ lengths ++ (rows ++ classes) ++ starts ++ (ends ++ prints))
assembled version width count rows_len longest kind check lengths rows classes starts ends prints all is check_is =
    grind (arith, append_assoc, take_all)
