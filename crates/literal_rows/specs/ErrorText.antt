-- The messages of errors.
use Rattle.std.specs.Prelude.{ℕ, List, ◌++◌, codes}
use Rattle.std.specs.Fmt.{decimal}
use Rattle.literal_rows.specs.declared.array.ArrayTooShort.{ArrayTooShort}

-- the message that says that an array is too short for a search
abbrev pub array_too_short_text : ArrayTooShort → List ℕ
array_too_short_text error = codes "the array needs " ++ decimal error.needed ++ codes " places"
