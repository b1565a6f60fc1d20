-- The numbers that are written for a search: where its parts stand in them, and that they are written.
use Rattle.std.proofs.lemmas.Grind.{common_steps}
use Rattle.std.proofs.Common.{◌≡◌, ℕ, ◌+◌, ◌<◌, ◌≤◌, List, [], ◌∷◌, ◌++◌, drop, length, get_or, map, take}
use Rattle.std.proofs.Common.{Err, IfErr, IfOk, Ok, Result}
use Rattle.std.proofs.Common.{append-nil, append_assoc, length-append, refl, sym, ap, ◌∙◌, arith}
use Rattle.std.proofs.Math.Seq.{drop-append_seam, take-append_seam}
use Rattle.std.proofs.lemmas.List.{length-drop, length-map, length-take, take-append-drop}
use Rattle.std.specs.List.{slice_range, splice}
use Rattle.literal_rows.specs.Inside.Classes.{AreClasses}
use Rattle.literal_rows.specs.Inside.Packed.{unpacked}
use Rattle.literal_rows.specs.Inside.Rows.{packed_classes}
use Rattle.literal_rows.specs.Inside.Arrays.{IsPut, numbers_for}
use Rattle.literal_rows.specs.Inside.Packed.{Puts}
use Rattle.literal_rows.specs.Patterns.{longest_of}
use Rattle.literal_rows.specs.Arrays.{WritesNumbers, check_of, classes_in, lengths_in}
use Rattle.literal_rows.specs.Arrays.{classes_end, rows_end, rows_in}
use Rattle.literal_rows.specs.declared.array.ArrayTooShort.{ArrayTooShort}
use Rattle.literal_rows.proofs.lemmas.Packed.{packed_long, unpacked_again}

-- a part of a list that is known
pub part_at : (numbers prefix part back : List ℕ) (from to : ℕ) → numbers ≡ prefix ++ (part ++ back)
    → from ≡ length prefix → to ≡ from + length part → slice_range numbers from to ≡ part
part_at numbers prefix part back from to is from_is to_is =
    grind (arith, common_steps, drop-append_seam, take-append_seam)

-- numbers written from an index on, and then those before it, are all of them
put_in_two : (old numbers : List ℕ) (from : ℕ) → from ≤ length numbers → length numbers ≤ length old
    → splice (splice old from (from + length (drop from numbers)) (drop from numbers)) 0 (length (take from numbers))
    (take from numbers) ≡ splice old 0 (length numbers) numbers
put_in_two old numbers from inside fits =
    let back = drop from numbers ++ drop (from + length (drop from numbers)) old in
    let before : length (take from old) ≡ from = length-take from old ∙ omega (arith, inside, fits) in
    let first : length (take from numbers) ≡ from = length-take from numbers ∙ omega (arith, inside) in
    let long : from + length (drop from numbers) ≡ length numbers = omega (arith, length-drop from numbers, inside) in
    let left : drop (length (take from numbers)) (take from old ++ back) ≡ back =
    ap (λ n. drop n (take from old ++ back)) (first ∙ sym before) ∙ drop-append_seam (take from old) back in
    ap (λ l. take from numbers ++ l) left
    ∙ sym (append_assoc (take from numbers) (drop from numbers) (drop (from + length (drop from numbers)) old))
    ∙ ap (λ l. l ++ drop (from + length (drop from numbers)) old) (take-append-drop from numbers)
    ∙ ap (λ n. numbers ++ drop n old) long

pub moved_on : (old new numbers left : List ℕ) (from : ℕ) → from ≤ length numbers → length numbers ≤ length old
    → Puts from (drop from numbers) old new → left ≡ take from numbers
    → splice new 0 (length left) left ≡ splice old 0 (length numbers) numbers
moved_on old new numbers left from inside fits put is =
    ap (λ l. splice new 0 (length l) l) is ∙ ap (λ l. splice l 0 (length (take from numbers)) (take from numbers)) put
    ∙ put_in_two old numbers from inside fits

module _ (version kind : ℕ) (classes : List ℕ) (width : ℕ) (patterns : List (List ℕ)) (rows starts ends : List ℕ)
  where
    abbrev last : List ℕ
    last = packed_classes classes

    abbrev lengths : List ℕ
    lengths = map (λ (bytes : List ℕ). length bytes) patterns

    abbrev pub numbers : List ℕ
    numbers = numbers_for version kind classes width patterns rows starts ends

    abbrev body : List ℕ
    body =
        width ∷ length patterns ∷ length rows ∷ longest_of patterns ∷ kind ∷ lengths ++ (rows ++ last)
        ++ starts ++ ends

    abbrev head : List ℕ
    head =
        version ∷ check_of body ∷ width ∷ length patterns ∷ length rows ∷ longest_of patterns ∷ kind ∷ []

    many : length lengths ≡ length patterns
    many = length-map patterns (λ (bytes : List ℕ). length bytes)

    table_long : length (rows ++ last) ≡ length rows + 256
    table_long = omega (arith, length-append rows last, packed_long classes)

    -- how many they are
    pub numbers_long : length numbers
        ≡ 7 + length patterns + length rows + 256 + length starts + length ends
    numbers_long = grind (arith, length-append, many, table_long)

    -- what stands behind the lengths
    behind_lengths : lengths ++ (rows ++ last) ++ starts ++ ends
        ≡ lengths ++ ((rows ++ last) ++ (starts ++ ends))
    behind_lengths = grind (arith, append_assoc)

    -- and behind the rows
    behind_rows : lengths ++ (rows ++ last) ++ starts ++ ends ≡ (lengths ++ rows) ++ (last ++ (starts ++ ends))
    behind_rows = grind (arith, append_assoc, behind_lengths)

    pub lengths_written : lengths_in numbers ≡ lengths
    lengths_written = grind (arith, common_steps, behind_lengths, many, part_at)

    pub rows_written : rows_in numbers ≡ rows
    rows_written =
        part_at numbers (head ++ lengths) rows (last ++ (starts ++ ends)) (7 + length patterns)
        (7 + length patterns + length rows)
        (ap (λ l. head ++ l) (behind_rows ∙ append_assoc lengths rows (last ++ (starts ++ ends))))
        (omega (arith, length-append head lengths, many)) (omega arith)

    pub classes_written : AreClasses classes width → classes_in numbers ≡ classes
    classes_written are =
        let first = take 64 last in
        let rest = drop 64 last in
        ap unpacked (part_at numbers (head ++ (lengths ++ rows)) first (rest ++ (starts ++ ends)) (rows_end numbers)
        (rows_end numbers + 64)
        (ap (λ l. head ++ l) behind_rows
        ∙ ap (λ l. head ++ (lengths ++ rows) ++ l) (ap (λ l. l ++ (starts ++ ends)) (sym (take-append-drop 64 last))
        ∙ append_assoc first rest (starts ++ ends)))
        (omega (arith, length-append head (lengths ++ rows), length-append lengths rows, many))
        (omega (arith, packed_long classes, length-take 64 last)))
        ∙ unpacked_again classes width are

    upto_starts : length (head ++ (lengths ++ (rows ++ last))) ≡ classes_end numbers
    upto_starts = grind (arith, length-append, many, table_long)

    pub starts_written : slice_range numbers (classes_end numbers) (classes_end numbers + length starts) ≡ starts
    starts_written = grind (arith, common_steps, append_assoc, part_at, upto_starts)

    pub ends_written : slice_range numbers (classes_end numbers + length starts)
        (classes_end numbers + length starts + length ends) ≡ ends
    ends_written =
        part_at numbers (head ++ (lengths ++ (rows ++ last) ++ starts)) ends []
        (classes_end numbers + length starts) (classes_end numbers + length starts + length ends)
        (ap (λ l. (head ++ (lengths ++ (rows ++ last) ++ starts)) ++ l) (sym (append-nil ends)))
        (omega (
          arith,
          length-append head (lengths ++ (rows ++ last) ++ starts),
          length-append (lengths ++ (rows ++ last)) starts,
          length-append head (lengths ++ (rows ++ last)),
          upto_starts,
        )) refl

    -- the check is that over all numbers behind it
    pub check_written : (end : ℕ) → end ≡ length numbers → get_or numbers 1 0 ≡ check_of (slice_range numbers 2 end)
    check_written end is = grind (arith, common_steps, append-nil, part_at)

-- what `put` answers for a search that numbers are for
module _ (AreFor : List ℕ → Type 0) (Takes : ℕ → Type 0) (numbers old new : List ℕ)
    (are_for : AreFor numbers) (takes : Takes (length numbers))
  where
    written : (needed : ℕ) → (needed ≡ length numbers) × (needed ≤ length old) × Puts 0 numbers old new
        → WritesNumbers AreFor Takes old new needed
    written needed (needed_is, fits, puts) =
        grind (arith, drop-append_seam, length-append, length-drop, take-append_seam)

    pub put_writes : (result : Result ℕ ArrayTooShort) → IsPut numbers old new result
        → IfOk result (WritesNumbers AreFor Takes old new)
    put_writes (Ok needed) is = written needed is
    put_writes (Err error) is = tt

    pub put_refuses : (result : Result ℕ ArrayTooShort) → IsPut numbers old new result
        → IfErr result (λ error. (length old < error.needed) × Takes error.needed
        × ((all : List ℕ) × AreFor all × (length all ≡ error.needed)))
    put_refuses (Ok needed) is = tt
    put_refuses (Err error) (needed_is, short, same) = grind arith
