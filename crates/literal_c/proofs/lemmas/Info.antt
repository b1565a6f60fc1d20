-- The lengths of patterns in the array of a search. For `literal_prepared_info`.
use Rattle.std.proofs.Common.{◌≡◌, ◌≤◌, ◌∙◌, ℕ, List, [], ◌∷◌, ap, arith, get_or, length, map, refl}
use Rattle.std.proofs.lemmas.List.{length-map}
use Rattle.std.specs.List.{fold}
use Rattle.std.specs.Prelude.{min}
use Rattle.literal_rows.proofs.lemmas.Arrays.{length_part}
use Rattle.literal_search.specs.Prepared.{classes_end, lengths_in, rows_at}
use Rattle.literal_search.specs.SearchValue.{shortest_of}
use Rattle.literal_c.specs.Inside.Info.{shortest_in}

fold-min : (a b : ℕ) (xs : List ℕ) → fold min (min a b) xs ≡ min a (fold min b xs)
fold-min a b [] = refl
fold-min a b (x ∷ xs) =
    let assoc : min (min a b) x ≡ min a (min b x) = omega arith in
    ap (λ n. fold min n xs) assoc ∙ fold-min a (min b x) xs

-- the smallest of the lengths is that of the shortest pattern
pub shortest-lengths : (patterns : List (List ℕ))
    → shortest_in (map (λ (bytes : List ℕ). length bytes) patterns) ≡ shortest_of patterns
shortest-lengths [] = refl
shortest-lengths (first ∷ []) = refl
shortest-lengths (first ∷ (next ∷ more)) =
    fold-min (length first) (length next) (map (λ (bytes : List ℕ). length bytes) more)
    ∙ ap (min (length first)) (shortest-lengths (next ∷ more))

-- there are as many patterns as the fourth number says
pub many_lengths : (numbers : List ℕ) (patterns : List (List ℕ)) → classes_end numbers ≤ length numbers
    → lengths_in numbers ≡ map (λ (bytes : List ℕ). length bytes) patterns → length patterns ≡ get_or numbers 3 0
many_lengths numbers patterns fits are =
    let part = length_part numbers 7 (rows_at numbers) (omega arith) (omega (arith, fits)) in
    let many = ap (λ (l : List ℕ). length l) are ∙ length-map patterns (λ (bytes : List ℕ). length bytes) in
    omega (arith, part, many)
