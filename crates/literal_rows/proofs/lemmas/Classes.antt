-- Classes that tell bytes from each other.
use Rattle.std.proofs.Common.{◌≡◌, ℕ, ◌<◌, Bool, true, false, List, [], ◌∷◌, if◌then◌else◌, length, get_or, map, ◌+◌}
use Rattle.std.proofs.Common.{eqb, inl, inr, replicate, refl, sym, ap, subst, ◌∙◌, arith}
use Rattle.std.proofs.lemmas.Bool.{cases_lt, eq-eqb, eqb-true}
use Rattle.std.proofs.lemmas.List.{ext_get_or, get_or-map, get_or-replicate, get_or_default, get_or_past, length-map}
use Rattle.std.proofs.lemmas.List.{length-replicate}
use Rattle.std.proofs.lemmas.List.Folds.{Any-from_list_any, list_any_at}
use Rattle.std.proofs.lemmas.List.FromFn.{get_or-range_with_len, length-map-range_with_len, length-range_with_len}
use Rattle.std.specs.List.{count_by, fold, list_any, range_with_len}
use Rattle.std.specs.Global.{Vec}
use Rattle.literal_base.specs.Occurs.{pattern_at}
use Rattle.literal_rows.specs.Patterns.{is_in_patterns}
use Rattle.literal_rows.specs.Inside.Classes.{IsFoldOfOne, Marks, Tells, TellsMarked, folded}
use Rattle.literal_rows.proofs.lemmas.Grown.{same_test}

-- each pattern's marks
pub marks_all : (ignore_case : Bool) (seen : List Bool) (patterns : List (Vec ℕ))
    → ((i : ℕ) (d : Vec ℕ) → i < length patterns → Marks ignore_case seen (get_or patterns i d).items)
    → (i : ℕ) → i < length (map (λ (pattern : Vec ℕ). pattern.items) patterns)
    → Marks ignore_case seen (pattern_at (map (λ (pattern : Vec ℕ). pattern.items) patterns) i)
marks_all ignore_case seen patterns marks i is_pattern =
    let below : i < length patterns = grind (arith, length-map) in
    let d = one_of i patterns below in
    subst (λ (bytes : List ℕ). Marks ignore_case seen bytes)
    (sym (get_or-map (λ (pattern : Vec ℕ). pattern.items) patterns i d [] below)) (marks i d below)
  where
    one_of : (i : ℕ) (patterns : List (Vec ℕ)) → i < length patterns → Vec ℕ
    one_of i [] below = absurd (omega arith)
    one_of i (pattern ∷ patterns) below = pattern

-- where all bytes of patterns are marked, these are told
pub tells_by : (ignore_case : Bool) (seen : List Bool) (table : List ℕ) (patterns : List (Vec ℕ))
    → TellsMarked ignore_case seen table
    → ((i : ℕ) (d : Vec ℕ) → i < length patterns → Marks ignore_case seen (get_or patterns i d).items)
    → Tells ignore_case table (map (λ pattern. pattern.items) patterns)
tells_by ignore_case seen table patterns tells marks i k byte is_pattern inside is_byte = grind (arith, marks_all)

-- how many bytes are marked
count_map_from : (f : ℕ → Bool) (n : ℕ) (xs : List ℕ)
    → fold (λ (a : ℕ) (is : Bool). a + (if is then 1 else 0)) n (map f xs)
    ≡ fold (λ (a x : ℕ). a + (if f x then 1 else 0)) n xs
count_map_from f n [] = refl
count_map_from f n (x ∷ xs) = count_map_from f (n + (if f x then 1 else 0)) xs

count_map : (f : ℕ → Bool) (xs : List ℕ) → count_by (λ is. is) (map f xs) ≡ count_by f xs
count_map f xs = count_map_from f 0 xs

module _ (ignore_case : Bool) (seen : List Bool) (lists : List (List ℕ)) (size : length seen ≡ 256)
    (marks : (i : ℕ) → i < length lists → Marks ignore_case seen (pattern_at lists i))
    (only : (b : ℕ) → get_or seen b false ≡ true → (i : ℕ) × (i < length lists)
    × IsFoldOfOne ignore_case (pattern_at lists i) b)
  where
    marked_then_in : (byte : ℕ) → get_or seen byte false ≡ true → is_in_patterns ignore_case lists byte ≡ true
    marked_then_in byte is = grind (arith, eq-eqb, list_any_at)

    in_then_marked : (byte : ℕ) → is_in_patterns ignore_case lists byte ≡ true → get_or seen byte false ≡ true
    in_then_marked byte is =
        let one = Any-from_list_any (λ pattern. list_any (λ b. eqb (folded ignore_case b) byte) pattern) lists is in
        let of = Any-from_list_any (λ b. eqb (folded ignore_case b) byte) one.1 one.4 in
        let pattern_is : pattern_at lists one.0 ≡ one.1 = get_or_default lists one.0 [] one.1 one.2 ∙ one.3 in
        let long = ap (λ (l : List ℕ). length l) pattern_is in
        let byte_is : get_or (pattern_at lists one.0) of.0 0 ≡ of.1 = grind (arith, get_or_default) in
        let mark = (marks one.0 one.2 of.0 (omega (arith, long, of.2))).1 in
        grind (arith, eqb-true)

    seen_is : seen ≡ map (is_in_patterns ignore_case lists) (range_with_len 0 256)
    seen_is =
        let f = is_in_patterns ignore_case lists in
        let long = length-map-range_with_len f 0 256 in
        ext_get_or false seen (map f (range_with_len 0 256)) (size ∙ sym long) (λ k below.
        let inside : k < 256 = omega (arith, size) in
        let at : 0 + k ≡ k = omega arith in
        let read : get_or (map f (range_with_len 0 256)) k false ≡ f k =
        get_or-map f (range_with_len 0 256) k 0 false (omega (arith, inside, length-range_with_len 0 256))
        ∙ ap f (get_or-range_with_len 0 256 k 0 inside ∙ at) in
        same_test (get_or seen k false) (f k) (marked_then_in k) (in_then_marked k) ∙ sym read)

    pub marked_are : count_by (λ is. is) seen
        ≡ count_by (is_in_patterns ignore_case lists) (range_with_len 0 256)
    marked_are = ap (count_by (λ is. is)) seen_is ∙ count_map (is_in_patterns ignore_case lists) (range_with_len 0 256)

-- no byte is marked at first
pub none_marked : (b : ℕ) → get_or (replicate 256 false) b false ≡ false
none_marked b = elim (cases_lt b 256) [
  | inl inside ↦ get_or-replicate 256 b false false inside
  | inr past ↦ get_or_past (replicate 256 false) b false (omega (arith, length-replicate 256 false))
]
