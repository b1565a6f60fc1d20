-- What a test of all rows of the table says of each folding.
use Rattle.std.proofs.Common.{◌≡◌, refl, ℕ, suc, zero, ◌+◌, ◌-◌, ◌%◌, ◌^◌, ◌<◌, ◌≤◌, ◌==◌, ◌&&◌, ◌||◌, Bool, true}
use Rattle.std.proofs.Common.{false, not, List, [], ◌∷◌}
use Rattle.std.proofs.Common.{length, nat_le, nat_lt, arith, ap, sym, ◌∙◌, cond, subst, drop, get_or, ◌⊎◌, ⊎_elim}
use Rattle.std.proofs.Common.{inl, inr}
use Rattle.std.proofs.lemmas.Bool.{and_from, and_parts, not-true}
use Rattle.std.proofs.lemmas.Bool.Decides.{nat_tests}
use Rattle.std.specs.Char.{IsScalar, len_utf8, to_ascii_lowercase}
use Rattle.std.specs.List.{list_all}
use Rattle.std.specs.List.Sorted.{IsPartitionedBy}
use Rattle.literal_folding.specs.Folding.{Row, is_in, folded_in, folded_by, folded_char}
use Rattle.literal_folding.specs.Inside.Foldings.{IsRowIndex}
use Rattle.literal_folding.specs.declared.foldings.TheConstants.{FOLDINGS}

-- ---- what is tested of a row, and of two

-- all numbers from low up to high are characters
abbrev are_scalars : ℕ → ℕ → Bool
are_scalars low high = nat_lt high 0xD800 || (nat_le 0xE000 low && nat_lt high 0x11_0000)

-- a row has a step, and its characters and their foldings have one length
abbrev is_sound : Row → Bool
is_sound row =
    nat_lt 0 row.2 && nat_le row.0 row.1 && are_scalars row.3 (row.3 + (row.1 - row.0))
    && len_utf8 row.0 == len_utf8 row.1 && len_utf8 row.3 == len_utf8 row.0
    && len_utf8 (row.3 + (row.1 - row.0)) == len_utf8 row.0

-- no folding by the row r is in the row s
abbrev is_apart : Row → Row → Bool
is_apart r s =
    nat_lt (r.3 + (r.1 - r.0)) s.0 || nat_lt s.1 r.3
    || (s.2 == 2 && (r.2 == 2 || r.0 == r.1) && (r.3 - s.0) % 2 == 1)

-- the rows rise, from a number on
abbrev rises_from : ℕ → List Row → Bool
rises_from low [] = true
rises_from low (row ∷ rows) = nat_le low row.0 && nat_le row.0 row.1 && rises_from (row.1 + 1) rows

pub rows_sound : list_all is_sound FOLDINGS ≡ true
rows_sound = refl

pub rows_apart : list_all (λ r. list_all (is_apart r) FOLDINGS) FOLDINGS ≡ true
rows_apart = refl

pub rows_rise : rises_from 0 FOLDINGS ≡ true
rows_rise = refl

-- ---- one row

len_between : (a b c : ℕ) → len_utf8 a ≡ len_utf8 b → a ≤ c → c ≤ b → len_utf8 c ≡ len_utf8 a
len_between a b c e p q = grind (arith, nat_tests)

scalar_between : (low high c : ℕ) → are_scalars low high ≡ true → low ≤ c → c ≤ high → IsScalar c
scalar_between low high c e p q = grind (arith, nat_tests)

-- what a passed test of a row says
in_row : (row : Row) (c : ℕ) → is_in row c ≡ true → (row.0 ≤ c) × (c ≤ row.1) × ((c - row.0) % row.2 ≡ 0)
in_row row c p = (grind (arith, nat_tests), grind (arith, nat_tests), grind (arith, nat_tests))

between : (to a b c : ℕ) → a ≤ c → c ≤ b → (to ≤ to + (c - a)) × (to + (c - a) ≤ to + (b - a))
between to a b c p q = (omega arith, omega arith)

folded_in_scalar : (row : Row) (c : ℕ) → is_sound row ≡ true → is_in row c ≡ true → IsScalar (folded_in row c)
folded_in_scalar row c e p =
    let within = in_row row c p in
    let sound : are_scalars row.3 (row.3 + (row.1 - row.0)) ≡ true = grind (arith, nat_tests) in
    let bounds = between row.3 row.0 row.1 c within.0 within.1 in
    scalar_between row.3 (row.3 + (row.1 - row.0)) (folded_in row c) sound bounds.0 bounds.1

folded_in_len : (row : Row) (c : ℕ) → is_sound row ≡ true → is_in row c ≡ true
    → len_utf8 (folded_in row c) ≡ len_utf8 c
folded_in_len row c e p =
    let within = in_row row c p in
    let ends : len_utf8 row.0 ≡ len_utf8 row.1 = grind (arith, nat_tests) in
    let start : len_utf8 row.3 ≡ len_utf8 row.0 = grind (arith, nat_tests) in
    let end : len_utf8 (row.3 + (row.1 - row.0)) ≡ len_utf8 row.0 = grind (arith, nat_tests) in
    let bounds = between row.3 row.0 row.1 c within.0 within.1 in
    len_between row.3 (row.3 + (row.1 - row.0)) (folded_in row c) (start ∙ sym end) bounds.0 bounds.1
    ∙ start ∙ sym (len_between row.0 row.1 c ends within.0 within.1)

apart : (r s : Row) (c : ℕ) → is_apart r s ≡ true → is_in r c ≡ true → is_in s (folded_in r c) ≡ false
apart r s c e p =
    let within = in_row r c p in
    grind (arith, nat_tests)

-- ---- all rows

-- a number that no row has stays
none_has : (rows : List Row) (c : ℕ) → list_all (λ row. not (is_in row c)) rows ≡ true → folded_by rows c ≡ c
none_has [] c e = refl
none_has (row ∷ rows) c e =
    let parts = and_parts (not (is_in row c)) (list_all (λ row. not (is_in row c)) rows) e in
    ap (λ b. cond b (folded_in row c) (folded_by rows c)) (not-true (is_in row c) parts.0) ∙ none_has rows c parts.1

-- what holds of a number, and of its folding by each row that passes a test, holds of its folding
by_rows : (P : ℕ → Type 0) (test : Row → Bool) (rows : List Row) (c : ℕ) → list_all test rows ≡ true → P c
    → ((row : Row) → test row ≡ true → is_in row c ≡ true → P (folded_in row c)) → P (folded_by rows c)
by_rows P test [] c e here each = here
by_rows P test (row ∷ rows) c e here each =
    let parts = and_parts (test row) (list_all test rows) e in
    let split : (b : Bool) → is_in row c ≡ b → P (cond b (folded_in row c) (folded_by rows c)) = λ b.
    elim b as (λ v. is_in row c ≡ v → P (cond v (folded_in row c) (folded_by rows c)))
    [ true ↦ λ is. each row parts.0 is | false ↦ λ _. by_rows P test rows c parts.1 here each ] in
    split (is_in row c) refl

pub folded_char_scalar : (c : ℕ) → IsScalar c → IsScalar (folded_char c)
unfolding folded_char
folded_char_scalar c is = by_rows IsScalar is_sound FOLDINGS c rows_sound is (λ row sound. folded_in_scalar row c sound)

pub folded_char_len : (c : ℕ) → len_utf8 (folded_char c) ≡ len_utf8 c
unfolding folded_char
folded_char_len c =
    by_rows (λ d. len_utf8 d ≡ len_utf8 c) is_sound FOLDINGS c rows_sound refl (λ row sound. folded_in_len row c sound)

-- the folding by a row is in none of the rows that are apart from it
in_none : (r : Row) (rows : List Row) (c : ℕ) → list_all (is_apart r) rows ≡ true → is_in r c ≡ true
    → list_all (λ row. not (is_in row (folded_in r c))) rows ≡ true
in_none r [] c e p = refl
in_none r (s ∷ rows) c e p =
    let parts = and_parts (is_apart r s) (list_all (is_apart r) rows) e in
    and_from (not (is_in s (folded_in r c))) (list_all (λ row. not (is_in row (folded_in r c))) rows)
    (ap not (apart r s c parts.0 p)) (in_none r rows c parts.1 p)

twice_by : (rows : List Row) (c : ℕ) → list_all (λ r. list_all (is_apart r) rows) rows ≡ true
    → folded_by rows (folded_by rows c) ≡ folded_by rows c
twice_by rows c e =
    ⊎_elim (λ same. ap (folded_by rows) same) (λ stays. stays)
    (by_rows (λ d. (d ≡ c) ⊎ (folded_by rows d ≡ d)) (λ r. list_all (is_apart r) rows) rows c e (inl refl)
    (λ r free p. inr (none_has rows (folded_in r c) (in_none r rows c free p))))

pub folded_char_twice : (c : ℕ) → folded_char (folded_char c) ≡ folded_char c
unfolding folded_char
folded_char_twice c = twice_by FOLDINGS c rows_apart

-- a number below all rows is in none
below_all : (low : ℕ) (rows : List Row) (c : ℕ) → rises_from low rows ≡ true → c < low
    → list_all (λ row. not (is_in row c)) rows ≡ true
below_all low [] c e p = refl
below_all low (row ∷ rows) c e p =
    let from : low ≤ row.0 = grind (arith, nat_tests) in
    let upto : row.0 ≤ row.1 = grind (arith, nat_tests) in
    let rest : rises_from (row.1 + 1) rows ≡ true = grind (arith, nat_tests) in
    let out : is_in row c ≡ false = grind (arith, nat_tests) in
    and_from (not (is_in row c)) (list_all (λ row. not (is_in row c)) rows) (ap not out)
    (below_all (row.1 + 1) rows c rest (omega arith))

-- the rows behind the first one are not those of ASCII
rows_behind : rises_from 128 (drop 1 FOLDINGS) ≡ true
rows_behind = refl

ascii_by : (rows : List Row) (c : ℕ) → rises_from 128 rows ≡ true → c < 128
    → folded_by ((65, 90, 1, 97) ∷ rows) c ≡ to_ascii_lowercase c
ascii_by rows c e p =
    let rest : folded_by rows c ≡ c = none_has rows c (below_all 128 rows c e p) in
    grind (arith, nat_tests)

pub folded_char_ascii : (c : ℕ) → c < 128 → folded_char c ≡ to_ascii_lowercase c
unfolding folded_char
folded_char_ascii c p = ascii_by (drop 1 FOLDINGS) c rows_behind p

-- ---- a row found by a binary search

-- the row at the first index whose last character is not below c alone may have it
pub found_by : (low : ℕ) (rows : List Row) (c i : ℕ) (row : Row) → rises_from low rows ≡ true
    → ((k : ℕ) → k < i → nat_lt (get_or rows k row).1 c ≡ true) → i < length rows → get_or rows i row ≡ row
    → c ≤ row.1 → folded_by rows c ≡ cond (is_in row c) (folded_in row c) c
found_by low [] c i row e before p at upto = absurd (omega arith)
found_by low (first ∷ rows) c zero row e before p at upto =
    let rest : rises_from (first.1 + 1) rows ≡ true = grind (arith, nat_tests) in
    let bound : c ≤ first.1 = subst (λ (r : Row). c ≤ r.1) (sym at) upto in
    let none : folded_by rows c ≡ c = none_has rows c (below_all (first.1 + 1) rows c rest (omega arith)) in
    subst (λ (r : Row). folded_by (first ∷ rows) c ≡ cond (is_in r c) (folded_in r c) c) at
    (ap (λ d. cond (is_in first c) (folded_in first c) d) none)
found_by low (first ∷ rows) c (suc i) row e before p at upto =
    let rest : rises_from (first.1 + 1) rows ≡ true = grind (arith, nat_tests) in
    let past : nat_lt first.1 c ≡ true = before 0 (omega arith) in
    let out : is_in first c ≡ false = grind (arith, nat_tests) in
    ap (λ b. cond b (folded_in first c) (folded_by rows c)) out
    ∙ found_by (first.1 + 1) rows c i row rest (λ k q. before (suc k) (omega arith)) (omega arith) at upto

-- no row has a number that is past all of them
pub past_all : (rows : List Row) (c : ℕ) (row : Row)
    → ((k : ℕ) → k < length rows → nat_lt (get_or rows k row).1 c ≡ true) → folded_by rows c ≡ c
past_all [] c row all = refl
past_all (first ∷ rows) c row all =
    let past : nat_lt first.1 c ≡ true = all 0 (omega arith) in
    let out : is_in first c ≡ false = grind (arith, nat_tests) in
    ap (λ b. cond b (folded_in first c) (folded_by rows c)) out
    ∙ past_all rows c row (λ k q. all (suc k) (omega arith))

-- no last character is below where the rows begin
last_from : (low : ℕ) (rows : List Row) (i : ℕ) (row : Row) → rises_from low rows ≡ true → i < length rows
    → low ≤ (get_or rows i row).1
last_from low [] i row e p = absurd (omega arith)
last_from low (first ∷ rows) zero row e p = grind (arith, nat_tests)
last_from low (first ∷ rows) (suc i) row e p =
    let rest : rises_from (first.1 + 1) rows ≡ true = grind (arith, nat_tests) in
    let ordered : low ≤ first.1 = grind (arith, nat_tests) in
    omega (arith, last_from (first.1 + 1) rows i row rest (omega arith))

-- the last characters of the rows rise
pub last_rises : (low : ℕ) (rows : List Row) (i j : ℕ) (row : Row) → rises_from low rows ≡ true → i ≤ j
    → j < length rows → (get_or rows i row).1 ≤ (get_or rows j row).1
last_rises low [] i j row e p q = absurd (omega arith)
last_rises low (first ∷ rows) zero zero row e p q = omega arith
last_rises low (first ∷ rows) (suc i) zero row e p q = absurd (omega arith)
last_rises low (first ∷ rows) zero (suc j) row e p q =
    let rest : rises_from (first.1 + 1) rows ≡ true = grind (arith, nat_tests) in
    omega (arith, last_from (first.1 + 1) rows j row rest (omega arith))
last_rises low (first ∷ rows) (suc i) (suc j) row e p q =
    let rest : rises_from (first.1 + 1) rows ≡ true = grind (arith, nat_tests) in
    last_rises (first.1 + 1) rows i j row rest (omega arith) (omega arith)

-- each row passes a test that all pass
pub row_passes : (test : Row → Bool) (rows : List Row) (i : ℕ) (row : Row) → list_all test rows ≡ true
    → i < length rows → test (get_or rows i row) ≡ true
row_passes test [] i row e p = absurd (omega arith)
row_passes test (first ∷ rows) zero row e p = (and_parts (test first) (list_all test rows) e).0
row_passes test (first ∷ rows) (suc i) row e p =
    row_passes test rows i row (and_parts (test first) (list_all test rows) e).1 (omega arith)

-- the rows whose last character is below a number come first
parted_by : (low : ℕ) (rows : List Row) (c : ℕ) → rises_from low rows ≡ true
    → IsPartitionedBy (λ row. nat_lt row.1 c) rows
parted_by low rows c e i j row p q passes =
    let ordered = last_rises low rows i j row e p q in
    grind (arith, nat_tests)

pub parted : (c : ℕ) → IsPartitionedBy (λ (row : Row). nat_lt row.1 c) FOLDINGS
parted c = parted_by 0 FOLDINGS c rows_rise

-- a row of the table
pub record IsRowAt (i : ℕ) (row : Row) : Type 0 where
  pub within : i < length FOLDINGS
  pub is : get_or FOLDINGS i row ≡ row

pub row_upto : (c i : ℕ) (row : Row) → IsRowAt i row → IsRowIndex c i → c ≤ row.1
row_upto c i row at point =
    let upto : nat_lt row.1 c ≡ false =
    subst (λ (r : Row). nat_lt r.1 c ≡ false) at.is (point.1 i row (omega arith) at.within) in
    grind (arith, nat_tests)

-- the row that was found alone may have the character
pub folded_char_found : (c i : ℕ) (row : Row) → IsRowAt i row → IsRowIndex c i
    → folded_char c ≡ cond (is_in row c) (folded_in row c) c
unfolding folded_char
folded_char_found c i row at point =
    found_by 0 FOLDINGS c i row rows_rise (λ k p. point.0 k row (omega arith) p) at.within at.is
    (row_upto c i row at point)

pub folded_char_past : (c i : ℕ) → length FOLDINGS ≤ i → IsRowIndex c i → folded_char c ≡ c
unfolding folded_char
folded_char_past c i end point =
    past_all FOLDINGS c (0, 0, 0, 0) (λ k p. point.0 k (0, 0, 0, 0) (omega arith) (omega arith))

pub row_sound : (i : ℕ) (row : Row) → IsRowAt i row → is_sound row ≡ true
row_sound i row at = subst (λ r. is_sound r ≡ true) at.is (row_passes is_sound FOLDINGS i row rows_sound at.within)

pub row_step : (row : Row) → is_sound row ≡ true → 0 < row.2
row_step row e = grind (arith, nat_tests)

pub row_fits : (row : Row) → is_sound row ≡ true → row.3 + (row.1 - row.0) < 2 ^ 32
row_fits row e =
    let scalars : are_scalars row.3 (row.3 + (row.1 - row.0)) ≡ true = grind (arith, nat_tests) in
    let small : row.3 + (row.1 - row.0) < 0x11_0000 = grind (arith, nat_tests) in
    omega arith
