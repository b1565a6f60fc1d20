-- How far past the place that it proposes a table reads.
-- For `ByteTable::count`, `start`, `if_small` and `candidate`, and for a law.
use Rattle.std.proofs.Common.{◌≡◌, ◌⊎◌, inl, inr, ℕ, ◌<◌, ◌≤◌, Bool, true, false, cond, List, [], ◌∷◌, zero, suc, max}
use Rattle.std.proofs.Common.{fold, Option, Some, None, IfSome, unwrap_or, refl, sym, ap, subst, ⊎_elim, arith}
use Rattle.std.proofs.lemmas.Bool.{cases_lt}
use Rattle.std.proofs.lemmas.List.{get_or_past}
use Rattle.literal_prefilters.specs.Table.{distance_of, reach_of}
use Rattle.literal_prefilters.specs.Tables.{is_start_byte, start_bytes, table_of}
use Rattle.literal_prefilters.proofs.lemmas.Lists.{value-le-largest}
use Rattle.literal_prefilters.proofs.lemmas.TableOf.{distance_of-table_of, length-table_of}

most_below : (m : ℕ) (table : List (Option ℕ)) (a : ℕ) → a ≤ m → ((b : ℕ) → IfSome (distance_of table b) (λ d. d ≤ m))
    → fold (λ most o. max most (unwrap_or o 0)) a table ≤ m
most_below m [] a low each = low
most_below m (None ∷ table) a low each =
    most_below m table (max a 0) (omega arith) (λ b. each (suc b))
most_below m (Some d ∷ table) a low each =
    let first : d ≤ m = each zero in
    most_below m table (max a d) (omega arith) (λ b. each (suc b))

-- where no distance is beyond a number, the reach is not
pub reach_of-le : (m : ℕ) (table : List (Option ℕ)) → ((b : ℕ) → IfSome (distance_of table b) (λ d. d ≤ m))
    → reach_of table ≤ m
reach_of-le m table each = most_below m table 0 (omega arith) each

-- no distance of a table is beyond a bound of the offsets
pub distance_of-table_of-le : (m : ℕ) (set : ℕ → Bool) (f : ℕ → ℕ) → ((b : ℕ) → f b ≤ m)
    → (b : ℕ) → IfSome (distance_of (table_of set f) b) (λ d. d ≤ m)
distance_of-table_of-le m set f low b =
    let P : Option ℕ → Type 0 = λ o. IfSome o (λ d. d ≤ m) in
    ⊎_elim
    (λ (below : b < 256). subst P (sym (distance_of-table_of set f b below)) (if_some (set b)))
    (λ (past : 256 ≤ b). subst P
    (sym (get_or_past (table_of set f) b None (omega (arith, length-table_of set f)))) tt)
    (cases_lt b 256)
  where
    if_some : (p : Bool) → IfSome (cond p (Some (f b)) None) (λ d. d ≤ m)
    if_some true = low b
    if_some false = tt

-- a start table proposes the place of its byte
pub reach_of-start_bytes : (c : Bool) (ps : List (List ℕ)) → reach_of (start_bytes c ps) ≡ 0
reach_of-start_bytes c ps =
    let low = reach_of-le 0 (start_bytes c ps)
    (distance_of-table_of-le 0 (is_start_byte c ps) (λ _. 0) (λ b. omega arith)) in
    omega arith

-- no distance is beyond the reach
pub distance-le-reach_of : (table : List (Option ℕ)) (b d : ℕ) → distance_of table b ≡ Some d → d ≤ reach_of table
distance-le-reach_of table b d e =
    let value : unwrap_or (distance_of table b) 0 ≡ d = ap (λ o. unwrap_or o 0) e in
    omega (arith, value-le-largest (λ o. unwrap_or o 0) table 0 b None (omega arith))

-- the largest is the start, or the distance of a byte
most_is : (table : List (Option ℕ)) (a : ℕ)
    → (fold (λ most o. max most (unwrap_or o 0)) a table ≡ a)
    ⊎ ((byte : ℕ) × (distance_of table byte ≡ Some (fold (λ most o. max most (unwrap_or o 0)) a table)))
most_is [] a = inl refl
most_is (None ∷ table) a =
    elim (most_is table (max a 0)) [
      | inl same ↦ inl (omega (arith, same))
      | inr found ↦ inr (suc found.0, found.1)
    ]
most_is (Some d ∷ table) a =
    elim (most_is table (max a d)) [
      | inr found ↦ inr (suc found.0, found.1)
      | inl same ↦ elim (cases_lt a d) [
        | inl farther ↦ inr (0, ap Some (omega (arith, same)))
        | inr not ↦ inl (omega (arith, same))
      ]
    ]

-- where the reach is not 0 it is the distance of a byte
pub reach_of-reached : (table : List (Option ℕ)) → 0 < reach_of table
    → (byte : ℕ) × (distance_of table byte ≡ Some (reach_of table))
reach_of-reached table some =
    elim (most_is table 0) [
      | inr found ↦ found
      | inl same ↦ absurd (omega (arith, same))
    ]
