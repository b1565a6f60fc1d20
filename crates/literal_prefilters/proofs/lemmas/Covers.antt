-- Both tables cover each pattern.
-- For `ByteTable::start` and `ByteTable::rare`.
use Rattle.std.proofs.Common.{◌==◌, ◌&&◌, nat_lt, drop, ◌≡◌, ℕ, ◌<◌, ◌≤◌, cond, Bool, true, false, List, [], length}
use Rattle.std.proofs.Common.{get_or, position, slice_index, Option, Some, None, IfSome, MatchOption, nat_le, refl, sym}
use Rattle.std.proofs.Common.{◌∙◌, subst, arith}
use Rattle.std.specs.List.{All, list_all}
use Rattle.std.proofs.lemmas.Bool.{cond-true}
use Rattle.std.proofs.lemmas.List.{get_or_default}
use Rattle.std.proofs.lemmas.Option.{cond_some}
use Rattle.std.proofs.lemmas.List.Folds.{list_any_at}
use Rattle.std.proofs.lemmas.List.Quantifiers.{position-Some}
use Rattle.literal_base.specs.Occurs.{NoneIsEmpty, same_byte}
use Rattle.literal_prefilters.specs.Table.{distance_of, is_in, reach_of, size, Covers}
use Rattle.literal_prefilters.specs.Tables.{if_small, is_start_byte, start_bytes, start_table, is_rare_byte}
use Rattle.literal_prefilters.specs.Tables.{largest_offset, rare_bytes, rare_table}
use Rattle.literal_prefilters.proofs.lemmas.Lists.{position_is, position-None}
use Rattle.literal_prefilters.proofs.lemmas.Offsets.{offset-le-offset_below}
use Rattle.literal_prefilters.proofs.lemmas.FurthestDistance.{reach_of-start_bytes}
use Rattle.literal_prefilters.proofs.lemmas.RareSetCovers.{rare_closed, rare_reached, offset-le-largest_offset}
use Rattle.literal_prefilters.proofs.lemmas.TableOf.{distance_of-table_of, is_in-table_of}
use Rattle.literal_prefilters.proofs.lemmas.Variants.{same_length, same_byte_at, same_byte_turned}

-- some byte is in the table, and each one that is has a distance that is large enough
covered : (t : List (Option ℕ)) (v : List ℕ) (k : ℕ) → k < length v → is_in t (slice_index v k) ≡ true
    → ((j : ℕ) → j < length v → is_in t (slice_index v j) ≡ true
    → IfSome (distance_of t (slice_index v j)) (λ d. j ≤ d))
    → MatchOption (position (is_in t) v) ⊥ (λ j. IfSome (distance_of t (slice_index v j)) (λ d. j ≤ d))
covered t v k below here far = from (position (is_in t) v) refl
  where
    from : (o : Option ℕ) → position (is_in t) v ≡ o
        → MatchOption o ⊥ (λ j. IfSome (distance_of t (slice_index v j)) (λ d. j ≤ d))
    from None e = let no : is_in t (slice_index v k) ≡ false = position-None (is_in t) v e k below in absurd cc
    from (Some j) e = let at = position-Some (is_in t) v j 0 e in far j at.0 at.1

if_some_at : (o : Option ℕ) (n j : ℕ) → o ≡ Some n → j ≤ n → IfSome o (λ d. j ≤ d)
if_some_at o n j e below =
    let P : Option ℕ → Type 0 = λ o. IfSome o (λ d. j ≤ d) in subst P (sym e) below

start_bytes-covers : (c : Bool) (ps : List (List ℕ)) (i : ℕ) → i < length ps → 0 < length (get_or ps i [])
    → Covers (start_bytes c ps) c (get_or ps i [])
start_bytes-covers c ps i below some v bytes same =
    let p = get_or ps i [] in
    let set = is_start_byte c ps in
    let long = same_length c v p same in
    let v_some : 0 < length v = omega arith in
    let in_set : set (slice_index v 0) ≡ true = list_any_at
    (λ p. same_byte c (slice_index v 0) (slice_index p 0)) ps i [] below (same_byte_at c v p same 0 v_some) in
    let byte : slice_index v 0 < 256 = bytes 0 0 v_some in
    let in_table = is_in-table_of set (λ _. 0) (slice_index v 0) byte ∙ in_set in
    let value = distance_of-table_of set (λ _. 0) (slice_index v 0) byte
    ∙ cond-true (set (slice_index v 0)) (Some 0) None in_set in
    let at_first : position (is_in (start_bytes c ps)) v ≡ Some 0 = position_is
    (is_in (start_bytes c ps)) v 0 v_some in_table (λ k h. absurd (omega arith)) in
    let P : Option ℕ → Type 0 = λ o. MatchOption o ⊥
    (λ j. IfSome (distance_of (start_bytes c ps) (slice_index v j)) (λ d. j ≤ d)) in
    subst P (sym at_first) (if_some_at (distance_of (start_bytes c ps) (slice_index v 0)) 0 0 value (omega arith))

rare_bytes-covers : (c : Bool) (ps : List (List ℕ)) (i : ℕ) → i < length ps → 0 < length (get_or ps i [])
    → Covers (rare_bytes c ps) c (get_or ps i [])
rare_bytes-covers c ps i below some v bytes same =
    let p = get_or ps i [] in
    let set = is_rare_byte c ps in
    let far = largest_offset c ps in
    let long = same_length c v p same in
    let r = rare_reached c ps i below some in
    let at : r.0 < length v = omega (arith, r.1) in
    let in_set : set (slice_index v r.0) ≡ true = rare_closed c ps (slice_index p r.0) (slice_index v r.0) r.2
    (same_byte_turned c (slice_index v r.0) (slice_index p r.0) (same_byte_at c v p same r.0 at)) in
    covered (rare_bytes c ps) v r.0 at (is_in-table_of set far (slice_index v r.0) (bytes r.0 0 at) ∙ in_set)
    (λ j inside here.
    let b = slice_index v j in
    let byte : b < 256 = bytes j 0 inside in
    let value = distance_of-table_of set far b byte
    ∙ cond-true (set b) (Some (far b)) None (sym (is_in-table_of set far b byte) ∙ here) in
    let low = offset-le-offset_below c b p (length p) j (omega arith) (same_byte_at c v p same j inside) in
    if_some_at (distance_of (rare_bytes c ps) b) (far b) j value
    (omega (arith, offset-le-largest_offset c ps i b)))

if_small_is : (t u : List (Option ℕ)) → if_small t ≡ Some u → t ≡ u
if_small_is t u e = (cond_some (nat_le 1 (size t) && nat_le (size t) 3) t u e).1

start_table_is : (c : Bool) (ps : List (List ℕ)) (t : List (Option ℕ)) → start_table c ps ≡ Some t
    → start_bytes c ps ≡ t
start_table_is c ps t e = from (size (drop 128 (start_bytes c ps)) == 0) e
  where
    from : (b : Bool) → cond b (if_small (start_bytes c ps)) None ≡ Some t → start_bytes c ps ≡ t
    from true h = if_small_is (start_bytes c ps) t h
    from false h = absurd cc

rare_table_of : (c : Bool) (ps : List (List ℕ)) (t : List (Option ℕ)) → rare_table c ps ≡ Some t → rare_bytes c ps ≡ t
rare_table_of c ps t e =
    (cond_some ((nat_lt 0 (length ps) && list_all (λ p. nat_le (length p) 255) ps) && nat_le (size (rare_bytes c ps)) 3)
    (rare_bytes c ps) t e).1

pub start_table-covers : (c : Bool) (ps : List (List ℕ)) → NoneIsEmpty ps
    → IfSome (start_table c ps) (λ t. All (Covers t c) ps)
start_table-covers c ps some = from (start_table c ps) refl
  where
    from : (o : Option (List (Option ℕ))) → start_table c ps ≡ o → IfSome o (λ t. All (Covers t c) ps)
    from None e = tt
    from (Some t) e = λ i d below.
        let P : List (Option ℕ) → Type 0 = λ t. Covers t c (get_or ps i d) in
        let Q : List ℕ → Type 0 = λ p. Covers (start_bytes c ps) c p in
        subst P (start_table_is c ps t e) (subst Q (get_or_default ps i [] d below)
        (start_bytes-covers c ps i below (some i [] below)))

pub rare_table-covers : (c : Bool) (ps : List (List ℕ)) → NoneIsEmpty ps
    → IfSome (rare_table c ps) (λ t. All (Covers t c) ps)
rare_table-covers c ps some = from (rare_table c ps) refl
  where
    from : (o : Option (List (Option ℕ))) → rare_table c ps ≡ o → IfSome o (λ t. All (Covers t c) ps)
    from None e = tt
    from (Some t) e = λ i d below.
        let P : List (Option ℕ) → Type 0 = λ t. Covers t c (get_or ps i d) in
        let Q : List ℕ → Type 0 = λ p. Covers (rare_bytes c ps) c p in
        subst P (rare_table_of c ps t e) (subst Q (get_or_default ps i [] d below)
        (rare_bytes-covers c ps i below (some i [] below)))

-- a start table proposes the place of its byte
pub start_table-none_back : (c : Bool) (ps : List (List ℕ)) → IfSome (start_table c ps) (λ t. reach_of t ≡ 0)
start_table-none_back c ps = from (start_table c ps) refl
  where
    from : (o : Option (List (Option ℕ))) → start_table c ps ≡ o → IfSome o (λ t. reach_of t ≡ 0)
    from None e = tt
    from (Some t) e =
        let P : List (Option ℕ) → Type 0 = λ t. reach_of t ≡ 0 in
        subst P (start_table_is c ps t e) (reach_of-start_bytes c ps)
