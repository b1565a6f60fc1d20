-- The tables of a list of patterns, from the sets and distances that the code builds.
-- For `ByteTable::of_start_bytes` and `add_rarest`.
use Rattle.std.proofs.Common.{◌≡◌, ℕ, ◌<◌, ◌≤◌, cond, Bool, true, false, length, drop, Some, None, is_some}
use Rattle.std.proofs.Common.{refl, ap, ◌∙◌, arith}
use Rattle.std.proofs.lemmas.Bool.{cond-true, cond-false, ne_eqb, eq-eqb}
use Rattle.literal_base.proofs.lemmas.Callers.{by_byte_agree, length-by_byte, get_or-by_byte}
use Rattle.literal_prefilters.specs.Table.{size, is_in, distance_of}
use Rattle.literal_prefilters.specs.Tables.{table_of, of_set, if_low, if_small}
use Rattle.literal_prefilters.proofs.lemmas.Sizes.{size_some, size_drop_some, size_drop_none}

pub table_of_agree : (p q : ℕ → Bool) (f g : ℕ → ℕ) → ((b : ℕ) → p b ≡ q b) → ((b : ℕ) → f b ≡ g b)
    → table_of p f ≡ table_of q g
table_of_agree p q f g same_set same_distance =
    by_byte_agree (λ b. cond (p b) (Some (f b)) None) (λ b. cond (q b) (Some (g b)) None)
    (λ b _. ap (λ t. cond t (Some (f b)) None) (same_set b) ∙ ap (λ d. cond (q b) (Some d) None) (same_distance b))

pub distance_of-table_of : (p : ℕ → Bool) (f : ℕ → ℕ) (b : ℕ) → b < 256
    → distance_of (table_of p f) b ≡ cond (p b) (Some (f b)) None
distance_of-table_of p f b below = get_or-by_byte (λ b. cond (p b) (Some (f b)) None) b None below

some_is : (t : Bool) (d : ℕ) → is_some (cond t (Some d) None) ≡ t
some_is true d = refl
some_is false d = refl

pub is_in-table_of : (p : ℕ → Bool) (f : ℕ → ℕ) (b : ℕ) → b < 256 → is_in (table_of p f) b ≡ p b
is_in-table_of p f b below = ap is_some (distance_of-table_of p f b below) ∙ some_is (p b) (f b)

pub length-table_of : (p : ℕ → Bool) (f : ℕ → ℕ) → length (table_of p f) ≡ 256
length-table_of p f = length-by_byte (λ b. cond (p b) (Some (f b)) None)

pub if_low_none : (p : ℕ → Bool) (b : ℕ) → 127 < b → b < 256 → p b ≡ true → if_low (of_set p) ≡ None
if_low_none p b high below here =
    let t = of_set p in
    let some : 1 ≤ size (drop 128 t) =
    size_drop_some t 128 b (omega arith) (omega (arith, length-table_of p (λ _. 0)))
    (is_in-table_of p (λ _. 0) b below ∙ here)
    in
    cond-false _ _ _ (ne_eqb (size (drop 128 t)) 0 (λ e. omega arith))

pub if_low_some : (p : ℕ → Bool) → ((b : ℕ) → 127 < b → b < 256 → p b ≡ false)
    → if_low (of_set p) ≡ if_small (of_set p)
if_low_some p none =
    cond-true _ _ _ (eq-eqb _ _ (size_drop_none (of_set p) 128
    (λ b high below. let inside : b < 256 = omega (arith, length-table_of p (λ _. 0)) in
    is_in-table_of p (λ _. 0) b inside ∙ none b (omega arith) inside)))

pub set_some : (p : ℕ → Bool) (b : ℕ) → b < 256 → p b ≡ true → 1 ≤ size (of_set p)
set_some p b below here =
    size_some (of_set p) b (omega (arith, length-table_of p (λ _. 0))) (is_in-table_of p (λ _. 0) b below ∙ here)
