-- The runs of bytes in rising order.
-- For `ByteClasses::element_ranges` and the laws on runs.
use Rattle.std.proofs.Common.{◌≡◌, ℕ, zero, suc, ◌+◌, ◌-◌, ◌<◌, ◌≤◌, List, [], ◌∷◌, ◌++◌}
use Rattle.std.proofs.Common.{length, get_or, ◌≢◌, sym, refl, ap, ◌∙◌, subst, ⊎_elim, arith}
use Rattle.std.specs.List.{All, AllPairs, Contains, flat_map, range_with_len}
use Rattle.std.proofs.lemmas.Bool.{cond-true, cond-false, eq-eqb, ne_eqb, cases_eq, cases_order}
use Rattle.std.proofs.lemmas.List.Elements.{All-nil, All-cons, All-head, All-tail, All-same, All-weaker}
use Rattle.std.proofs.lemmas.List.Elements.{Contains-append_cases}
use Rattle.std.proofs.lemmas.List.FromFn.{length-range_with_len, get_or-range_with_len}
use Rattle.std.proofs.lemmas.List.Kept.{AllPairs-cons}
use Rattle.literal_base.specs.Classes.{bytes_in, AreRuns}
use Rattle.literal_base.specs.Inside.Classes.{joined, runs_of}

abbrev Ordered : ℕ × ℕ → Type 0
Ordered run = run.0 ≤ run.1

abbrev Apart : ℕ × ℕ → ℕ × ℕ → Type 0
Apart run later = run.1 + 1 < later.0

later_pairs : {X : Type 0} (R : X → X → Type 0) (x : X) (xs : List X) → AllPairs R (x ∷ xs) → AllPairs R xs
later_pairs R x xs all i j d before below = all (suc i) (suc j) d (omega arith) (omega arith)

pairs_of_first : {X : Type 0} (R : X → X → Type 0) (x : X) (xs : List X) → AllPairs R (x ∷ xs) → All (R x) xs
pairs_of_first R x xs all k d below = all 0 (suc k) d (omega arith) (omega arith)

no_pairs : {X : Type 0} (R : X → X → Type 0) → AllPairs R []
no_pairs R i j d before below = absurd (omega arith)

-- the bytes of a range, the first apart
bytes_in-more : (first last : ℕ) → first ≤ last → bytes_in (first, last) ≡ first ∷ bytes_in (first + 1, last)
bytes_in-more first last ordered =
    let n : last + 1 - first ≡ suc (last + 1 - (first + 1)) = omega arith in
    ap (range_with_len first) n

bytes_in-one : (b : ℕ) → bytes_in (b, b) ≡ b ∷ []
bytes_in-one b =
    let n : b + 1 - b ≡ 1 = omega arith in
    ap (range_with_len b) n

-- a byte put before bytes above it
joined-AreRuns : (b : ℕ) (bytes : List ℕ) (runs : List (ℕ × ℕ)) → All (λ x. b < x) bytes → AreRuns bytes runs
    → AreRuns (b ∷ bytes) (joined (b, b) runs)
joined-AreRuns b bytes [] above are = record {
  none_empty = All-cons Ordered (b, b) [] (omega arith) (All-nil Ordered);
  apart = AllPairs-cons Apart (b, b) [] (All-nil (Apart (b, b))) (no_pairs Apart);
  whole = ap (λ xs. xs ++ []) (bytes_in-one b) ∙ ap (λ xs. b ∷ xs) are.whole;
}
joined-AreRuns b bytes ((first, last) ∷ more) above are =
    let rest = flat_map bytes_in more in
    let ordered : first ≤ last = All-head Ordered (first, last) more are.none_empty in
    let begins : first ∷ (bytes_in (first + 1, last) ++ rest) ≡ bytes = sym
    (ap (λ xs. xs ++ rest) (bytes_in-more first last ordered)) ∙ are.whole in
    let below : b < first = All-head (λ x. b < x) first _ (All-same (λ x. b < x) _ bytes begins above) in
    ⊎_elim
    (λ touches. subst (AreRuns (b ∷ bytes)) (sym (cond-true _ _ _ (eq-eqb first (b + 1) touches))) (record {
      none_empty = All-cons Ordered (b, last) more (omega arith) (All-tail Ordered (first, last) more are.none_empty);
      apart = AllPairs-cons Apart (b, last) more (pairs_of_first Apart (first, last) more are.apart)
          (later_pairs Apart (first, last) more are.apart);
      whole = ap (λ xs. xs ++ rest) (bytes_in-more b last (omega arith))
          ∙ ap (λ xs. b ∷ xs) (ap (λ n. bytes_in (n, last) ++ rest) (sym touches) ∙ are.whole);
    }))
    (λ alone. subst (AreRuns (b ∷ bytes)) (sym (cond-false _ _ _ (ne_eqb first (b + 1) alone))) (record {
      none_empty = All-cons Ordered (b, b) ((first, last) ∷ more) (omega arith) are.none_empty;
      apart = AllPairs-cons Apart (b, b) ((first, last) ∷ more)
          (All-cons (Apart (b, b)) (first, last) more (omega arith)
          (All-weaker (Apart (first, last)) (Apart (b, b)) (λ later far. omega arith) more
          (pairs_of_first Apart (first, last) more are.apart)))
          are.apart;
      whole = ap (λ xs. xs ++ flat_map bytes_in ((first, last) ∷ more)) (bytes_in-one b) ∙ ap (λ xs. b ∷ xs) are.whole;
    }))
    (cases_eq first (b + 1))

pub runs_of-AreRuns : (bytes : List ℕ) → AllPairs (λ x y. x < y) bytes → AreRuns bytes (runs_of bytes)
runs_of-AreRuns [] rise = record { none_empty = All-nil Ordered; apart = no_pairs Apart; whole = refl }
runs_of-AreRuns (b ∷ bytes) rise =
    joined-AreRuns b bytes (runs_of bytes) (pairs_of_first (λ x y. x < y) b bytes rise)
    (runs_of-AreRuns bytes (later_pairs (λ x y. x < y) b bytes rise))

-- the bytes of a range and then bytes that do not go on where it ends
runs_of-range : (n first last : ℕ) (rest : List ℕ) → first + n ≡ last
    → joined (last, last) (runs_of rest) ≡ (last, last) ∷ runs_of rest
    → runs_of (range_with_len first (suc n) ++ rest) ≡ (first, last) ∷ runs_of rest
runs_of-range zero first last rest ends alone =
    let one : first ≡ last = omega arith in
    subst (λ b. joined (b, b) (runs_of rest) ≡ (b, last) ∷ runs_of rest) (sym one) alone
runs_of-range (suc n) first last rest ends alone =
    ap (joined (first, first)) (runs_of-range n (first + 1) last rest (omega arith) alone)
    ∙ cond-true _ _ _ (eq-eqb (first + 1) (first + 1) refl)

apart_alone : (first last : ℕ) (more : List (ℕ × ℕ)) → All (Apart (first, last)) more
    → joined (first, last) more ≡ (first, last) ∷ more
apart_alone first last [] apart = refl
apart_alone first last (next ∷ more) apart =
    let far : last + 1 < next.0 = All-head (Apart (first, last)) next more apart in
    cond-false _ _ _ (ne_eqb next.0 (last + 1) (λ e. omega arith))

runs_of-flat_map : (runs : List (ℕ × ℕ)) → All Ordered runs → AllPairs Apart runs
    → runs_of (flat_map bytes_in runs) ≡ runs
runs_of-flat_map [] some apart = refl
runs_of-flat_map ((first, last) ∷ more) some apart =
    let rest = flat_map bytes_in more in
    let same : runs_of rest ≡ more = runs_of-flat_map more (All-tail Ordered (first, last) more some)
    (later_pairs Apart (first, last) more apart) in
    let ordered : first ≤ last = All-head Ordered (first, last) more some in
    let n : last + 1 - first ≡ suc (last - first) = omega arith in
    let alone = apart_alone last last more (pairs_of_first Apart (first, last) more apart) in
    ap (λ k. runs_of (range_with_len first k ++ rest)) n
    ∙ (runs_of-range (last - first) first last rest (omega arith)
    (ap (joined (last, last)) same ∙ (alone ∙ ap (λ runs. (last, last) ∷ runs) (sym same)))
    ∙ ap (λ runs. (first, last) ∷ runs) same)

-- what is the runs of bytes is those that the recursion computes
AreRuns-runs_of : (bytes : List ℕ) (runs : List (ℕ × ℕ)) → AreRuns bytes runs → runs_of bytes ≡ runs
AreRuns-runs_of bytes runs are = ap runs_of (sym are.whole) ∙ runs_of-flat_map runs are.none_empty are.apart

pub AreRuns_once : (bytes : List ℕ) (a b : List (ℕ × ℕ)) → AreRuns bytes a → AreRuns bytes b → a ≡ b
AreRuns_once bytes a b one two = sym (AreRuns-runs_of bytes a one) ∙ AreRuns-runs_of bytes b two

length-joined-le : (run : ℕ × ℕ) (runs : List (ℕ × ℕ)) → length (joined run runs) ≤ suc (length runs)
length-joined-le run [] = omega arith
length-joined-le run (next ∷ more) = grind arith

pub length-runs_of-le : (bytes : List ℕ) → length (runs_of bytes) ≤ length bytes
length-runs_of-le [] = omega arith
length-runs_of-le (b ∷ bytes) = omega (arith, length-joined-le (b, b) (runs_of bytes), length-runs_of-le bytes)

in_range : (range : ℕ × ℕ) (x : ℕ) → Contains (bytes_in range) x → (range.0 ≤ x) × (x ≤ range.1)
in_range range x (k, below, is) =
    let n = range.1 + 1 - range.0 in
    let here : k < n = omega (arith, length-range_with_len range.0 n) in
    let place : x ≡ range.0 + k = sym is ∙ get_or-range_with_len range.0 n k x here in
    (omega arith, omega arith)

-- each byte lies in a run
in_a_run : (runs : List (ℕ × ℕ)) (x : ℕ) (d : ℕ × ℕ) → Contains (flat_map bytes_in runs) x → (j : ℕ) × (j < length runs)
    × ((get_or runs j d).0 ≤ x) × (x ≤ (get_or runs j d).1)
in_a_run [] x d (k, below, is) = absurd (omega arith)
in_a_run (run ∷ runs) x d has =
    ⊎_elim
    (λ here. let within = in_range run x here in (0, omega arith, within.0, within.1))
    (λ later. let found = in_a_run runs x d later in (suc found.0, omega arith, found.2, found.3))
    (Contains-append_cases (bytes_in run) (flat_map bytes_in runs) x has)

not_beside : (bytes : List ℕ) (runs : List (ℕ × ℕ)) → AreRuns bytes runs → (k : ℕ) (d : ℕ × ℕ) → k < length runs
    → (x : ℕ) → Contains bytes x → (x ≢ (get_or runs k d).1 + 1) × (x + 1 ≢ (get_or runs k d).0)
not_beside bytes runs are k d below x has =
    let found = in_a_run runs x d (subst (λ xs. Contains xs x) (sym are.whole) has) in
    let ordered : (get_or runs k d).0 ≤ (get_or runs k d).1 = are.none_empty k d below in
    let low : (get_or runs found.0 d).0 ≤ x = found.2 in
    let high : x ≤ (get_or runs found.0 d).1 = found.3 in
    ⊎_elim
    (λ same.
    let low : (get_or runs k d).0 ≤ x = subst (λ j. (get_or runs j d).0 ≤ x) same low in
    let high : x ≤ (get_or runs k d).1 = subst (λ j. x ≤ (get_or runs j d).1) same high in
    (λ e. omega arith, λ e. omega arith))
    (λ other. ⊎_elim
    (λ before. let apart : (get_or runs found.0 d).1 + 1 < (get_or runs k d).0 = are.apart found.0 k d before below in
    (λ e. omega arith, λ e. omega arith))
    (λ after. let apart : (get_or runs k d).1 + 1 < (get_or runs found.0 d).0 = are.apart k found.0 d after found.1 in
    (λ e. omega arith, λ e. omega arith))
    other)
    (cases_order found.0 k)

pub runs_maximal : (bytes : List ℕ) (runs : List (ℕ × ℕ)) → AreRuns bytes runs
    → All (λ run. ¬ Contains bytes (run.1 + 1) × (0 < run.0 → ¬ Contains bytes (run.0 - 1))) runs
runs_maximal bytes runs are k d below = (
  λ has. (not_beside bytes runs are k d below _ has).0 refl,
  λ some has. (not_beside bytes runs are k d below _ has).1 (omega arith),
)
