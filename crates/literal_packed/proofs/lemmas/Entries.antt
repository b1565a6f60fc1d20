-- How the list of entries is filled, in match order.
-- For `RabinKarp::new`.
use Rattle.std.proofs.Common.{◌≡◌, ℕ, ◌+◌, ◌*◌, List, [], ◌∷◌, ◌++◌, length, map, get_or, refl, sym, ap, subst, ◌∙◌}
use Rattle.std.proofs.Common.{arith}
use Rattle.std.specs.List.{All, range_with_len}
use Rattle.std.proofs.lemmas.List.Sorted.{length_permutation}
use Rattle.std.proofs.lemmas.List.FromFn.{length-range_with_len}
use Rattle.std.proofs.lemmas.List.{length_push, length-map, get_or_at, length-append, append-nil}
use Rattle.std.proofs.lemmas.List.Elements.{All-map}
use Rattle.literal_base.specs.Counts.{Counts}
use Rattle.literal_base.specs.Occurs.{pattern_at}
use Rattle.literal_packed.specs.PatternsValue.{PatternsValue, IsWellFormed, in_order}
use Rattle.literal_packed.specs.Pairs.{key_of}
use Rattle.literal_packed.specs.RabinKarpValue.{entries_of}

-- the pattern of the one that is next in order
pub pattern_of_head : (c : PatternsValue) (done left : List (ℕ × List ℕ)) (x : ℕ × List ℕ)
    → done ++ x ∷ left ≡ in_order c → x.1 ≡ pattern_at c.patterns x.0
pattern_of_head c done left x split =
    let IsPair : ℕ × List ℕ → Type 0 = λ p. p.1 ≡ pattern_at c.patterns p.0 in
    let all : All IsPair (done ++ x ∷ left) = subst (All IsPair) (sym split)
    (All-map IsPair (λ (i : ℕ). (i, pattern_at c.patterns i)) c.order (λ i d h. refl)) in
    let here : get_or (done ++ x ∷ left) (length done) x ≡ x = get_or_at done x left x (length done) refl in
    subst IsPair here (all (length done) x (omega (arith, length-append done (x ∷ left))))

abbrev pub entry_of : PatternsValue → ℕ × List ℕ → ℕ × ℕ
entry_of c p = (key_of c.patterns p.0, p.0)

entries_of_pairs : (c : PatternsValue) (xs : List ℕ)
    → map (entry_of c) (map (λ (i : ℕ). (i, pattern_at c.patterns i)) xs) ≡ map (λ (i : ℕ). (key_of c.patterns i, i)) xs
entries_of_pairs c [] = refl
entries_of_pairs c (x ∷ xs) = ap (λ ys. (key_of c.patterns x, x) ∷ ys) (entries_of_pairs c xs)

pub entries_all : (c : PatternsValue) (done : List (ℕ × List ℕ)) (entries : List (ℕ × ℕ)) → done ++ [] ≡ in_order c
    → entries ≡ map (entry_of c) done → entries ≡ entries_of c
entries_all c done entries all is =
    is ∙ (ap (map (entry_of c)) (sym (append-nil done) ∙ all) ∙ entries_of_pairs c c.order)

-- the counts after the first bytes of n patterns were hashed
abbrev pub hashed_of : Counts → ℕ → ℕ → Counts
hashed_of old n window = record old { hashed = old.hashed + n * window }

pub hashed_more : (old now new : Counts) (done : List (ℕ × List ℕ)) (x : ℕ × List ℕ) (window : ℕ)
    → now ≡ hashed_of old (length done) window
    → new ≡ record now { hashed = now.hashed + window } → new ≡ hashed_of old (length (done ++ x ∷ [])) window
hashed_more old now new done x window is next =
    let step : Counts → Counts = λ t. record t { hashed = t.hashed + window } in
    let f : ℕ → Counts = λ k. record old { hashed = k } in
    let long : length (done ++ x ∷ []) ≡ length done + 1 = length_push done x in
    let sum : old.hashed + length done * window + window ≡ old.hashed + (length done + 1) * window = omega arith in
    next ∙ (ap step is ∙ (ap f sum ∙ ap (λ n. hashed_of old n window) (sym long)))

-- each pattern was taken once
pub length_all : (c : PatternsValue) (done : List (ℕ × List ℕ)) → IsWellFormed c → done ≡ in_order c
    → length done ≡ length c.patterns
length_all c done w all =
    ap length all
    ∙ (length-map c.order (λ (i : ℕ). (i, pattern_at c.patterns i))
    ∙ (length_permutation (range_with_len 0 (length c.patterns)) c.order w.once
    ∙ length-range_with_len 0 (length c.patterns)))
