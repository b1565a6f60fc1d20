-- Which pattern is better, and the test of it.
-- For the law `better_is_tested`, and the counts of a search.
use Rattle.std.proofs.Common.{inl, inr, arith, ◌≡◌, ℕ, Bool, true, false, ◌||◌, eqb, List, length}
use Rattle.std.specs.Bool.{Decides}
use Rattle.std.proofs.lemmas.Bool.{false_from_ne_true, or_from, or_left, or_right, eq-eqb}
use Rattle.std.proofs.lemmas.Bool.Decides.{Decides-ltb, Decides-eqb, Decides-and, Decides-or}
use Rattle.literal_base.specs.declared.packed.MatchKind.{MatchKind}
use Rattle.literal_base.specs.declared.packed.MatchKind.TheVariants.{LeftmostFirst, LeftmostLongest}
use Rattle.literal_base.specs.Occurs.{pattern_at}
use Rattle.literal_base.specs.Leftmost.{IsBetter, is_better}

-- no two patterns are better than each other
pub better_asymmetric : (kind : MatchKind) (patterns : List (List ℕ)) (i j : ℕ) → IsBetter kind patterns i j
    → IsBetter kind patterns j i → ⊥
better_asymmetric LeftmostFirst patterns i j a b = omega arith
better_asymmetric LeftmostLongest patterns i j a b =
    elim a [
      | inl longer ↦ elim b [ inl shorter ↦ omega arith | inr same ↦ omega arith ]
      | inr same ↦ elim b [ inl shorter ↦ omega arith | inr again ↦ omega arith ]
    ]

pub Decides-is_better : (kind : MatchKind) (patterns : List (List ℕ)) (i j : ℕ)
    → Decides (is_better kind patterns i j) (IsBetter kind patterns i j)
Decides-is_better LeftmostFirst patterns i j = Decides-ltb i j
Decides-is_better LeftmostLongest patterns i j =
    let li = length (pattern_at patterns i) in
    let lj = length (pattern_at patterns j) in
    Decides-or _ _ (Decides-ltb lj li) (Decides-and _ _ (Decides-eqb li lj) (Decides-ltb i j))

-- what is pattern j or better
abbrev pub is_up_to : MatchKind → List (List ℕ) → ℕ → ℕ → Bool
is_up_to kind patterns j i = eqb i j || is_better kind patterns i j

pub up_to_better : (kind : MatchKind) (patterns : List (List ℕ)) (j i : ℕ) → IsBetter kind patterns i j
    → is_up_to kind patterns j i ≡ true
up_to_better kind patterns j i better = or_right (eqb i j) _ ((Decides-is_better kind patterns i j).1 better)

pub up_to_self : (kind : MatchKind) (patterns : List (List ℕ)) (j i : ℕ) → i ≡ j → is_up_to kind patterns j i ≡ true
up_to_self kind patterns j i same = or_left (eqb i j) _ (eq-eqb i j same)

pub up_to_worse : (kind : MatchKind) (patterns : List (List ℕ)) (j i : ℕ) → IsBetter kind patterns j i
    → is_up_to kind patterns j i ≡ false
up_to_worse kind patterns j i worse =
    or_from _ _
    (false_from_ne_true (eqb i j) (λ is. let same : i ≡ j = (Decides-eqb i j).0 is in let self = rw same at worse in
    better_asymmetric kind patterns j j self self))
    (false_from_ne_true (is_better kind patterns i j)
    (λ is. better_asymmetric kind patterns j i worse ((Decides-is_better kind patterns i j).0 is)))
