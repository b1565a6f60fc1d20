use Rattle.std.proofs.Common.{◌≡◌, ℕ, ◌+◌, ◌-◌, ◌≤◌, Bool, true, false, List, length, None, refl, ap, ◌∙◌, arith}
use Rattle.std.specs.Prelude.{if◌then◌else◌, nat_lt}
use Rattle.literal_base.specs.Occurs.{between}
use Rattle.literal_packed.specs.Pairs.{has_equal_bucket, has_equal_sum, hashed_up_to, pairs_in}
use Rattle.literal_packed.specs.PatternsValue.{minimum_len_of}
use Rattle.literal_packed.proofs.lemmas.MinimumLen.{minimum_len_of_some}
use Rattle.literal_packed.proofs.lemmas.PlaceCounts.{pairs_between-none, same_three}
use Rattle.literal_packed.proofs.laws.empty_spans_count_nothing.Goals as goal

zero_either : (b : Bool) → ◌≡◌ {A = ℕ} (if b then 0 else 0) 0
zero_either true = refl
zero_either false = refl

-- no byte of an empty span is hashed
hashed_none : (patterns : List (List ℕ)) (at : ℕ) → hashed_up_to patterns (between at at) None ≡ 0
hashed_none patterns at =
    let none : at - at ≡ 0 = omega arith in
    ap (λ k. if nat_lt k (minimum_len_of patterns) then 0 else k) none
    ∙ zero_either (nat_lt 0 (minimum_len_of patterns))

-- no window lies in it
pairs_none : (test : ℕ → ℕ → Bool) (patterns : List (List ℕ)) (at : ℕ) → 1 ≤ minimum_len_of patterns
    → pairs_in test patterns (between at at) ≡ 0
pairs_none test patterns at some =
    pairs_between-none test (length patterns) at (at + 1 - minimum_len_of patterns) (omega arith)

pub returns : goal.returns
returns c old query haystack at not_empty =
    let some = minimum_len_of_some query.patterns not_empty in
    let hashed = hashed_none query.patterns at in
    let entries = pairs_none (has_equal_bucket query.patterns haystack) query.patterns at some in
    let compared = pairs_none (has_equal_sum query.patterns haystack) query.patterns at some in
    same_three old (old.hashed + hashed_up_to query.patterns (between at at) None)
    (old.entries + pairs_in (has_equal_bucket query.patterns haystack) query.patterns (between at at))
    (old.compared + pairs_in (has_equal_sum query.patterns haystack) query.patterns (between at at))
    old.hashed old.entries old.compared (omega (arith, hashed)) (omega (arith, entries)) (omega (arith, compared))
