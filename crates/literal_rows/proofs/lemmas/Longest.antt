-- How long the longest of some patterns is.
use Rattle.std.proofs.Common.{◌≡◌, ℕ, ◌<◌, ◌≤◌, List, [], ◌∷◌, arith, length, suc, zero}
use Rattle.std.specs.List.{All}
use Rattle.literal_base.specs.Occurs.{pattern_at}
use Rattle.literal_rows.specs.Patterns.{longest_of}

-- no pattern is longer
pub longest_is : (patterns : List (List ℕ)) (i : ℕ) → length (pattern_at patterns i) ≤ longest_of patterns
longest_is [] i = omega arith
longest_is (bytes ∷ more) zero = omega arith
longest_is (bytes ∷ more) (suc i) = omega (arith, longest_is more i)

pub longest_only : (patterns : List (List ℕ)) → length patterns ≡ 1
    → longest_of patterns ≡ length (pattern_at patterns 0)
longest_only [] one = absurd (omega arith)
longest_only (bytes ∷ []) one = omega arith
longest_only (bytes ∷ other ∷ more) one = absurd (omega arith)

pub longest_short : (patterns : List (List ℕ)) (n : ℕ) → 0 < n → All (λ (bytes : List ℕ). length bytes < n) patterns
    → longest_of patterns < n
longest_short [] n some all = some
longest_short (bytes ∷ more) n some all =
    let first = all 0 [] (omega arith) in
    omega (arith, first, longest_short more n some (λ i d below. all (suc i) d (omega (arith, below))))
