-- How many bytes a table has.
-- For the tables of a list of patterns.
use Rattle.std.proofs.Common.{◌≡◌, ℕ, ◌+◌, ◌-◌, ◌*◌, ◌<◌, ◌≤◌, cond, true, false, List, length, get_or, drop, Option}
use Rattle.std.proofs.Common.{None, is_some, ap, ◌∙◌, arith}
use Rattle.std.proofs.lemmas.Bool.{cond-true, cond-false}
use Rattle.std.proofs.lemmas.List.{length-drop, get_or-drop, get_or_default}
use Rattle.std.proofs.lemmas.List.Sums.{get_or-le-sum_by, sum_by-le}
use Rattle.literal_prefilters.specs.Table.{size, is_in}

-- what a byte counts
abbrev pub one : Option ℕ → ℕ
one o = cond (is_some o) 1 0

pub size_some : (t : List (Option ℕ)) (b : ℕ) → b < length t → is_in t b ≡ true → 1 ≤ size t
size_some t b below here =
    let at : one (get_or t b None) ≡ 1 = cond-true _ _ _ here in
    omega (arith, get_or-le-sum_by one t b None below)

-- a byte from n on is in the table
pub size_drop_some : (t : List (Option ℕ)) (n b : ℕ) → n ≤ b → b < length t → is_in t b ≡ true → 1 ≤ size (drop n t)
size_drop_some t n b after below here =
    let same : n + (b - n) ≡ b = omega arith in
    size_some (drop n t) (b - n) (omega (arith, length-drop n t))
    (ap is_some (get_or-drop n t (b - n) None ∙ ap (λ k. get_or t k None) same) ∙ here)

-- none is
pub size_drop_none : (t : List (Option ℕ)) (n : ℕ) → ((b : ℕ) → n ≤ b → b < length t → is_in t b ≡ false)
    → size (drop n t) ≡ 0
size_drop_none t n none =
    let low : size (drop n t) ≤ length (drop n t) * 0 = sum_by-le one 0 (drop n t) (λ k d below.
    let inside : n + k < length t = omega (arith, length-drop n t) in
    let at : one (get_or (drop n t) k d) ≡ 0 = ap one
    (get_or_default (drop n t) k d None below ∙ get_or-drop n t k None)
    ∙ cond-false _ _ _ (none (n + k) (omega arith) inside) in
    omega arith)
    in
    omega arith
