-- What a check over numbers tells apart. For `check_over`, `changed_number_is_found` and `zeros_are_refused`.
use Rattle.std.proofs.lemmas.Grind.{common_steps}
use Rattle.std.proofs.Common.{◌≡◌, ◌≢◌, ℕ, ◌+◌, ◌*◌, ◌/◌, ◌%◌, ◌<◌, ◌^◌, List, [], ◌∷◌, ◌++◌, ◌∙◌, arith, ap, sym, refl}
use Rattle.std.proofs.lemmas.List.Elements.{All-head, All-tail}
use Rattle.std.proofs.lemmas.Nat.{div-add-mod', xor_of_32, xor_shr}
use Rattle.std.proofs.Math.Nat.{div-div-eq-div-mul, div-eq_of_lt, mod-lt}
use Rattle.std.specs.Int.Bits.{bit_xor, xor_zero_r}
use Rattle.std.specs.List.{All, fold}
use Rattle.std.proofs.lemmas.List.Sums.{fold-append}
use Rattle.literal_rows.specs.Arrays.{Checks, check_of, check_of_four, check_with, checks_with, joined_with}
use Rattle.literal_rows.specs.Arrays.{stirred}

-- a number with its upper half in its lower one too
abbrev mixed : ℕ → ℕ
mixed number = bit_xor number (number / 2 ^ 16)

-- the upper half stays
upper_stays : (number : ℕ) → number < 2 ^ 32 → mixed number / 2 ^ 16 ≡ number / 2 ^ 16
upper_stays number small =
    xor_shr number (number / 2 ^ 16) 16
    ∙ ap (bit_xor (number / 2 ^ 16)) (div-div-eq-div-mul number (2 ^ 16) (2 ^ 16) ∙ div-eq_of_lt small)
    ∙ xor_zero_r (number / 2 ^ 16)

-- so mixing once more takes it out again
mixed_twice : (number : ℕ) → number < 2 ^ 32 → mixed (mixed number) ≡ number
mixed_twice number small = grind (arith, common_steps, upper_stays)

mixed_small : (number : ℕ) → number < 2 ^ 32 → mixed number < 2 ^ 32
mixed_small number small = grind (arith, div-add-mod', xor_of_32)

-- the factor is odd, so only equal numbers are stirred to the same
stirred_tells : (one other : ℕ) → one < 2 ^ 32 → other < 2 ^ 32 → stirred one ≡ stirred other → one ≡ other
stirred_tells one other small small' same =
    sym (mixed_twice one small) ∙ ap mixed (grind (arith, mixed_small)) ∙ mixed_twice other small'

-- so behind the same number only equal checks are equal, and behind the same check only equal numbers make it equal
with_tells : (check number check' number' : ℕ) → check_with check number ≡ check_with check' number'
    → (check + number) % 2 ^ 32 ≡ (check' + number') % 2 ^ 32
with_tells check number check' number' = grind (arith, stirred_tells)

same_before : (one other number : ℕ) → one < 2 ^ 32 → other < 2 ^ 32
    → check_with one number ≡ check_with other number → one ≡ other
same_before one other number small small' same = grind (arith, with_tells)

pub same_added : (check one other : ℕ) → one < 2 ^ 32 → other < 2 ^ 32
    → check_with check one ≡ check_with check other → one ≡ other
same_added check one other small small' same = grind (arith, with_tells)

-- a check is a number of 32 bits
pub check_small : (check number : ℕ) → check_with check number < 2 ^ 32
check_small check number = mod-lt (mixed ((check + number) % 2 ^ 32) * 16777619) (omega arith)

-- the same of two checks
joined_small : (check other : ℕ) → joined_with check other < 2 ^ 32
joined_small check other = check_small (check_with check other) 0

joined_before : (one other behind : ℕ) → one < 2 ^ 32 → other < 2 ^ 32
    → joined_with one behind ≡ joined_with other behind → one ≡ other
joined_before one other behind small small' same = grind (arith, check_small, same_before)

joined_added : (check one other : ℕ) → one < 2 ^ 32 → other < 2 ^ 32
    → joined_with check one ≡ joined_with check other → one ≡ other
joined_added check one other small small' same = grind (arith, check_small, same_added, same_before)

-- the four checks at the start
abbrev pub at_first : Checks
at_first = record { first = 2166136261; second = 0; third = 0; fourth = 0 }

-- the check of four after more numbers
abbrev after : ℕ → ℕ → ℕ → ℕ → List ℕ → ℕ
after a b c d more =
    check_of_four (fold checks_with (record { first = a; second = b; third = c; fourth = d }) more)

-- if it is the same by another of the four, that one is the same
pub record Tells (more : List ℕ) : Type 0 where
  pub first : (a other b c d : ℕ) → a < 2 ^ 32 → other < 2 ^ 32 → after a b c d more ≡ after other b c d more
      → a ≡ other
  pub second : (a b other c d : ℕ) → b < 2 ^ 32 → other < 2 ^ 32 → after a b c d more ≡ after a other c d more
      → b ≡ other
  pub third : (a b c other d : ℕ) → c < 2 ^ 32 → other < 2 ^ 32 → after a b c d more ≡ after a b other d more
      → c ≡ other
  pub fourth : (a b c d other : ℕ) → d < 2 ^ 32 → other < 2 ^ 32 → after a b c d more ≡ after a b c other more
      → d ≡ other

pub tells : (more : List ℕ) → Tells more
tells [] = grind (arith, joined_added, joined_before, joined_small)
tells (number ∷ more) =
    let rest = tells more in
    let w = check_with in
    record {
      first = λ a other b c d small small' same. same_before a other number small small'
          (rest.fourth b c d (w a number) (w other number) (check_small a number) (check_small other number) same);
      second = λ a b other c d small small' same. rest.first b other c d (w a number) small small' same;
      third = λ a b c other d small small' same. rest.second b c other d (w a number) small small' same;
      fourth = λ a b c d other small small' same. rest.third b c d other (w a number) small small' same;
    }

-- a change of one number is found
pub change_is_found : (before behind : List ℕ) (one other : ℕ) → one < 2 ^ 32 → other < 2 ^ 32
    → check_of (before ++ one ∷ behind) ≡ check_of (before ++ other ∷ behind) → one ≡ other
unfolding check_of
change_is_found before behind one other small small' same =
    let q = fold checks_with at_first before in
    same_added q.first one other small small'
    ((tells behind).fourth q.second q.third q.fourth (check_with q.first one) (check_with q.first other)
    (check_small q.first one) (check_small q.first other)
    (sym (ap check_of_four (fold-append checks_with at_first before (one ∷ behind)))
    ∙ (same ∙ ap check_of_four (fold-append checks_with at_first before (other ∷ behind)))))

-- zeros keep checks of zero
abbrev zeros_of_four : Checks
zeros_of_four = record { first = 0; second = 0; third = 0; fourth = 0 }

zeros_keep : (zeros : List ℕ) → All (λ number. number ≡ 0) zeros → fold checks_with zeros_of_four zeros ≡ zeros_of_four
zeros_keep [] are = refl
zeros_keep (number ∷ zeros) are =
    grind (arith, All-head, All-tail, zeros_keep zeros (All-tail (λ n. n ≡ 0) number zeros are))

pub zeros_are_told : (zeros : List ℕ) → All (λ number. number ≡ 0) zeros → check_of zeros ≢ 0
unfolding check_of
zeros_are_told zeros are is =
    omega (
      arith,
      (tells zeros).first 2166136261 0 0 0 0 (omega arith) (omega arith)
          (is ∙ sym (ap check_of_four (zeros_keep zeros are))),
    )
