-- The counts of a search for the two bytes of each number from 0 to 65534, in the bytes of the last.
-- For the law `worked_counts_of_65535_patterns`.
use Rattle.std.proofs.Common.{◌≡◌, ◌==◌, ℕ, ◌+◌, ◌*◌, ◌/◌, ◌%◌, ◌^◌, ◌<◌, ◌&&◌, ◌||◌, Bool, true, false, cond, List}
use Rattle.std.proofs.Common.{[], ◌∷◌, length, take, Some, sym, ap, ◌∙◌, subst, zero-add, arith}
use Rattle.std.specs.List.{All, count_by, range_with_len, slice_range}
use Rattle.std.proofs.lemmas.Bool.{eq-eqb, ne_eqb}
use Rattle.std.proofs.lemmas.List.{get_or_default}
use Rattle.std.proofs.lemmas.List.FromFn.{get_or-range_with_len, length-range_with_len}
use Rattle.literal_base.specs.declared.packed.MatchKind.TheVariants.{LeftmostFirst}
use Rattle.literal_base.specs.Leftmost.{is_better}
use Rattle.literal_base.specs.Occurs.{pattern_at, whole_of}
use Rattle.literal_base.specs.Query.{Query}
use Rattle.literal_packed.specs.PatternsValue.{minimum_len_of}
use Rattle.literal_packed.specs.Sum.{sum_of}
use Rattle.literal_packed.specs.Pairs.{has_equal_sum, key_of, pairs_up_to, window_sum}
use Rattle.literal_packed.proofs.lemmas.Lists.{count_by-append, count_by-cons, count_by-none, range-push}
use Rattle.literal_packed.proofs.lemmas.MinimumLen.{minimum_len_of-reached}

-- of the numbers up to k, the last alone passes a test
count_last : (p : ℕ → Bool) (k : ℕ) → ((i : ℕ) → i < k → p i ≡ false) → p k ≡ true
    → count_by p (range_with_len 0 (k + 1)) ≡ 1
count_last p k none last =
    let before : count_by p (range_with_len 0 k) ≡ 0 = count_by-none p (range_with_len 0 k)
    (λ i d below.
    let within : i < k = omega (arith, below, length-range_with_len 0 k) in
    subst (λ j. p j ≡ false) (sym (get_or-range_with_len 0 k i d within ∙ zero-add i)) (none i within)) in
    let here : count_by p (k ∷ []) ≡ 1 = count_by-cons p k [] ∙ ap (λ b. cond b 1 0 + 0) last in
    ap (count_by p) (range-push k)
    ∙ (count_by-append p (range_with_len 0 k) (k ∷ []) ∙ omega (arith, before, here))

-- the sum of two bytes
sum_of_two : (a b : ℕ) → a < 256 → b < 256 → sum_of (a ∷ b ∷ []) ≡ a * 2 + b
sum_of_two a b = omega arith

module _ (patterns : List (List ℕ)) (many : length patterns ≡ 65535)
    (each : (n : ℕ) → n < 65535 → pattern_at patterns n ≡ n / 256 ∷ n % 256 ∷ []) where
  short : All (λ (bytes : List ℕ). length bytes < 2 ^ 64) patterns
  short k d below =
      let is = get_or_default patterns k d [] below ∙ each k (omega (arith, many, below)) in
      omega (arith, ap length is)

  pub minimum_is : minimum_len_of patterns ≡ 2
  minimum_is =
      let reached = minimum_len_of-reached patterns (omega (arith, many)) short in
      sym reached.2 ∙ ap length (each reached.0 (omega (arith, many, reached.1)))

  key_is : (i : ℕ) → i < 65535 → key_of patterns i ≡ i / 256 * 2 + i % 256
  key_is i below = ap (λ m. sum_of (take m (pattern_at patterns i))) minimum_is
      ∙ (ap (λ bytes. sum_of (take 2 bytes)) (each i below)
      ∙ sum_of_two (i / 256) (i % 256) (omega (arith, below)) (omega (arith, below)))

  window_is : window_sum patterns (255 ∷ 254 ∷ []) 0 ≡ 764
  window_is = ap (λ m. sum_of (slice_range (255 ∷ 254 ∷ []) 0 (0 + m))) minimum_is

  abbrev query : Query
  query = record { kind = LeftmostFirst; patterns = patterns }

  abbrev equal : ℕ → Bool
  equal = has_equal_sum patterns (255 ∷ 254 ∷ []) 0

  -- whether a pattern counts
  abbrev counts : ℕ → Bool
  counts i = equal i && (i == 65534 || is_better LeftmostFirst patterns i 65534)

  none : (i : ℕ) → i < 65534 → counts i ≡ false
  none i below =
      let key = key_is i (omega (arith, below)) in
      let other : equal i ≡ false = ne_eqb _ _ (λ e. omega (arith, below, e, window_is, key)) in
      ap (λ b. b && (i == 65534 || is_better LeftmostFirst patterns i 65534)) other

  last : counts 65534 ≡ true
  last =
      let same : equal 65534 ≡ true = eq-eqb _ _ (key_is 65534 (omega arith) ∙ sym window_is) in
      ap (λ b. b && (65534 == 65534 || is_better LeftmostFirst patterns 65534 65534)) same

  pub compared_one : pairs_up_to (has_equal_sum patterns (255 ∷ 254 ∷ [])) query (whole_of (255 ∷ 254 ∷ []))
      (Some (record { pattern = 65534; start = 0; end = 2 })) ≡ 1
  compared_one =
      let all : length patterns ≡ 65534 + 1 = many in
      zero-add _ ∙ (ap (λ n. count_by counts (range_with_len 0 n)) all ∙ count_last counts 65534 none last)
