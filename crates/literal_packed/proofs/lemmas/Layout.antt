-- How the list of entries comes of its buckets, and where each begins.
-- For `worked_layout`.
use Rattle.std.proofs.Common.{◌≡◌, ℕ, ◌+◌, ◌-◌, ◌<◌, ◌≤◌, inl, inr, List, [], ◌∷◌, ◌++◌, length, map, take, refl}
use Rattle.std.proofs.Common.{zero, suc, sym, ap, subst, ◌∙◌, arith, append-nil, zero-add}
use Rattle.std.specs.List.{filter, flat_map, range_with_len}
use Rattle.std.proofs.Math.Seq.{take-add, take-length}
use Rattle.std.proofs.lemmas.Bool.{cases_lt}
use Rattle.std.proofs.lemmas.List.{length-take-le}
use Rattle.std.proofs.lemmas.List.Concat.{flat_map-append}
use Rattle.std.proofs.lemmas.List.FromFn.{map-range_with_len_more}
use Rattle.literal_packed.specs.Inside.Entries.{AreBucketsOf, AreStarts, start_at, part_at, entry_buckets}
use Rattle.literal_packed.proofs.lemmas.LaidOut.{buckets_at}
use Rattle.literal_packed.proofs.lemmas.Lists.{range-push}
use Rattle.literal_packed.proofs.lemmas.Parts.{in_bucket, starts_ordered}

module _ (given : List (ℕ × ℕ)) (starts : List ℕ) (entries : List (ℕ × ℕ)) (are : AreStarts starts entries)
    (of : AreBucketsOf given (entry_buckets starts entries)) where
  abbrev start : ℕ → ℕ
  start k = start_at starts k

  -- the given entries of the first k buckets, one bucket after another
  abbrev pub front : ℕ → List (ℕ × ℕ)
  front k = flat_map (λ i. filter (in_bucket i) given) (range_with_len 0 k)

  part_of_given : (k : ℕ) → k < 64 → part_at starts entries k ≡ filter (in_bucket k) given
  part_of_given k below = sym (buckets_at starts entries k below) ∙ of.has k below

  no_start : start 0 ≡ 0
  no_start =
      elim (cases_lt 0 (start 0)) [
        | inl some ↦ let below = (are 0 (omega arith)).between.0 0 (0, 0) (omega arith) some in absurd (omega arith)
        | inr none ↦ omega arith
      ]

  all_behind : start 64 ≡ length entries
  all_behind =
      elim (cases_lt (start 64) (length entries)) [
        | inl more ↦
            let late = (are 64 (omega arith)).between.1 (start 64) (0, 0) (omega arith) more in
            absurd (omega arith)
        | inr none ↦ let inside = (are 64 (omega arith)).within in omega arith
      ]

  abbrev piece : ℕ → List (ℕ × ℕ)
  piece i = filter (in_bucket i) given

  front_more : (k : ℕ) → k < 64 → take (start k) entries ≡ front k → take (start (k + 1)) entries ≡ front (k + 1)
  front_more k below so_far =
      let ordered = starts_ordered starts entries are k below in
      let sum : start (k + 1) ≡ start k + (start (k + 1) - start k) = omega (arith, ordered) in
      ap (λ n. take n entries) sum
      ∙ (take-add (start k) (start (k + 1) - start k) entries
      ∙ (ap (λ xs. xs ++ part_at starts entries k) so_far
      ∙ (ap (λ xs. front k ++ xs) (part_of_given k below ∙ sym (append-nil (piece k)))
      ∙ (sym (flat_map-append piece (range_with_len 0 k) (k ∷ [])) ∙ ap (flat_map piece) (sym (range-push k))))))

  front_is : (k : ℕ) → k ≤ 64 → take (start k) entries ≡ front k
  front_is zero _ = ap (λ n. take n entries) no_start
  front_is (suc k) most =
      let next : k + 1 ≡ suc k = omega arith in
      subst (λ n. take (start n) entries ≡ front n) next (front_more k (omega arith) (front_is k (omega arith)))

  pub list_is : entries ≡ front 64
  list_is = sym (take-length entries) ∙ (ap (λ n. take n entries) (sym all_behind) ∙ front_is 64 (omega arith))

  start_is : (k : ℕ) → k ≤ 64 → start k ≡ length (front k)
  start_is k most =
      sym (length-take-le (start k) entries (are k (omega arith)).within) ∙ ap length (front_is k most)

  abbrev pub front_len : ℕ → ℕ
  front_len k = length (front k)

  starts_up_to : (n : ℕ) → n ≤ 65 → map (start_at starts) (range_with_len 0 n) ≡ map front_len (range_with_len 0 n)
  starts_up_to zero _ = refl
  starts_up_to (suc n) most =
      let next : n + 1 ≡ suc n = omega arith in
      let same : map (start_at starts) (range_with_len 0 (n + 1)) ≡ map front_len (range_with_len 0 (n + 1)) =
      map-range_with_len_more (start_at starts) 0 n n (zero-add n)
      ∙ (ap (λ xs. xs ++ start n ∷ []) (starts_up_to n (omega arith))
      ∙ (ap (λ s. map front_len (range_with_len 0 n) ++ s ∷ []) (start_is n (omega arith))
      ∙ sym (map-range_with_len_more front_len 0 n n (zero-add n)))) in
      subst (λ m. map (start_at starts) (range_with_len 0 m) ≡ map front_len (range_with_len 0 m)) next same

  pub starts_are : map (start_at starts) (range_with_len 0 65) ≡ map front_len (range_with_len 0 65)
  starts_are = starts_up_to 65 (omega arith)
