-- What the fields of a `BucketEntries` say of its buckets.
-- For the functions that make one or read from it.
use Rattle.std.proofs.Common.{◌≡◌, ◌↔◌, IsTrue, ℕ, ◌+◌, ◌-◌, ◌/◌, ◌^◌, ◌<◌, ◌≤◌, inl, inr, bit_and, Bool, ltb, cond}
use Rattle.std.proofs.Common.{List, [], length, get_or, slice_get, Some, sym, ap, subst, ◌∙◌, arith}
use Rattle.std.proofs.lemmas.Bool.{cases_lt, lt-ltb, le-ltb}
use Rattle.std.proofs.lemmas.List.FromFn.{length-map-range_with_len, get_or-map-range_with_len}
use Rattle.std.proofs.lemmas.Nat.Bits.{shr_and_one}
use Rattle.std.proofs.lemmas.Option.{slice_get-get_or}
use Rattle.literal_packed.specs.Inside.Entries.{AreStarts, AreHeads, AreLonger, IsSingle, IsHead, IsLaidOut}
use Rattle.literal_packed.specs.Inside.Entries.{start_at, len_at, part_at, entry_buckets}
use Rattle.literal_packed.proofs.lemmas.Parts.{starts_ordered, part_len, part_entry}

-- what the fields say, each by itself
pub record AreLaidOut (firsts seconds : List (ℕ × ℕ)) (starts : List ℕ) (longer : ℕ) (single : Bool)
    (entries : List (ℕ × ℕ)) : Type 0 where
  pub starts_are : AreStarts starts entries
  pub firsts_are : AreHeads 0 starts entries firsts
  pub seconds_are : AreHeads 1 starts entries seconds
  pub longer_are : AreLonger starts longer
  pub single_is : IsSingle starts single

pub laid_out : {firsts seconds : List (ℕ × ℕ)} {starts : List ℕ} {longer : ℕ} {single : Bool} {entries : List (ℕ × ℕ)}
    → AreLaidOut firsts seconds starts longer single entries → IsLaidOut firsts seconds starts longer single entries
unfolding IsLaidOut
laid_out are = (are.starts_are, are.firsts_are, are.seconds_are, are.longer_are, are.single_is)

pub opened : (firsts seconds : List (ℕ × ℕ)) (starts : List ℕ) (longer : ℕ) (single : Bool) (entries : List (ℕ × ℕ))
    → IsLaidOut firsts seconds starts longer single entries → AreLaidOut firsts seconds starts longer single entries
unfolding IsLaidOut
opened firsts seconds starts longer single entries laid = record {
  starts_are = laid.0;
  firsts_are = laid.1;
  seconds_are = laid.2;
  longer_are = laid.3;
  single_is = laid.4;
}

pub buckets_len : (starts : List ℕ) (entries : List (ℕ × ℕ)) → length (entry_buckets starts entries) ≡ 64
unfolding entry_buckets
buckets_len starts entries = length-map-range_with_len (part_at starts entries) 0 64

pub buckets_at : (starts : List ℕ) (entries : List (ℕ × ℕ)) (k : ℕ) → k < 64
    → get_or (entry_buckets starts entries) k [] ≡ part_at starts entries k
unfolding entry_buckets
buckets_at starts entries k below =
    get_or-map-range_with_len (part_at starts entries) 0 64 k k [] below (omega arith)

-- the list is laid out, and these are its buckets
pub record IsLaidOutAs (firsts seconds : List (ℕ × ℕ)) (starts : List ℕ) (longer : ℕ) (single : Bool)
    (entries : List (ℕ × ℕ)) (buckets : List (List (ℕ × ℕ))) : Type 0 where
  pub laid : IsLaidOut firsts seconds starts longer single entries
  pub seen : entry_buckets starts entries ≡ buckets

module _ {firsts seconds : List (ℕ × ℕ)} {starts : List ℕ} {longer : ℕ} {single : Bool} {entries : List (ℕ × ℕ)}
    {buckets : List (List (ℕ × ℕ))} (is : IsLaidOutAs firsts seconds starts longer single entries buckets)
    (k : ℕ) (below : k < 64) where
  abbrev start : ℕ → ℕ
  start i = start_at starts i

  abbrev bucket : List (ℕ × ℕ)
  bucket = get_or buckets k []

  are : AreLaidOut firsts seconds starts longer single entries
  are = opened firsts seconds starts longer single entries is.laid

  pub ordered_at : start k ≤ start (k + 1)
  ordered_at = starts_ordered starts entries are.starts_are k below

  bucket_is : get_or buckets k [] ≡ part_at starts entries k
  bucket_is = ap (λ bs. get_or bs k []) (sym is.seen) ∙ buckets_at starts entries k below

  pub len_is : start (k + 1) - start k ≡ length bucket
  len_is = part_len starts entries are.starts_are k below ∙ ap length (sym bucket_is)

  pub entry_inside : (i : ℕ) → i < length (get_or buckets k []) → start k + i < length entries
  entry_inside i within =
      let ordered = ordered_at in
      let inside = (are.starts_are (k + 1) (omega arith)).within in
      omega (arith, len_is)

  pub entry_of_list : (i : ℕ) (d : ℕ × ℕ) → i < length bucket → get_or bucket i d ≡ get_or entries (start k + i) d
  entry_of_list i d within =
      ap (λ xs. get_or xs i d) bucket_is
      ∙ part_entry starts entries are.starts_are k below i d (subst (λ xs. i < length xs) bucket_is within)

  -- the bit of a bucket
  bit_is : bit_and (longer / 2 ^ k) 1 ≡ cond (ltb 2 (len_at starts k)) 1 0
  bit_is = shr_and_one longer k ∙ are.longer_are k below

  pub set_where_longer : 2 < length bucket → bit_and (longer / 2 ^ k) 1 ≡ 1
  set_where_longer more = bit_is ∙ ap (λ t. cond t 1 0) (lt-ltb _ _ (omega (arith, len_is)))

  pub longer_where_set : bit_and (longer / 2 ^ k) 1 ≡ 1 → 2 < length bucket
  longer_where_set set =
      elim (cases_lt 2 (len_at starts k)) [
        | inl more ↦ omega (arith, len_is)
        | inr few ↦
            let zero : bit_and (longer / 2 ^ k) 1 ≡ 0 = bit_is ∙ ap (λ t. cond t 1 0) (le-ltb _ _ few) in
            absurd (omega arith)
      ]

  -- an entry that was read of the first or the second of each bucket
  head_is : (i : ℕ) (heads : List (ℕ × ℕ)) (d : ℕ × ℕ) → AreHeads i starts entries heads
      → IsHead i k bucket (get_or heads k d)
  head_is i heads d heads_are = subst (λ xs. IsHead i k xs (get_or heads k d)) (sym bucket_is) (heads_are k d below)

  pub first_is : (d : ℕ × ℕ) → IsHead 0 k bucket (get_or firsts k d)
  first_is d = head_is 0 firsts d are.firsts_are

  pub second_is : (d : ℕ × ℕ) → IsHead 1 k bucket (get_or seconds k d)
  second_is d = head_is 1 seconds d are.seconds_are

-- the truth value tells of the buckets
pub few_exactly_if_single : {firsts seconds : List (ℕ × ℕ)} {starts : List ℕ} {longer : ℕ} {single : Bool}
    {entries : List (ℕ × ℕ)} {buckets : List (List (ℕ × ℕ))}
    → IsLaidOutAs firsts seconds starts longer single entries buckets
    → (IsTrue single ↔ ((k : ℕ) → k < 64 → length (get_or buckets k []) ≤ 1))
few_exactly_if_single {starts = starts} {single = single} is =
    let told : IsSingle starts single = (opened _ _ _ _ _ _ is.laid).single_is in (
      λ yes k below. omega (arith, told.0 yes k below, len_is is k below),
      λ few. told.1 (λ k below. omega (arith, few k below, len_is is k below)),
    )

-- so it is the entry of the bucket, if it has one more
pub head_within : {i k : ℕ} {bucket : List (ℕ × ℕ)} {head : ℕ × ℕ} → IsHead i k bucket head → i < length bucket
    → slice_get bucket i ≡ Some head
head_within {i = i} {bucket = bucket} is within =
    slice_get-get_or bucket i (0, 0) within ∙ ap Some (sym (is.of_entry within))
