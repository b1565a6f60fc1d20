-- The first entries of an array that is prepared. For the laws.
use Rattle.std.proofs.Common.{◌≡◌, ◌==◌, ℕ, ◌+◌, ◌-◌, ◌<◌, ◌≤◌, List, ap, get_or, if◌then◌else◌, length, take, sym}
use Rattle.std.proofs.Common.{arith}
use Rattle.std.proofs.lemmas.List.{drop-take, get_or-take, length-take, take-take}
use Rattle.std.specs.List.{slice_range}
use Rattle.literal_search.specs.SearchValue.{SearchValue}
use Rattle.literal_search.specs.Overlapping.{OverlappingValue}
use Rattle.literal_base.specs.declared.packed.MatchKind.TheVariants.{LeftmostFirst, LeftmostLongest}
use Rattle.literal_search.specs.Prepared.{IsPrepared, kind_in, prepared_len, rows_end}
use Rattle.literal_search.specs.PreparedOverlapping.{IsPreparedOverlapping, ends_at, overlapping_len}
use Rattle.literal_leftmost.proofs.lemmas.BackTables.{same_tables as same_back}
use Rattle.literal_search.proofs.laws.first_places_are_enough.Goals as goal

-- a part of the first entries is that of all
part_of_first : (n : ℕ) (numbers : List ℕ) (from to : ℕ) → from ≤ to → to ≤ n
    → slice_range (take n numbers) from to ≡ slice_range numbers from to
part_of_first n numbers from to ordered inside =
    let whole : n ≡ from + (n - from) = omega arith in
    grind (arith, drop-take, take-take)

-- an array that has the same numbers as one that is prepared, as far as these go
module _ (search : SearchValue) (old new : List ℕ)
    (same : (k : ℕ) → k < 7 → get_or new k 0 ≡ get_or old k 0)
    (parts : (from to : ℕ) → from ≤ to → to ≤ prepared_len old → slice_range new from to ≡ slice_range old from to)
    (fits : prepared_len old ≤ length new)
  where
    kind_is : kind_in new ≡ kind_in old
    kind_is = ap (λ n. if n == 0 then LeftmostFirst else LeftmostLongest) (same 6 (omega arith))

    prepared_as : IsPrepared search old → IsPrepared search new
    prepared_as prepared = grind (arith, kind_is, same_back)

module _ (search : SearchValue) (numbers : List ℕ) (n : ℕ) where
  -- what is prepared in the first entries is so in all
  longer : IsPrepared search (take n numbers) → IsPrepared search numbers
  longer prepared =
      let long = length-take n numbers in
      prepared_as search (take n numbers) numbers (λ k below. sym (get_or-take n numbers k 0 (omega arith)))
      (grind (arith, part_of_first)) (omega arith) prepared

  -- and in as many entries as it needs
  shorter : IsPrepared search numbers → prepared_len numbers ≤ n
      → IsPrepared search (take n numbers)
  shorter prepared enough =
      let long = length-take n numbers in
      prepared_as search numbers (take n numbers) (λ k below. get_or-take n numbers k 0 (omega arith))
      (grind (arith, part_of_first)) (omega arith) prepared

-- the same of an array for everything that occurs
module _ (search : OverlappingValue) (old new : List ℕ)
    (same : (k : ℕ) → k < overlapping_len old → get_or new k 0 ≡ get_or old k 0)
    (parts : (from to : ℕ) → from ≤ to → to ≤ overlapping_len old → slice_range new from to ≡ slice_range old from to)
    (fits : overlapping_len old ≤ length new)
  where
    len_is : rows_end new ≡ rows_end old
    len_is = omega (arith, same 3 (omega arith), same 4 (omega arith))

    ends_is : ends_at new ≡ ends_at old
    ends_is = omega (arith, same 3 (omega arith), len_is)

    listed_as : IsPreparedOverlapping search old → IsPreparedOverlapping search new
    listed_as prepared = grind (arith, ends_is)

module _ (search : OverlappingValue) (numbers : List ℕ) (n : ℕ) where
  longer_listed : IsPreparedOverlapping search (take n numbers) → IsPreparedOverlapping search numbers
  longer_listed prepared = grind (arith, length-take, listed_as, get_or-take, part_of_first)

  shorter_listed : IsPreparedOverlapping search numbers → overlapping_len numbers ≤ n
      → IsPreparedOverlapping search (take n numbers)
  shorter_listed prepared enough =
      let long = length-take n numbers in
      listed_as search numbers (take n numbers) (λ k below. get_or-take n numbers k 0 (omega arith))
      (grind (arith, part_of_first)) (omega arith) prepared

pub returns-clause-longer : goal.returns-clause-longer
returns-clause-longer c = λ search numbers n prepared. longer search numbers n prepared

pub returns-clause-shorter : goal.returns-clause-shorter
returns-clause-shorter c = λ search numbers n prepared enough. shorter search numbers n prepared enough

pub returns-clause-longer_overlapping : goal.returns-clause-longer_overlapping
returns-clause-longer_overlapping c = λ search numbers n prepared. longer_listed search numbers n prepared

pub returns-clause-shorter_overlapping : goal.returns-clause-shorter_overlapping
returns-clause-shorter_overlapping c = λ search numbers n prepared enough.
    shorter_listed search numbers n prepared enough
