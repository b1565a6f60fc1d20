-- The fields of `CountedSet`.
use Rattle.std.specs.Prelude.{◌≡◌, ◌*◌, ◌≤◌}
use Rattle.literal_base.specs.Bytes.{contains}
use Rattle.literal_prefilters.specs.declared.prefilter.counted_set.CountedSet.TheInside.{Inside}
use Rattle.literal_prefilters.specs.Table.{size, rank_sum_of}
use Rattle.literal_prefilters.specs.Tables.{of_set}

-- the invariant of the fields: the number of the bytes of the set, and the sum of their ranks, each of which is a byte
pub record IsCounted (s : Inside) : Type 0 where
  pub counted : s.count ≡ size (of_set (contains s.set))
  pub ranked : s.rank_sum ≡ rank_sum_of (of_set (contains s.set))
  pub low : s.rank_sum ≤ 255 * s.count
