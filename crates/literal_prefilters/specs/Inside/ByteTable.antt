-- The fields of `ByteTable`.
use Rattle.std.specs.Prelude.{◌≡◌, ◌*◌, ◌≤◌, length}
use Rattle.literal_prefilters.specs.declared.prefilter.byte_table.ByteTable.TheInside.{Inside}
use Rattle.literal_prefilters.specs.Table.{size, rank_sum_of, AreDistances}

-- the invariant of the fields: a table of one to three bytes, with their number, the sum of their ranks, and distances
-- of at most 254
pub record IsByteTable (t : Inside) : Type 0 where
  pub whole : length t.distances ≡ 256
  pub counted : t.count ≡ size t.distances
  pub not_empty : 1 ≤ size t.distances
  pub small : size t.distances ≤ 3
  pub ranked : t.rank_sum ≡ rank_sum_of t.distances
  pub low : t.rank_sum ≤ 255 * t.count
  pub near : AreDistances t.distances
