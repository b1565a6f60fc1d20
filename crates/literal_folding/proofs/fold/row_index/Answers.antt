-- The rows rise.
use Rattle.std.proofs.Common.{nat_lt, rules}
use Rattle.std.proofs.lemmas.List.Sorted.{IsPartitionPoint-from_clause}
use Rattle.literal_folding.specs.Folding.{Row}
use Rattle.literal_folding.specs.declared.foldings.TheConstants.{FOLDINGS}
use Rattle.literal_folding.proofs.lemmas.Table.{parted}
use Rattle.literal_folding.proofs.fold.row_index.Goals as goal

pub returns : goal.returns
returns c =
    IsPartitionPoint-from_clause (λ (row : Row). nat_lt row.1 c.args.code) FOLDINGS _
    c.partition_point.ensures.partitioned (parted c.args.code) (λ a r q k. search rules)
