use Rattle.std.proofs.Common.{arith}
use Rattle.literal_occurrences.specs.Inside.LentTables.{tables_by}
use Rattle.literal_occurrences.proofs.lemmas.Position.{stands_before}
use Rattle.literal_occurrences.proofs.prepared_overlapping.LentTables.before_all.Goals as goal

pub returns-clause-stands : goal.returns-clause-stands
returns-clause-stands c = λ search are.
    stands_before (tables_by search c.args.self.now) are.tables c.args.haystack.now
    (λ k. omega (arith, c.type_inv.haystack k)) c.args.span c.requires
