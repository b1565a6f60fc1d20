use Rattle.std.proofs.Common.{arith}
use Rattle.literal_occurrences.proofs.lemmas.Scan.{none_in_blocks}
use Rattle.literal_occurrences.proofs.scan.none_begins.Goals as goal

pub returns-clause-none : goal.returns-clause-none
returns-clause-none c = λ same patterns ignore_case is.
    let t = c.args.table.now in
    none_in_blocks t patterns ignore_case is c.args.haystack.now (λ k. omega (arith, c.type_inv.haystack k))
    c.args.at
    c.args.block c.requires.inside
    (c.none_in_four.ensures.none same is.classes)
