use Rattle.std.proofs.Common.{arith}
use Rattle.literal_occurrences.specs.PreparedOverlapping.{tables_in}
use Rattle.literal_occurrences.proofs.lemmas.Automaton.{ends_above, one_ends}
use Rattle.literal_occurrences.proofs.prepared_overlapping.PreparedOverlapping.is_match.Goals as goal

pub returns : goal.returns
returns c = λ search prepared text is.
    let t = tables_in search c.args.self.now in (
      λ yes. one_ends t prepared.tables text c.args.state is (grind arith),
      λ one. let large = ends_above t prepared.tables text c.args.state is one.0 one.1 in grind arith,
    )
