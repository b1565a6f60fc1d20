use Rattle.std.proofs.Common.{arith}
use Rattle.literal_occurrences.proofs.lemmas.Automaton.{ends_above, one_ends}
use Rattle.literal_occurrences.proofs.automaton.Automaton.is_match.Goals as goal

pub returns : goal.returns
returns c = λ text is.
    let t = c.args.self.now in
    let are = c.table-table.ensures.tables in (
      λ yes. one_ends t are text c.args.state is (grind arith),
      λ one. let large = ends_above t are text c.args.state is one.0 one.1 in grind arith,
    )
