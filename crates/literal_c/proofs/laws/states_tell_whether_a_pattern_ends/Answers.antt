use Rattle.literal_search.specs.PreparedOverlapping.{tables_in}
use Rattle.literal_occurrences.proofs.lemmas.Automaton.{ends_above, one_ends, starts_empty}
use Rattle.literal_c.proofs.laws.states_tell_whether_a_pattern_ends.Goals as goal

pub returns-clause-start : goal.returns-clause-start
returns-clause-start c = λ array search _. starts_empty (tables_in search array)

pub returns-clause-ends : goal.returns-clause-ends
returns-clause-ends c = λ array state search prepared text is.
    let t = tables_in search array in (
      λ large. one_ends t prepared.tables text state is large,
      λ one. ends_above t prepared.tables text state is one.0 one.1,
    )
