use Rattle.std.proofs.Common.{◌≡◌, ◌+◌, ◌∙◌, ap, arith, get_or}
use Rattle.literal_occurrences.specs.PreparedOverlapping.{ends_in, starts_in, tables_in}
use Rattle.literal_occurrences.proofs.lemmas.Automaton.{none_end, row_within}
use Rattle.literal_occurrences.proofs.lemmas.PreparedStates.{has_row, listed, row_by}
use Rattle.literal_occurrences.proofs.prepared_overlapping.PreparedOverlapping.matches.Goals as goal

pub returns-in_err-row-clause-prepared : goal.returns-in_err-row-clause-prepared
returns-in_err-row-clause-prepared c = λ search prepared text is.
    absurd (c.in_err-row.ensures (has_row (tables_in search c.args.self.now) prepared.tables text c.args.state is))

pub returns-then-as_u32-lt-ENDS-clause-prepared : goal.returns-then-as_u32-lt-ENDS-clause-prepared
returns-then-as_u32-lt-ENDS-clause-prepared c = λ search prepared text is.
    let none = none_end (tables_in search c.args.self.now) prepared.tables text c.args.state is (grind arith) in
    record {
      ascend = grind arith;
      each = grind arith;
      every = λ i ends. absurd (none i ends);
    }

pub returns-in_err-longest-clause-prepared : goal.returns-in_err-longest-clause-prepared
returns-in_err-longest-clause-prepared c = λ search prepared text is.
    let t = tables_in search c.args.self.now in
    let row_is = row_by t prepared.tables text c.args.state is c.in_ok-row.row c.in_ok-row.ensures.0 in
    let within = row_within t prepared.tables text c.args.state is c.in_ok-row.row row_is in
    absurd (grind arith)

pub returns-clause-prepared : goal.returns-clause-prepared
returns-clause-prepared c = λ search prepared text is.
    let t = tables_in search c.args.self.now in
    let lent = c.lent.ensures.lent in
    let row_is = row_by t prepared.tables text c.args.state is c.in_ok-row.row c.in_ok-row.ensures.0 in
    let within = row_within t prepared.tables text c.args.state is c.in_ok-row.row row_is in
    let named : c.in_ok-longest.field-0 ≡ get_or t.rows (c.in_ok-row.row + t.width) 0 = grind arith in
    listed t prepared.tables text c.args.state is c.in_ok-row.row c.in_ok-row.ensures.0 (grind arith)
    c.lent.result.now.starts.now c.lent.result.now.ends.now c.in_ok-longest.field-0
    (lent.starts_are ∙ ap starts_in c.lent.ensures.numbers) (lent.ends_are ∙ ap ends_in c.lent.ensures.numbers) named
    c.list_of.result c.list_of.ensures
