use Rattle.std.proofs.Common.{◌≡◌, ◌+◌, ◌-◌, ◌≤◌, ◌^◌, arith, get_or}
use Rattle.literal_occurrences.proofs.lemmas.Automaton.{listed_end, named_below, none_end, row_within}
use Rattle.literal_occurrences.proofs.automaton.Automaton.matches.Goals as goal

pub returns-then-state-lt-ENDS : goal.returns-then-state-lt-ENDS
returns-then-state-lt-ENDS c = λ text is.
    let none = none_end c.args.self.now c.table-table.ensures.tables text c.args.state is (grind arith) in
    record {
      ascend = grind arith;
      each = grind arith;
      every = λ i ends. absurd (none i ends);
    }

pub returns-in-Err : goal.returns-in-Err
returns-in-Err c = λ text is.
    let within = row_within c.args.self.now c.table-table.ensures.tables text c.args.state is c.row.result
    c.row.ensures in
    absurd (grind arith)

pub returns-in-Ok : goal.returns-in-Ok
returns-in-Ok c = λ text is.
    let t = c.args.self.now in
    let are = c.table-table.ensures.tables in
    let within = row_within t are text c.args.state is c.row.result c.row.ensures in
    let large : 2 ^ 31 ≤ c.args.state = grind arith in
    let row_is : c.row.result ≡ c.args.state - 2 ^ 31 = grind arith in
    let below = named_below t are text c.args.state is c.row.result large row_is in
    let listed = listed_end t are text c.args.state is c.row.result large row_is in
    let longest_is : c.in-Ok.longest ≡ get_or t.rows (c.row.result + t.width) 0 = grind arith in
    grind arith
