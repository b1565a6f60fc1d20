use Rattle.std.proofs.Common.{false, arith}
use Rattle.literal_base.proofs.lemmas.GreedyLists.{greedy_apart, apart_few}
use Rattle.literal_packed.proofs.lemmas.Iterations.{gathers_all}
use Rattle.literal_packed.proofs.laws.iteration_is_greedy.Goals as goal

pub returns-clause-greedy : goal.returns-clause-greedy
returns-clause-greedy c =
    gathers_all c.args.searcher.now c.args.haystack.now c.loop-found.all.items c.loop-found.matches c.next.new.self
    c.loop-found.invariant c.in_default.ensures.steps

pub returns-clause-apart : goal.returns-clause-apart
returns-clause-apart c =
    let query = c.args.searcher.now in
    greedy_apart query false c.args.haystack.now 0 c.loop-found.all.items (omega arith)
    (gathers_all query c.args.haystack.now c.loop-found.all.items c.loop-found.matches c.next.new.self
    c.loop-found.invariant c.in_default.ensures.steps)

pub returns-clause-few : goal.returns-clause-few
returns-clause-few c =
    let query = c.args.searcher.now in
    let haystack = c.args.haystack.now in
    let greedy = gathers_all query haystack c.loop-found.all.items c.loop-found.matches c.next.new.self
    c.loop-found.invariant c.in_default.ensures.steps in
    let few = apart_few query.patterns false haystack 0 c.loop-found.all.items
    (greedy_apart query false haystack 0 c.loop-found.all.items (omega arith) greedy) in
    omega arith
