use Rattle.std.proofs.iter.Next.{Yields-more}
use Rattle.literal_search.specs.MatchesValue.{GivesCounted}
use Rattle.literal_search.proofs.lemmas.Callers.{greedy_from_yields}
use Rattle.literal_leftmost.proofs.lemmas.Iterations.{gives_from_counted, scans_each_from_yields}
use Rattle.literal_leftmost.proofs.lemmas.Iterations.{scans_rest_from_yields}
use Rattle.literal_search.proofs.laws.iterations_scan_at_most.Goals as goal

pub returns-clause-bounded : goal.returns-clause-bounded
returns-clause-bounded c = λ first last ended all run nothing. scans_rest_from_yields first all last ended run nothing

pub returns-clause-each : goal.returns-clause-each
returns-clause-each c = λ first last ended all run nothing. scans_each_from_yields first all last ended run nothing

pub returns-clause-greedy : goal.returns-clause-greedy
returns-clause-greedy c = λ first last ended all run nothing.
    greedy_from_yields first.0 all last.0 ended.0 (gives_from_counted first all last run) nothing.gives

pub returns-clause-more : goal.returns-clause-more
returns-clause-more c = λ first last next all found run step.
    Yields-more GivesCounted first all last found next run step
