-- Searches for all matches, one after another.
use Rattle.std.proofs.Common.{◌≡◌, ◌+◌, ◌-◌, ◌≤◌, List, [], ◌∷◌, None, ap, arith}
use Rattle.std.proofs.Common.{sym, subst}
use Rattle.std.specs.Iterator.{Yields}
use Rattle.literal_base.specs.Counts.{Counts}
use Rattle.literal_base.specs.MatchValue.{MatchValue}
use Rattle.literal_leftmost.specs.MatchesValue.{GivesCounted, GivesMatch, MatchesValue}
use Rattle.literal_leftmost.specs.LookUps.{ScansRest}
use Rattle.literal_leftmost.specs.SearchValue.{longest_of, most_scanned}

-- only one count changes
pub scanned_on : (old now new : Counts) → now ≡ record old { scanned = now.scanned }
    → new ≡ record now { scanned = new.scanned } → new ≡ record old { scanned = new.scanned }
scanned_on old now new before is = grind arith

-- at most what a list of the span may look up, and was not looked up before
pub scans_rest_from_yields : (m : MatchesValue × Counts) (all : List MatchValue) (n o : MatchesValue × Counts)
    → Yields GivesCounted m all n → GivesCounted n None o
    → ScansRest (longest_of m.0.search.query.patterns) m.0.span m.0.look_ups m.1 o.1
scans_rest_from_yields m [] n o stays last = grind arith
scans_rest_from_yields m (found ∷ more) n o run last = grind (arith, scans_rest_from_yields run.0 more n o run.2 last)

-- so does a part of it
pub scans_part_from_yields : (m : MatchesValue × Counts) (all : List MatchValue) (n : MatchesValue × Counts)
    → m.0.look_ups.most ≤ most_scanned (longest_of m.0.search.query.patterns) (m.0.span.end - m.0.span.start)
    → Yields GivesCounted m all n → ScansRest (longest_of m.0.search.query.patterns) m.0.span m.0.look_ups m.1 n.1
scans_part_from_yields m [] n few stays = grind arith
scans_part_from_yields m (found ∷ more) n few run =
    let next = subst (λ (it : MatchesValue). run.0.0.look_ups.most
    ≤ most_scanned (longest_of it.search.query.patterns) (it.span.end - it.span.start)) (sym run.1.gives.goes_on)
    (rw (ap (λ (it : MatchesValue). it.look_ups) run.1.gives.goes_on) run.1.gives.looks.few) in
    grind (arith, scans_part_from_yields run.0 more n next run.2)

-- and at least each byte of the span that was not looked up before
pub scans_each_from_yields : (m : MatchesValue × Counts) (all : List MatchValue) (n o : MatchesValue × Counts)
    → Yields GivesCounted m all n → GivesCounted n None o
    → m.1.scanned + (m.0.span.end - m.0.span.start) ≤ o.1.scanned + m.0.look_ups.least
scans_each_from_yields m [] n o stays last = grind arith
scans_each_from_yields m (found ∷ more) n o run last = grind (arith, scans_each_from_yields run.0 more n o run.2 last)

-- without its counts it is an iteration over matches
pub gives_from_counted : (m : MatchesValue × Counts) (all : List MatchValue) (n : MatchesValue × Counts)
    → Yields GivesCounted m all n → Yields GivesMatch m.0 all n.0
gives_from_counted m [] n stays = ap (λ (it : MatchesValue × Counts). it.0) stays
gives_from_counted m (found ∷ more) n run = (run.0.0, run.1.gives, gives_from_counted run.0 more n run.2)
