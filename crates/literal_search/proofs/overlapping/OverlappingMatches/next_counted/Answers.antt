use Rattle.std.proofs.Common.{MatchOption, Option, arith, subst}
use Rattle.literal_base.specs.MatchValue.{MatchValue}
use Rattle.literal_base.specs.declared.search.Match.{Match}
use Rattle.literal_occurrences.specs.Inside.LentTables.{IsNextBy, tables_by}
use Rattle.literal_search.specs.Inside.Overlapping.{overlapping_of}
use Rattle.literal_occurrences.specs.Inside.Position.{position_value}
use Rattle.literal_search.specs.OverlappingMatchesValue.{IsToCome}
use Rattle.literal_occurrences.specs.declared.position.Position.{Position}
use Rattle.literal_search.proofs.overlapping.OverlappingMatches.next_counted.Goals as goal

pub unreachable-requires : goal.unreachable-requires
unreachable-requires c =
    c.in_default.ensures.prepared (overlapping_of c.self.inside.parts.now) c.self.invariant.1 c.self.invariant.4

pub invariant_of-self : goal.invariant_of-self
invariant_of-self c =
    let is = c.self.invariant in
    let behind = c.after_all-self-inside.ensures in
    (is.0, is.1, is.2, behind.lies, behind.stands (overlapping_of c.self.inside.parts.now) is.1)

pub invariant_of-self-2 : goal.invariant_of-self-2
invariant_of-self-2 c =
    let m = c.self.inside in
    let is = c.self.invariant in
    let search = overlapping_of m.parts.now in
    let next = subst (λ (answer : Option (Match × Position)). MatchOption answer ((found : MatchValue)
    → ¬ IsToCome (position_value (tables_by search m.lent) m.haystack.now m.span m.position) found)
    (λ r. IsNextBy (tables_by search m.lent) m.haystack.now m.span m.position r.0 r.1)) c.in-Some.is
    (c.in-Ok.ensures.prepared search is.1 is.4) in
    grind arith

pub returns-clause-gives : goal.returns-clause-gives
returns-clause-gives c = grind arith
