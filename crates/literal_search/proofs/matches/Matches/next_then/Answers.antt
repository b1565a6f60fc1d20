use Rattle.std.proofs.Common.{subst}
use Rattle.literal_leftmost.specs.Inside.Backward.{offset_by}
use Rattle.literal_leftmost.specs.Inside.Cursor.{matches_at}
use Rattle.literal_search.specs.Inside.Search.{search_value}
use Rattle.literal_search.specs.MatchesValue.{GivesThen, MatchesValue}
use Rattle.literal_leftmost.proofs.lemmas.Prepared.{gives_then}
use Rattle.literal_search.proofs.matches.Matches.next_then.Goals as goal

pub unreachable-requires : goal.unreachable-requires
unreachable-requires c =
    let goes_on = c.self.invariant in
    c.in_default.ensures.steps.leftmost (search_value c.self.inside.parts.now) goes_on.is_for goes_on.knows

pub invariant_of-self : goal.invariant_of-self
invariant_of-self c =
    let goes_on = c.self.invariant in
    let told = c.in-Ok.ensures.steps in
    record {
      are = goes_on.are;
      valid = goes_on.valid;
      safe = goes_on.safe;
      is_for = goes_on.is_for;
      cursor = told.cursor;
      knows = told.knows (search_value c.self.inside.parts.now) goes_on.is_for goes_on.knows;
    }

pub returns-clause-gives : goal.returns-clause-gives
returns-clause-gives c =
    let m = c.self.inside in
    let goes_on = c.self.invariant in
    subst (λ (v : MatchesValue). GivesThen (offset_by c.args.on) v c.in-Ok.answer
    (matches_at (search_value m.parts.now) m.haystack.now m.span m.backward.table.longest c.next_in-next.new.cursor))
    c.self.view_is
    (gives_then (search_value m.parts.now) m.backward m.haystack.now m.span c.args.on m.cursor c.in-Ok.answer
    c.next_in-next.new.cursor _ _ goes_on.is_for goes_on.knows c.in-Ok.ensures.steps)
