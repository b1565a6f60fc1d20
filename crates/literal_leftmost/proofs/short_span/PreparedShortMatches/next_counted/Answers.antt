use Rattle.std.proofs.Common.{ℕ, Err, Ok, subst, sym}
use Rattle.literal_leftmost.specs.Inside.Cursor.{IsCursor, cursor_by}
use Rattle.literal_leftmost.specs.Inside.Prepared.{lent_at}
use Rattle.literal_leftmost.specs.Prepared.{GivesLentMatch, PreparedMatchesValue, back_tables_in, longest_in}
use Rattle.literal_leftmost.proofs.lemmas.Prepared.{lent_damaged, lent_gives, lent_goes_on}
use Rattle.literal_leftmost.proofs.short_span.PreparedShortMatches.next_counted.Goals as goal

pub next_in_short-requires-clause-cursor : goal.next_in_short-requires-clause-cursor
next_in_short-requires-clause-cursor c =
    let m = c.self.inside in
    subst (λ (n : ℕ). IsCursor n m.span (cursor_by m.cursor)) (sym c.backward-backward.ensures.longest)
    c.self.invariant.2.cursor

pub invariant_of-self : goal.invariant_of-self
invariant_of-self c =
    let m = c.self.inside in (
      c.self.invariant.0,
      c.self.invariant.1,
      lent_goes_on m.prepared.now m.haystack.now m.span c.backward-backward.result.now c.backward-backward.ensures
          (cursor_by m.cursor) c.self.invariant.2 (cursor_by c.next_in_short.new.cursor) _ _ c.in-Ok.answer
          c.in-Ok.ensures.steps,
    )

pub returns-in-Ok-clause-gives : goal.returns-in-Ok-clause-gives
returns-in-Ok-clause-gives c =
    let m = c.self.inside in
    let cursor = cursor_by c.next_in_short.new.cursor in
    subst (λ (v : PreparedMatchesValue). GivesLentMatch v (Ok c.in-Ok.answer)
    (lent_at m.prepared.now m.haystack.now m.span cursor)) c.self.view_is
    (lent_gives m.prepared.now m.haystack.now m.span c.backward-backward.result.now c.backward-backward.ensures
    (cursor_by m.cursor) c.self.invariant.2 cursor _ _ c.in-Ok.answer c.in-Ok.ensures.steps)

pub returns-in-Err-clause-gives : goal.returns-in-Err-clause-gives
returns-in-Err-clause-gives c =
    let m = c.self.inside in
    let ended = cursor_by c.end.new.self in
    subst (λ (v : PreparedMatchesValue). GivesLentMatch v (Err _)
    (lent_at m.prepared.now m.haystack.now m.span ended)) c.self.view_is
    (lent_damaged m.prepared.now m.haystack.now m.span c.backward-backward.result.now c.backward-backward.ensures
    (cursor_by m.cursor) c.self.invariant.2 (cursor_by c.next_in_short.new.cursor) _ _ _ ended c.end.ensures.at
    c.in-Err.ensures.steps)

pub invariant_of-self-in-Err : goal.invariant_of-self-in-Err
invariant_of-self-in-Err c =
    let m = c.self.inside in (
      c.self.invariant.0,
      c.self.invariant.1,
      record {
        cursor = c.end.ensures.cursor (longest_in m.prepared.now);
        knows = λ search is. c.end.ensures.knows (back_tables_in search m.prepared.now) m.haystack.now;
      },
    )
