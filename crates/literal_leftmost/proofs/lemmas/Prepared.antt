-- Steps of iterations: by the tables of a search, and by an array that is lent.
use Rattle.std.proofs.Common.{ℕ, ◌<◌, ◌≡◌, Err, IfSome, List, None, Ok, Option, Some, ap, arith, refl, subst, sym}
use Rattle.literal_base.specs.Counts.{Counts}
use Rattle.literal_base.specs.MatchValue.{MatchValue}
use Rattle.literal_base.specs.declared.search.Span.{Span}
use Rattle.literal_leftmost.specs.Inside.Backward.{AreBackFor, IsMatchBy, back_tables_by, offset_by}
use Rattle.literal_leftmost.specs.Inside.Cursor.{IsCursor, KnowsAhead, StepsOn, look_ups_of, matches_at}
use Rattle.literal_leftmost.specs.Inside.Prepared.{GoesOnBy, IsBackIn, lent_at}
use Rattle.literal_leftmost.specs.LookUps.{LooksOn}
use Rattle.literal_leftmost.specs.MatchesValue.{GivesMatch, GivesThen, MatchesValue}
use Rattle.literal_leftmost.specs.Prepared.{BackTables, GivesLentMatch, IsPrepared}
use Rattle.literal_leftmost.specs.SearchValue.{SearchValue, longest_of}
use Rattle.literal_leftmost.specs.declared.backward.Backward.{Backward}
use Rattle.literal_leftmost.specs.declared.backward.Continuation.{Continuation}
use Rattle.literal_leftmost.specs.declared.backward.Continuation.TheVariants.{AtEnd}
use Rattle.literal_leftmost.specs.declared.cursor.Cursor.{Cursor}
use Rattle.literal_rows.specs.declared.damaged.Damaged.{Damaged}

-- a match that is found is not empty
pub some_by : (b : Backward) (span : Span) (at : ℕ) (answer : Option MatchValue) → IfSome answer (IsMatchBy b span at)
    → IfSome answer (λ found. found.start < found.end)
some_by b span at None lies = tt
some_by b span at (Some found) lies = lies.some

-- a step by the tables of a search is one of its iteration
pub gives_then : (search : SearchValue) (b : Backward) (haystack : List ℕ) (span : Span) (on : Continuation)
    (old : Cursor) (answer : Option MatchValue) (new : Cursor) (counts counts_new : Counts) → AreBackFor search b
    → KnowsAhead (back_tables_by search b) haystack span old
    → StepsOn b haystack span on old (Ok answer) new counts counts_new
    → GivesThen (offset_by on) (matches_at search haystack span b.table.longest old) answer
    (matches_at search haystack span b.table.longest new)
gives_then search b haystack span on old answer new counts counts_new is_for knows steps =
    let before = look_ups_of b.table.longest span old in
    let after = look_ups_of b.table.longest span new in
    record {
      leftmost = steps.leftmost search is_for knows;
      not_empty = some_by b span old.at answer steps.lies;
      look_ups = after;
      goes_on = ap (λ (at : ℕ). let v : MatchesValue = record {
        search = search;
        haystack = haystack;
        span = span;
        at = at;
        look_ups = after;
      } in v) steps.at;
      looks = subst (λ (at : ℕ). LooksOn (longest_of search.query.patterns) span at before after) steps.at
          (subst (λ (n : ℕ). LooksOn n span new.at before after) is_for.tables.longest steps.looks);
    }

-- a step by the parts of an array that is lent
module _ (numbers haystack : List ℕ) (span : Span) (b : Backward) (are : IsBackIn numbers b) (old : Cursor)
    (goes_on : GoesOnBy numbers haystack span old) (new : Cursor) (counts counts_new : Counts) where
  -- what is known before it
  knows_by : (search : SearchValue) → IsPrepared search numbers
      → KnowsAhead (back_tables_by search b) haystack span old
  knows_by search is = subst (λ (t : BackTables). KnowsAhead t haystack span old) (sym (are.tables search))
      (goes_on.knows search is)

  -- its answer
  pub lent_gives : (answer : Option MatchValue) → StepsOn b haystack span AtEnd old (Ok answer) new counts counts_new
      → GivesLentMatch (lent_at numbers haystack span old) (Ok answer) (lent_at numbers haystack span new)
  lent_gives answer steps = record {
    prepared = λ search is. subst (λ (n : ℕ). GivesMatch (matches_at search haystack span n old) answer
        (matches_at search haystack span n new)) are.longest
        (gives_then search b haystack span AtEnd old answer new counts counts_new (are.is_for search is)
        (knows_by search is) steps);
    inside = grind arith;
    pattern = grind arith;
    goes_on = steps.at;
    ended = steps.ended;
    same = refl;
  }

  -- the iteration goes on
  pub lent_goes_on : (answer : Option MatchValue) → StepsOn b haystack span AtEnd old (Ok answer) new counts counts_new
      → GoesOnBy numbers haystack span new
  lent_goes_on answer steps = record {
    cursor = subst (λ (n : ℕ). IsCursor n span new) are.longest steps.cursor;
    knows = λ search is. subst (λ (t : BackTables). KnowsAhead t haystack span new) (are.tables search)
        (steps.knows search (are.is_for search is) (knows_by search is));
  }

  -- if the array is damaged, it ends
  pub lent_damaged : (error : Damaged) (ended : Cursor) → ended.at ≡ span.end
      → StepsOn b haystack span AtEnd old (Err error) new counts counts_new
      → GivesLentMatch (lent_at numbers haystack span old) (Err error) (lent_at numbers haystack span ended)
  lent_damaged error ended at_end steps = record {
    prepared = λ search is. absurd (steps.leftmost search (are.is_for search is) (knows_by search is));
    inside = tt;
    pattern = tt;
    goes_on = at_end;
    ended = steps.ended;
    same = refl;
  }
