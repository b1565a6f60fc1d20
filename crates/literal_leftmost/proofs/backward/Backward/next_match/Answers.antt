use Rattle.std.proofs.Common.{◌≡◌, ◌∙◌, ◌+◌, ℕ, IfSome, List, None, Option, Some, arith, rules, sym, true}
use Rattle.std.specs.Option.{is_some}
use Rattle.literal_base.specs.MatchValue.{MatchValue}
use Rattle.literal_base.specs.declared.search.Span.{Span}
use Rattle.literal_leftmost.specs.Inside.Backward.{AreMarked, IsMatchBy, offset_by}
use Rattle.literal_leftmost.specs.Prepared.{BackTables}
use Rattle.literal_leftmost.specs.declared.backward.Backward.{Backward}
use Rattle.literal_leftmost.specs.declared.backward.Continuation.{Continuation}
use Rattle.literal_leftmost.specs.declared.backward.Continuation.TheVariants.{AfterStart, AtEnd}
use Rattle.literal_leftmost.specs.declared.backward.Marks.{Marks}
use Rattle.literal_leftmost.proofs.lemmas.Trail.{marked_behind}
use Rattle.literal_leftmost.proofs.backward.Backward.next_match.Goals as goal

-- where the list goes on after the match of a search that looked ahead
marked_after : (tables : BackTables) (haystack : List ℕ) (span : Span) (at from : ℕ) (numbers : List ℕ) (m : Marks)
    → AreMarked tables haystack span at numbers m → (b : Backward) (found : Option MatchValue) → is_some found ≡ true
    → IfSome found (λ f. IsMatchBy b span from f × (at ≡ f.start + 1)) → (on : Continuation)
    → AreMarked tables haystack span (offset_by on span found) numbers m
marked_after tables haystack span at from numbers m marked b (Some found) some lies AtEnd = grind arith
marked_after tables haystack span at from numbers m marked b (Some found) some lies AfterStart = grind arith
marked_after tables haystack span at from numbers m marked b None some lies on = absurd (cc some)

pub returns-then-is_some-clause-marked : goal.returns-then-is_some-clause-marked
returns-then-is_some-clause-marked c = λ search is marked on.
    let ahead = c.in_ok-looked.ensures in
    marked_after _ _ _ _ _ _ _ (ahead.marked search is (c.loop-from.invariant.marked search is marked)) c.args.self.now
    c.in_ok-looked.looked.found
    (sym c.is_some.ensures ∙ c.if-is_some.true) ahead.lies on

pub loop-from-preserved : goal.loop-from-preserved
loop-from-preserved c = record {
  after = search rules;
  placed = search rules;
  marked = search rules;
  none = search rules;
  further = search rules;
  scanned = search rules;
  least = search rules;
  long = search rules;
}

pub returns-then-is_some-2-clause-marked : goal.returns-then-is_some-2-clause-marked
returns-then-is_some-2-clause-marked c = λ search is marked on.
    let ahead = c.in_ok-looked.ensures in
    marked_behind _ _ _ _ _ _ ahead.placed.inside
    (ahead.marked search is (c.loop-from.invariant.marked search is marked)) c.args.self.now _
    c.in_ok-found.ensures.lies on
