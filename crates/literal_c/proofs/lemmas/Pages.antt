-- Matches that are written for C, one after another, and pages of them.
-- For `write_page`, `write_overlapping`, `count_matches` and the laws.
use Rattle.std.proofs.Common.{◌≡◌, ℕ, ◌+◌, ◌<◌, ◌≤◌, Bool, List, [], ◌∷◌, ◌++◌, drop, length, map, take}
use Rattle.std.proofs.Common.{Err, Ok, Result, Some, suc, zero, refl, sym, ap, ◌∙◌, subst, add-one, append-nil}
use Rattle.std.proofs.Common.{arith, inl, inr}
use Rattle.std.proofs.lemmas.Bool.{cases_lt}
use Rattle.std.proofs.Math.ListN.{set}
use Rattle.std.proofs.Math.Seq.{take-suc-set}
use Rattle.std.proofs.lemmas.List.{length-map, length-take-le, map-append}
use Rattle.std.proofs.lemmas.List.Elements.{All-push}
use Rattle.std.specs.Iterator.{Yields}
use Rattle.std.specs.List.{All}
use Rattle.std.specs.Result.{IsOkAnd}
use Rattle.literal_base.specs.Greedy.{IsGreedy, IsGreedyIn}
use Rattle.literal_base.specs.Leftmost.{IsLeftmostMatch}
use Rattle.literal_base.specs.MatchValue.{MatchValue}
use Rattle.literal_base.specs.Occurs.{NothingOccurs, Occurs, between, rest_from}
use Rattle.literal_base.specs.Query.{Query}
use Rattle.literal_leftmost.specs.Counted.{IsGreedyCount}
use Rattle.literal_search.specs.OverlappingMatchesValue.{GivesOverlapping, OverlappingMatchesValue}
use Rattle.literal_rows.specs.declared.damaged.Damaged.{Damaged}
use Rattle.literal_c.specs.Answers.{AreNext, BeginsNone, IsCount, IsPage, MayBeFound, end_of_last, match_of}
use Rattle.literal_c.specs.declared.LiteralMatch.{LiteralMatch}
use Rattle.literal_c.specs.declared.LiteralPage.{LiteralPage}
use Rattle.literal_base.specs.declared.search.Span.{Span}

-- the end of the last of some matches does not depend on where they begin
end_of_some : (a b : ℕ) (all : List MatchValue) → 0 < length all → end_of_last a all ≡ end_of_last b all
end_of_some a b [] some = absurd (omega (arith, some))
end_of_some a b (found ∷ more) some = refl

positive : (n : ℕ) → ¬ (n ≡ 0) → 0 < n
positive zero some = absurd (some refl)
positive (suc n) some = omega arith

module _ (query : Query) (ignore_case : Bool) (haystack : List ℕ) where
  -- an occurrence behind a place is one behind an earlier place, and the other way round
  from : (at next end i p : ℕ) → next ≤ p → Occurs query.patterns ignore_case haystack (between at end) i p
      → Occurs query.patterns ignore_case haystack (between next end) i p
  from at next end i p behind is = record {
    is_pattern = is.is_pattern;
    after_start = behind;
    before_end = is.before_end;
    same = is.same;
  }

  -- where no match begins before a place, those from there on are those from the start
  none_more : (end at next last : ℕ) → BeginsNone query ignore_case haystack end at next
      → BeginsNone query ignore_case haystack end next last → BeginsNone query ignore_case haystack end at last
  none_more end at next last a b = (
    omega (arith, a.0, b.0),
    λ i p before is.
        elim (cases_lt p next) [
          | inl early ↦ a.1 i p early is
          | inr late ↦ b.1 i p before (from at next end i p late is)
        ],
  )

  first_behind : (end at next : ℕ) (found : MatchValue) → BeginsNone query ignore_case haystack end at next
      → IsLeftmostMatch query ignore_case haystack (between next end) found
      → IsLeftmostMatch query ignore_case haystack (between at end) found
  first_behind end at next found none is = record {
    occurs = from next at end found.pattern found.start (omega (arith, none.0, is.occurs.after_start)) is.occurs;
    whole = is.whole;
    earliest = λ i p early occurs.
        elim (cases_lt p next) [
          | inl before ↦ none.1 i p before occurs
          | inr late ↦ is.earliest i p early (from at next end i p late occurs)
        ];
    best = λ i better occurs.
        is.best i better (from at next end i found.start is.occurs.after_start occurs);
  }

  -- before a place none begins that lies behind it
  pub none_here : (end at : ℕ) → BeginsNone query ignore_case haystack end at at
  none_here end at = (omega arith, λ i p before is. absurd (omega (arith, before, is.after_start)))

  -- those of two pages, one behind the other, are those of one
  pub joined : (end at next last : ℕ) (first second : List MatchValue)
      → AreNext query ignore_case haystack end at first next → AreNext query ignore_case haystack end next second last
      → AreNext query ignore_case haystack end at (first ++ second) last
  joined end at next last [] [] a b = none_more end at next last a b
  joined end at next last [] (found ∷ more) a b = (first_behind end at next found a b.0, b.1)
  joined end at next last (found ∷ more) second a b = (a.0, joined end found.end next last more second a.1 b)

  -- up to an offset before which no further match begins
  pub up_to : (end at next last : ℕ) (all : List MatchValue) → AreNext query ignore_case haystack end at all next
      → BeginsNone query ignore_case haystack end next last → AreNext query ignore_case haystack end at all last
  up_to end at next last all are none =
      subst (λ l. AreNext query ignore_case haystack end at l last) (append-nil all)
      (joined end at next last all [] are none)

  -- where nothing is left, they are the greedy list
  pub greedy : (at next : ℕ) (all : List MatchValue)
      → AreNext query ignore_case haystack (length haystack) at all next
      → NothingOccurs query.patterns ignore_case haystack (rest_from haystack next)
      → IsGreedy query ignore_case haystack at all
  greedy at next [] a none = λ i p is.
      elim (cases_lt p next) [
        | inl before ↦ a.1 i p before is
        | inr late ↦ none i p (from at next (length haystack) i p late is)
      ]
  greedy at next (found ∷ more) a none = (a.0, greedy found.end next more a.1 none)

  -- none begins before the first candidate
  pub begins_none : (span : Span) (at : ℕ) → span.start ≤ at
      → ((i p : ℕ) → Occurs query.patterns ignore_case haystack span i p → (at ≤ p) × (p < span.end))
      → BeginsNone query ignore_case haystack span.end span.start at
  begins_none span at after told = (after, λ i p before is. absurd (omega (arith, (told i p is).0, before)))

  -- and none at all if that is the end of the span
  pub nothing_occurs : (span : Span) (at : ℕ) → at ≡ span.end
      → ((i p : ℕ) → Occurs query.patterns ignore_case haystack span i p → (at ≤ p) × (p < span.end))
      → NothingOccurs query.patterns ignore_case haystack span
  nothing_occurs span at end told = λ i p is. absurd (omega (arith, end, (told i p is).0, (told i p is).1))

  pub count_of_none : (span : Span) → NothingOccurs query.patterns ignore_case haystack span
      → IsCount query ignore_case haystack span 0
  count_of_none span none = ([], span.start, none_here span.end span.start, none, refl)

  next_in_greedy : (at end : ℕ) (all : List MatchValue) → IsGreedyIn query ignore_case haystack (between at end) all
      → (next : ℕ) × AreNext query ignore_case haystack end at all next
      × NothingOccurs query.patterns ignore_case haystack (between next end)
  next_in_greedy at end [] nothing = (at, none_here end at, nothing)
  next_in_greedy at end (found ∷ more) greedy =
      let rest = next_in_greedy found.end end more greedy.1 in (rest.0, (greedy.0, rest.1), rest.2)

  -- the length of a greedy list
  pub count_of_greedy : (span : Span) (count : ℕ) → IsGreedyCount query ignore_case haystack span count
      → IsCount query ignore_case haystack span count
  count_of_greedy span count (all, greedy, is) =
      let next = next_in_greedy span.start span.end all greedy in (all, next.0, next.1, next.2, is)

  -- the matches in the rest of a span, before which none begins, are those in the span
  pub count_in_rest : (span : Span) (at : ℕ) (counted : Result ℕ Damaged)
      → BeginsNone query ignore_case haystack span.end span.start at
      → IsOkAnd counted (IsCount query ignore_case haystack (between at span.end))
      → IsOkAnd counted (IsCount query ignore_case haystack span)
  count_in_rest span at (Ok count) before (all, next, are, none, is) =
      (all, next, joined span.end span.start at next [] all before are, none, is)
  count_in_rest span at (Err damaged) before is = is

  -- so is a page of them, unless it is empty
  pub page_from : (span : Span) (at : ℕ) (old new : List LiteralMatch) (page : LiteralPage)
      → BeginsNone query ignore_case haystack span.end span.start at
      → IsPage query ignore_case haystack (between at span.end) old new page
      → ¬ ((page.written ≡ 0) × (page.is_last ≡ 1)) → IsPage query ignore_case haystack span old new page
  page_from span at old new page before is some = record {
    len = is.len;
    fits = is.fits;
    matches = joined span.end span.start at page.next [] (map match_of (take page.written new)) before is.matches;
    others = is.others;
    rest = elim is.rest [
      | inl (last, next, none) ↦ inl (
        last,
        next ∙ end_of_some at span.start (map match_of (take page.written new))
            (omega (
              arith,
              is.fits,
              length-map (take page.written new) match_of,
              length-take-le page.written new is.fits,
              positive page.written (λ empty. some (empty, last)),
            )),
        none,
      )
      | inr more ↦ inr more
    ];
  }

  -- one more, which is written behind them
  pub one_more : (end at next i : ℕ) (written : List LiteralMatch) (found : LiteralMatch) → i < length written
      → AreNext query ignore_case haystack end at (map match_of (take i written)) next
      → IsLeftmostMatch query ignore_case haystack (between next end) (match_of found)
      → AreNext query ignore_case haystack end at (map match_of (take (i + 1) (set written i found))) found.end
  one_more end at next i written found lt before here =
      let list : map match_of (take (i + 1) (set written i found))
      ≡ map match_of (take i written) ++ match_of found ∷ [] =
      ap (map match_of) (rw add-one (take-suc-set written i found lt))
      ∙ map-append match_of (take i written) (found ∷ []) in
      subst (λ all. AreNext query ignore_case haystack end at all found.end) (sym list)
      (joined end at next found.end (map match_of (take i written)) (match_of found ∷ []) before
      (here, none_here end found.end))

  -- a full page, behind whose last match there is another
  pub full_page : (span : Span) (old new : List LiteralMatch) (i written next : ℕ) (found : MatchValue) → written ≡ i
      → length new ≡ length old → i ≡ length new
      → AreNext query ignore_case haystack span.end span.start (map match_of (take i new)) next
      → drop i new ≡ drop i old
      → IsLeftmostMatch query ignore_case haystack (between next span.end) found
      → IsPage query ignore_case haystack span old new
      (let p : LiteralPage = record { written = written; next = found.start; is_last = 0 } in p)
  full_page span old new i written next found count len full are others leftmost =
      subst (λ n. IsPage query ignore_case haystack span old new
      (let p : LiteralPage = record { written = n; next = found.start; is_last = 0 } in p)) (sym count) (record {
        len = len;
        fits = omega (arith, full);
        matches = up_to span.end span.start next found.start (map match_of (take i new)) are
            (leftmost.occurs.after_start, λ i p early occurs. leftmost.earliest i p early occurs);
        others = others;
        rest = inr (
          refl,
          full,
          found.pattern,
          from next found.start span.end found.pattern found.start (omega arith) leftmost.occurs,
        );
      })

-- the last of some matches is the one behind them
last_is : (at : ℕ) (all : List MatchValue) (found : MatchValue) → end_of_last at (all ++ found ∷ []) ≡ found.end
last_is at [] found = refl
last_is at (before ∷ more) found = last_is before.end more found

-- the last match that is written
pub last_written : (at i : ℕ) (written : List LiteralMatch) (found : LiteralMatch) → i < length written
    → end_of_last at (map match_of (take (i + 1) (set written i found))) ≡ found.end
last_written at i written found lt =
    let list : map match_of (take (i + 1) (set written i found))
    ≡ map match_of (take i written) ++ match_of found ∷ [] =
    ap (map match_of) (rw add-one (take-suc-set written i found lt))
    ∙ map-append match_of (take i written) (found ∷ []) in
    ap (end_of_last at) list ∙ last_is at (map match_of (take i written)) (match_of found)

-- a match that may be in the rest of a span may be in the span
pub may_be_in_all : (start next end patterns : ℕ) (found : MatchValue) → start ≤ next
    → MayBeFound (between next end) patterns found → MayBeFound (between start end) patterns found
may_be_in_all start next end patterns found after may = record {
  lies = record {
    start = omega (arith, after, may.lies.start);
    some = may.lies.some;
    end = may.lies.end;
  };
  pattern = may.pattern;
}

-- what holds of all that is written, and of one more
pub all_more : (P : LiteralMatch → Type 0) (i : ℕ) (written : List LiteralMatch) (found : LiteralMatch)
    → i < length written → All P (take i written) → P found → All P (take (i + 1) (set written i found))
all_more P i written found lt before here =
    subst (All P) (sym (rw add-one (take-suc-set written i found lt)))
    (All-push P (take i written) found before here)

-- an iteration that gave one more
pub pushed : (first : OverlappingMatchesValue) (all : List MatchValue) (last next : OverlappingMatchesValue)
    (found : MatchValue) → Yields GivesOverlapping first all last → GivesOverlapping last (Some found) next
    → Yields GivesOverlapping first (all ++ found ∷ []) next
pushed first [] last next found stays here =
    (next, subst (λ j. GivesOverlapping j (Some found) next) (sym stays) here, refl)
pushed first (x ∷ xs) last next found run here = (run.0, run.1, pushed run.0 xs last next found run.2 here)

-- the same, where it is written behind the others
pub given_more : (first : OverlappingMatchesValue) (written : List LiteralMatch) (i : ℕ) (found : LiteralMatch)
    (last next : OverlappingMatchesValue) → i < length written
    → Yields GivesOverlapping first (map match_of (take i written)) last
    → GivesOverlapping last (Some (match_of found)) next
    → Yields GivesOverlapping first (map match_of (take (i + 1) (set written i found))) next
given_more first written i found last next lt before here =
    let list : map match_of (take (i + 1) (set written i found))
    ≡ map match_of (take i written) ++ match_of found ∷ [] =
    ap (map match_of) (rw add-one (take-suc-set written i found lt)) ∙ map-append match_of (take i written) (found ∷ [])
    in
    subst (λ all. Yields GivesOverlapping first all next) (sym list)
    (pushed first (map match_of (take i written)) last next (match_of found) before here)
