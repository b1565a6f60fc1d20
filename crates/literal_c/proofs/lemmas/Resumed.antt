-- Occurrences from a position on: an iteration over them, by one that begins earlier.
-- For `Resumed`, `literal_find_overlapping_from_in` and the law of pages.
use Rattle.std.proofs.Common.{◌≡◌, ◌↔◌, ◌∙◌, ◌⊎◌, ℕ, ◌+◌, ◌-◌, ◌*◌, ◌<◌, ◌≤◌, ◌++◌, List, [], ◌∷◌, None, Some}
use Rattle.std.proofs.Common.{ap, arith, get_or, inl, inr, refl, subst, sym}
use Rattle.std.proofs.Math.Nat.{mul-le-mul_right}
use Rattle.std.specs.Iterator.{Yields}
use Rattle.std.specs.Prelude.{max}
use Rattle.literal_base.specs.MatchValue.{MatchValue}
use Rattle.literal_base.specs.Occurs.{between}
use Rattle.literal_rows.proofs.lemmas.Longest.{longest_is}
use Rattle.literal_search.specs.Overlapping.{OverlappingValue}
use Rattle.literal_search.specs.OverlappingMatchesValue.{GivesOverlapping, IsNextToCome, IsToCome}
use Rattle.literal_search.specs.OverlappingMatchesValue.{OverlappingMatchesValue, gone_on}
use Rattle.literal_search.specs.Prepared.{LiesIn}
use Rattle.literal_search.specs.PreparedOverlapping.{IsNotBefore, IsPreparedOverlapping}
use Rattle.literal_search.specs.PreparedOverlapping.{PreparedOverlappingMatchesValue}
use Rattle.literal_search.specs.PreparedOverlapping.{matches_for}
use Rattle.literal_search.specs.SearchValue.{longest_of}
use Rattle.literal_c.specs.Inside.Resumed.{IsResumed, ResumedValue}
use Rattle.literal_c.specs.Overlapping.{IsFrom, occurrences_from}

-- what is to come of one iteration is what is to come of another one from a position on
abbrev pub AreSame : OverlappingMatchesValue → OverlappingMatchesValue → ℕ → ℕ → Type 0
AreSame m s end pattern = (found : MatchValue) → IsToCome m found ↔ (IsToCome s found × IsFrom end pattern found)

module _ (m : OverlappingMatchesValue) (found : MatchValue) (here : IsToCome m found) where
  -- what is to come behind an occurrence that is to come is to come too
  later : (other : MatchValue) → IsToCome (gone_on m (Some found)) other → IsToCome m other
  later other is = record { occurrence = is.occurrence; after = grind (arith, is.after, here.after) }

module _ (m s : OverlappingMatchesValue) (end pattern : ℕ) (found : MatchValue) (same : AreSame m s end pattern)
    (next : IsNextToCome s found) where
  -- the next one, from the position on, is the next one of both
  pub is_next : IsFrom end pattern found → IsNextToCome m found
  is_next from = record {
    to_come = (same found).1 (next.to_come, from);
    first = λ other is. next.first other ((same other).0 is).0;
  }

  -- and behind it the same are to come
  pub go_on : IsFrom end pattern found
      → AreSame (gone_on m (Some found)) (gone_on s (Some found)) end pattern
  go_on from = λ other. (
    λ is.
        let both = (same other).0 (later m found ((same found).1 (next.to_come, from)) other is) in
        (record { occurrence = both.0.occurrence; after = is.after }, both.1),
    λ both.
        let is = (same other).1 (later s found next.to_come other both.0, both.1) in
        record { occurrence = is.occurrence; after = both.0.after },
  )

  -- one that comes before the position is left out
  pub leave_out : ¬ IsFrom end pattern found → AreSame m (gone_on s (Some found)) end pattern
  leave_out before = λ other. (
    λ is.
        let both = (same other).0 is in (
          record { occurrence = both.0.occurrence; after = grind (arith, before, both.1, next.first other both.0) },
          both.1,
        ),
    λ both. (same other).1 (later s found next.to_come other both.0, both.1),
  )

-- behind all occurrences none is to come
none_left : (m : OverlappingMatchesValue) (found : MatchValue) → ¬ IsToCome (gone_on m None) found
none_left m found is =
    let occurs = is.occurrence.occurs in
    let whole = is.occurrence.whole in
    elim is.after [
      | inl behind ↦ omega (arith, behind, whole, occurs.before_end)
      | inr last ↦ omega (arith, last.1, occurs.is_pattern)
    ]

module _ (r : ResumedValue) (m : OverlappingMatchesValue) (new : PreparedOverlappingMatchesValue)
    (numbers : new.numbers ≡ r.matches.numbers) (is : IsResumed r m) where
  abbrev old_matches : OverlappingMatchesValue
  old_matches = matches_for m.search r.matches

  abbrev new_matches : OverlappingMatchesValue
  new_matches = matches_for m.search new

  abbrev after : ResumedValue
  after = record r { matches = new }

  resumed : (next : OverlappingMatchesValue) → next.search ≡ m.search → AreSame next new_matches r.end r.pattern
      → IsResumed after next
  resumed next search_is same = record {
    prepared = subst (λ s. IsPreparedOverlapping s new.numbers) (sym search_is)
        (subst (IsPreparedOverlapping m.search) (sym numbers) is.prepared);
    same = subst (λ s. AreSame next (matches_for s new) r.end r.pattern) (sym search_is) same;
  }

  -- the next one, from the position on, is given
  pub gives_one : (found : MatchValue) → GivesOverlapping old_matches (Some found) new_matches
      → IsFrom r.end r.pattern found
      → GivesOverlapping m (Some found) (gone_on m (Some found)) × IsResumed after (gone_on m (Some found))
  gives_one found gives from = (
    record { gives = is_next m old_matches r.end r.pattern found is.same gives.gives from; goes_on = refl },
    resumed (gone_on m (Some found)) refl
        (subst (λ s. AreSame (gone_on m (Some found)) s r.end r.pattern) (sym gives.goes_on)
        (go_on m old_matches r.end r.pattern found is.same gives.gives from)),
  )

  -- one before it is left out
  pub leaves_out : (found : MatchValue) → GivesOverlapping old_matches (Some found) new_matches
      → ¬ IsFrom r.end r.pattern found → IsResumed after m
  leaves_out found gives before =
      resumed m refl
      (subst (λ s. AreSame m s r.end r.pattern) (sym gives.goes_on)
      (leave_out m old_matches r.end r.pattern found is.same gives.gives before))

  -- after the last one there is none
  pub gives_none : GivesOverlapping old_matches None new_matches
      → GivesOverlapping m None (gone_on m None) × IsResumed after (gone_on m None)
  gives_none gives = (
    record { gives = λ found come. gives.gives found ((is.same found).0 come).0; goes_on = refl },
    resumed (gone_on m None) refl
        (subst (λ s. AreSame (gone_on m None) s r.end r.pattern) (sym gives.goes_on)
        (λ found. (λ come. absurd (none_left m found come), λ both. absurd (none_left old_matches found both.0)))),
  )

-- a bound on what an array's iteration has left: each pattern at each end
abbrev pub left_of : PreparedOverlappingMatchesValue → ℕ
left_of v =
    let patterns = get_or v.numbers 3 0 in
    (v.span.end - v.end) * (patterns + 1) + (patterns - v.pattern)

-- it is less after the next occurrence
less : (each stop end pattern next number : ℕ) → (end < next) ⊎ ((end ≡ next) × (pattern ≤ number)) → next ≤ stop
    → number < each
    → (stop - next) * (each + 1) + (each - (number + 1)) < (stop - end) * (each + 1) + (each - pattern)
less each stop end pattern next number (inl later) inside few =
    let times = mul-le-mul_right {m = stop - next + 1} {n = stop - end} (each + 1) (omega arith) in grind arith
less each stop end pattern next number (inr same) inside few =
    let times = ap (λ k. (stop - k) * (each + 1)) same.0 in omega (arith, times, same.1)

pub smaller : (old new : PreparedOverlappingMatchesValue) (found : MatchValue)
    → new ≡ record old { end = new.end; pattern = new.pattern } → LiesIn old.span found
    → found.pattern < get_or old.numbers 3 0
    → IsNotBefore found.end found.pattern old.end old.pattern × (new.end ≡ found.end)
    × (new.pattern ≡ found.pattern + 1)
    → left_of new < left_of old
smaller old new found same lies few ordered =
    subst (λ (v : PreparedOverlappingMatchesValue). left_of v < left_of old) (sym same)
    (subst (λ k. left_of (record old { end = k; pattern = new.pattern }) < left_of old) (sym ordered.1)
    (subst (λ k. left_of (record old { end = found.end; pattern = k }) < left_of old) (sym ordered.2)
    (less (get_or old.numbers 3 0) old.span.end old.end old.pattern found.end found.pattern ordered.0 lies.end few)))

-- no occurrence from a position on begins before that position by more than the length of the longest pattern
pub begin : (search : OverlappingValue) (haystack : List ℕ) (start end next pattern : ℕ) → start ≤ next
    → AreSame (occurrences_from search haystack (between start end) next pattern)
    (let from = max start (next - longest_of search.patterns) in
    occurrences_from search haystack (between from end) from 0) next pattern
begin search haystack start end next pattern after = λ found. (
  λ is.
      let short = longest_is search.patterns found.pattern in
      let occurs = is.occurrence.occurs in
      let whole = is.occurrence.whole in (
        record {
          occurrence = record {
            occurs = record {
              is_pattern = occurs.is_pattern;
              after_start = grind (arith, short, whole, is.after, occurs.after_start);
              before_end = occurs.before_end;
              same = occurs.same;
            };
            whole = whole;
          };
          after = grind (arith, is.after, after);
        },
        is.after,
      ),
  λ both.
      let occurs = both.0.occurrence.occurs in
      record {
        occurrence = record {
          occurs = record {
            is_pattern = occurs.is_pattern;
            after_start = omega (arith, occurs.after_start);
            before_end = occurs.before_end;
            same = occurs.same;
          };
          whole = both.0.occurrence.whole;
        };
        after = both.1;
      },
)

-- an iteration by an array that begins so is one from that position on
pub resumes : (search : OverlappingValue) (numbers haystack : List ℕ) (start end next pattern from : ℕ) → start ≤ next
    → from ≡ max start (next - longest_of search.patterns) → IsPreparedOverlapping search numbers
    → IsResumed (record {
      matches =
          record { numbers = numbers; haystack = haystack; span = between from end; end = from; pattern = 0 };
      end = next;
      pattern = pattern;
    }) (occurrences_from search haystack (between start end) next pattern)
resumes search numbers haystack start end next pattern from after from_is is = record {
  prepared = is;
  same = subst (λ k. AreSame (occurrences_from search haystack (between start end) next pattern)
      (occurrences_from search haystack (between k end) k 0) next pattern) (sym from_is)
      (begin search haystack start end next pattern after);
}

-- where an iteration is after the last one that it gave
pub last_given : (first : OverlappingMatchesValue) (before : List MatchValue) (found : MatchValue)
    (last : OverlappingMatchesValue) → Yields GivesOverlapping first (before ++ found ∷ []) last
    → last ≡ record first { end = found.end; pattern = found.pattern + 1 }
last_given first [] found last run = sym run.2 ∙ run.1.goes_on
last_given first (it ∷ more) found last run =
    last_given run.0 more found last run.2
    ∙ ap (λ (m : OverlappingMatchesValue). record m { end = found.end; pattern = found.pattern + 1 }) run.1.goes_on
