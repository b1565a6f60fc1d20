-- What confirming searches count together, one match after another.
-- For `ConfirmingSearch::find_all`, and the law that a scan ends with the match.
use Rattle.std.proofs.Common.{◌≡◌, ℕ, ◌+◌, ◌-◌, ◌*◌, ◌<◌, ◌≤◌, Bool, false, List, length, Option, Some, None, unwrap_or}
use Rattle.std.proofs.Common.{IfSome, refl, sym, ap, ◌∙◌, subst, arith}
use Rattle.std.specs.List.{All}
use Rattle.literal_base.specs.Bytes.{AreBytes}
use Rattle.literal_base.specs.Counts.{Counts}
use Rattle.literal_base.specs.declared.search.Span.{Span}
use Rattle.literal_base.specs.Leftmost.{IsLeftmost, IsLeftmostMatch}
use Rattle.literal_base.specs.MatchValue.{MatchValue}
use Rattle.literal_base.specs.Occurs.{IsValidSpan, NothingOccurs, Occurs, between, rest_from}
use Rattle.literal_base.specs.Query.{Query}
use Rattle.literal_packed.specs.Spending.{SpendsAtMost}
use Rattle.literal_base.proofs.lemmas.GreedyLists.{rest_is}
use Rattle.literal_packed.proofs.lemmas.Spending.{spends_found, spends_last, spends_within}
use Rattle.literal_prefilters.specs.Confirming.{SpendsConfirming, SpendsTries, compared_by_tries, scanned_once}
use Rattle.literal_prefilters.specs.Confirming.{counts_after_confirming, counts_after_tries, tried_count}
use Rattle.literal_prefilters.specs.Exact.{CoversPattern, query_of_one}
use Rattle.literal_prefilters.specs.Reached.{reached_count}
use Rattle.literal_prefilters.specs.PrefilterValue.{PrefilterValue, CoveredBy, by_table, by_memmem, by_packed}
use Rattle.literal_prefilters.specs.PrefilterValue.{prefilter_table}
use Rattle.literal_prefilters.specs.Table.{Covers, first_place}
use Rattle.literal_prefilters.proofs.lemmas.Callers.{free_from_first, is_first_from}
use Rattle.literal_prefilters.proofs.lemmas.PlacesNear.{reached_count-joined}
use Rattle.literal_prefilters.proofs.lemmas.Sound.{first_in_occurrence, nothing_from_free}
use Rattle.literal_prefilters.proofs.lemmas.OneTry.{counts_are}

module _ (table : List (Option ℕ)) (query : Query) (ignore_case : Bool)
    (covers : All (Covers table ignore_case) query.patterns) (haystack : List ℕ) (bytes : AreBytes haystack)
    (span : Span) (valid : IsValidSpan haystack span) where
  -- the first byte of the table from a match's start on lies in the match
  pub first_in_match : (found : MatchValue) → IsLeftmostMatch query ignore_case haystack span found
      → (place : ℕ) × (first_place table haystack (between found.start span.end) ≡ Some place) × (place < found.end)
  first_in_match found leftmost = from (first_place table haystack behind) refl
    where
      behind : Span
      behind = between found.start span.end

      occurs : Occurs query.patterns ignore_case haystack behind found.pattern found.start
      occurs = record {
        is_pattern = leftmost.occurs.is_pattern;
        after_start = omega arith;
        before_end = leftmost.occurs.before_end;
        same = leftmost.occurs.same;
      }

      behind_valid : IsValidSpan haystack behind
      behind_valid = record {
        ordered = omega (arith, leftmost.occurs.before_end);
        in_haystack = valid.in_haystack;
      }

      from : (o : Option ℕ) → first_place table haystack behind ≡ o
          → (place : ℕ) × (o ≡ Some place) × (place < found.end)
      from None e = absurd (nothing_from_free table query.patterns ignore_case covers haystack bytes behind behind_valid
          (free_from_first table haystack behind behind_valid e) found.pattern found.start occurs)
      from (Some place) e =
          let within = first_in_occurrence table query.patterns ignore_case covers haystack bytes behind behind_valid
          place (is_first_from table haystack behind behind_valid place e) found.pattern found.start occurs in
          (place, refl, omega (arith, within, leftmost.whole))

  -- so the scan for it ends within the match
  pub scan_ends_in_match : (found : MatchValue) → IsLeftmostMatch query ignore_case haystack span found
      → scanned_once table haystack span (Some found) ≤ found.end - span.start
  scan_ends_in_match found leftmost =
      let last = first_in_match found leftmost in
      let is : unwrap_or (first_place table haystack (between found.start span.end)) 0 ≡ last.0 =
      ap (λ o. unwrap_or o 0) last.1 in
      omega (arith, is, last.2)

  -- and no scan is longer than the span
  pub scan_ends_in_span : (answer : Option MatchValue) → IsLeftmost query ignore_case haystack span answer
      → scanned_once table haystack span answer ≤ span.end - span.start
  scan_ends_in_span None nothing = omega arith
  scan_ends_in_span (Some found) leftmost =
      omega (arith, scan_ends_in_match found leftmost, leftmost.whole, leftmost.occurs.before_end)

-- one search more, which scans no further than to a place and tries no place behind it
tries_more : (table : List (Option ℕ)) (query : Query) (haystack : List ℕ) (span : Span) (to : ℕ)
    (answer : Option MatchValue) (old mid new : Counts)
    → SpendsTries table query.patterns haystack span.start old mid
    → new ≡ counts_after_tries mid table query haystack span answer
    → new.compared ≤ mid.compared + (new.tried - mid.tried) * length query.patterns
    → scanned_once table haystack span answer ≤ to - span.start → span.start ≤ to
    → reached_count table haystack (rest_from haystack 0) span.start + (new.tried - mid.tried)
    ≤ reached_count table haystack (rest_from haystack 0) to
    → SpendsTries table query.patterns haystack to old new
tries_more table query haystack span to answer old mid new so_far is most once after near =
    let Set : Counts → Counts = λ t. record t { compared = new.compared; scanned = new.scanned; tried = new.tried } in
    let n = length query.patterns in
    let compared : new.compared ≡ mid.compared + compared_by_tries table query haystack span answer =
    ap (λ (c : Counts). c.compared) is in
    let tried : new.tried ≡ mid.tried + tried_count table haystack span answer = ap (λ (c : Counts). c.tried) is in
    let scanned : new.scanned ≡ mid.scanned + scanned_once table haystack span answer =
    ap (λ (c : Counts). c.scanned) is in
    let others : new ≡ Set mid = is ∙ counts_are _ _ refl refl (sym compared) (sym scanned) (sym tried) in
    let parts : new.tried - old.tried ≡ (mid.tried - old.tried) + (new.tried - mid.tried) =
    omega (arith, so_far.tried_grows) in
    let products : (new.tried - old.tried) * n ≡ (mid.tried - old.tried) * n + (new.tried - mid.tried) * n =
    ap (λ k. k * n) parts ∙ mul_add (mid.tried - old.tried) (new.tried - mid.tried) n in
    record {
      scanned = omega (arith, so_far.scanned);
      tried = omega (arith, so_far.tried);
      compared = omega (arith, so_far.compared, most);
      scanned_grows = omega (arith, so_far.scanned_grows);
      tried_grows = omega (arith, so_far.tried_grows);
      compared_grows = omega (arith, so_far.compared_grows, compared);
      others = others ∙ ap Set so_far.others;
    }
  where
    mul_add : (a b n : ℕ) → (a + b) * n ≡ a * n + b * n
    mul_add a b n = omega arith

-- what the searches up to a place count together, whatever the prefilter goes by
abbrev pub SpendsTo : PrefilterValue → List (List ℕ) → List ℕ → ℕ → Counts → Counts → Type 0
SpendsTo (by_table table) patterns haystack to old new = SpendsTries table patterns haystack to old new
SpendsTo (by_memmem pattern) patterns haystack to old new = SpendsAtMost (query_of_one pattern) haystack 0 to old new
SpendsTo (by_packed query) patterns haystack to old new = SpendsAtMost query haystack 0 to old new

-- at the end, or wherever the searches were given up
pub spends_whole : (pre : PrefilterValue) (patterns : List (List ℕ)) (haystack : List ℕ) (to : ℕ) (old new : Counts)
    → to ≤ length haystack → SpendsTo pre patterns haystack to old new
    → SpendsConfirming pre patterns haystack old new
spends_whole (by_table table) patterns haystack to old new within s =
    let joined = reached_count-joined table haystack to (length haystack) within in
    record {
      scanned = omega (arith, s.scanned);
      tried = omega (arith, s.tried);
      compared = s.compared;
      scanned_grows = s.scanned_grows;
      tried_grows = s.tried_grows;
      compared_grows = s.compared_grows;
      others = s.others;
    }
spends_whole (by_memmem pattern) patterns haystack to old new within s =
    spends_within (query_of_one pattern) haystack to old new s
spends_whole (by_packed query) patterns haystack to old new within s = spends_within query haystack to old new s

-- the leftmost match of one pattern, for which the kind makes no difference
one_found : (pattern : List ℕ) (query : Query) (ignore_case : Bool) (haystack : List ℕ) (span : Span)
    (found : MatchValue) → CoversPattern pattern query ignore_case
    → IsLeftmostMatch query ignore_case haystack span found
    → IsLeftmostMatch (query_of_one pattern) false haystack span found
one_found pattern query ignore_case haystack span found covers leftmost =
    let With : List (List ℕ) → Query = λ patterns. record { kind = query.kind; patterns = patterns } in
    let kept = subst (λ c. IsLeftmostMatch query c haystack span found) covers.case_kept leftmost in
    let one = subst (λ ps. IsLeftmostMatch (With ps) false haystack span found) covers.patterns kept in
    record {
      occurs = one.occurs;
      whole = one.whole;
      earliest = one.earliest;
      best = λ i better. absurd (omega (arith, one.occurs.is_pattern));
    }

one_nothing : (pattern : List ℕ) (query : Query) (ignore_case : Bool) (haystack : List ℕ) (span : Span)
    → CoversPattern pattern query ignore_case → NothingOccurs query.patterns ignore_case haystack span
    → NothingOccurs (query_of_one pattern).patterns false haystack span
one_nothing pattern query ignore_case haystack span covers nothing =
    let kept = subst (λ c. NothingOccurs query.patterns c haystack span) covers.case_kept nothing in
    subst (λ ps. NothingOccurs ps false haystack span) covers.patterns kept

module _ (query : Query) (ignore_case : Bool) (haystack : List ℕ) (bytes : AreBytes haystack) (span : Span)
    (to_end : span.end ≡ length haystack) (within : span.start ≤ length haystack) (old mid new : Counts) where
  valid : IsValidSpan haystack span
  valid = record { ordered = omega (arith, to_end); in_haystack = omega (arith, to_end) }

  -- the near places of the rest as those of the span
  reached_rest : (table : List (Option ℕ)) (to : ℕ)
      → reached_count table haystack span to ≡ reached_count table haystack (rest_from haystack span.start) to
  reached_rest table to = ap (λ (s : Span). reached_count table haystack s to) (rest_is haystack span to_end)

  -- a match more
  pub spends_match : (pre : PrefilterValue) → CoveredBy pre query ignore_case → (found : MatchValue)
      → found.start < found.end → SpendsTo pre query.patterns haystack span.start old mid
      → IsLeftmostMatch query ignore_case haystack span found
      → new ≡ counts_after_confirming mid pre query haystack span (Some found)
      → IfSome (prefilter_table pre)
      (λ _. new.compared ≤ mid.compared + (new.tried - mid.tried) * length query.patterns)
      → SpendsTo pre query.patterns haystack found.end old new
  spends_match (by_table table) covers found some so_far leftmost once most =
      let tried : new.tried ≡ mid.tried + reached_count table haystack span (found.start + 1) =
      ap (λ (c : Counts). c.tried) once in
      let after = leftmost.occurs.after_start in
      let here = reached_count-joined table haystack span.start (found.start + 1) (omega arith) in
      let on = reached_count-joined table haystack (found.start + 1) found.end (omega arith) in
      tries_more table query haystack span found.end (Some found) old mid new so_far once most
      (scan_ends_in_match table query ignore_case covers haystack bytes span valid found leftmost) (omega arith)
      (omega (arith, tried, reached_rest table (found.start + 1)))
  spends_match (by_memmem pattern) covers found some so_far leftmost once most =
      spends_found (query_of_one pattern) haystack span old mid new found to_end within some so_far
      (one_found pattern query ignore_case haystack span found covers leftmost) once
  spends_match (by_packed searched) covers found some so_far leftmost once most =
      let kept = subst (λ c. IsLeftmostMatch query c haystack span found) covers.case_kept leftmost in
      spends_found searched haystack span old mid new found to_end within some so_far
      (subst (λ q. IsLeftmostMatch q false haystack span found) covers.same kept) once

  -- the last search, which finds nothing
  pub spends_end : (pre : PrefilterValue) → CoveredBy pre query ignore_case
      → SpendsTo pre query.patterns haystack span.start old mid
      → NothingOccurs query.patterns ignore_case haystack span
      → new ≡ counts_after_confirming mid pre query haystack span None
      → IfSome (prefilter_table pre)
      (λ _. new.compared ≤ mid.compared + (new.tried - mid.tried) * length query.patterns)
      → SpendsTo pre query.patterns haystack (length haystack) old new
  spends_end (by_table table) covers so_far nothing once most =
      let tried : new.tried ≡ mid.tried + reached_count table haystack span span.end =
      ap (λ (c : Counts). c.tried) once in
      let joined = reached_count-joined table haystack span.start (length haystack) within in
      let ends = ap (reached_count table haystack span) to_end in
      tries_more table query haystack span (length haystack) None old mid new so_far once most
      (omega (arith, to_end)) within (omega (arith, tried, reached_rest table (length haystack)))
  spends_end (by_memmem pattern) covers so_far nothing once most =
      spends_last (query_of_one pattern) haystack span old mid new to_end within so_far
      (one_nothing pattern query ignore_case haystack span covers nothing) once
  spends_end (by_packed searched) covers so_far nothing once most =
      let kept = subst (λ c. NothingOccurs query.patterns c haystack span) covers.case_kept nothing in
      spends_last searched haystack span old mid new to_end within so_far
      (subst (λ (q : Query). NothingOccurs q.patterns false haystack span) covers.same kept) once
