-- One try of a confirming search by a table.
-- For `confirm_by_table`.
use Rattle.std.proofs.Common.{◌≡◌, ℕ, ◌+◌, ◌-◌, ◌*◌, ◌<◌, ◌≤◌, eqb, max, Bool, ◌||◌, List, length}
use Rattle.std.proofs.Common.{slice_index, Option, Some, None, refl, sym, ap, ◌∙◌, ⊎_elim, unwrap_or, arith}
use Rattle.std.specs.List.{All, range_with_len}
use Rattle.std.proofs.lemmas.Bool.{cases_lt}
use Rattle.std.proofs.lemmas.List.FromFn.{length-range_with_len}
use Rattle.std.proofs.lemmas.List.Sums.{count_by-le-length}
use Rattle.literal_base.specs.Leftmost.{is_better}
use Rattle.literal_base.specs.MatchValue.{MatchValue}
use Rattle.literal_base.specs.Query.{Query}
use Rattle.literal_prefilters.specs.Confirming.{compared_at, counts_after_tries}
use Rattle.literal_base.specs.Counts.{Counts}
use Rattle.literal_base.specs.declared.search.Span.{Span}
use Rattle.literal_prefilters.specs.declared.prefilter.byte_table.TableByte.{TableByte}
use Rattle.literal_base.specs.Bytes.{AreBytes}
use Rattle.literal_base.specs.Occurs.{IsValidSpan, Occurs}
use Rattle.literal_prefilters.specs.Reached.{reached_count}
use Rattle.literal_prefilters.specs.Inside.Confirming.{IsKept, read_to}
use Rattle.literal_base.specs.Occurs.{NothingOccurs}
use Rattle.literal_prefilters.specs.Table.{distance_of, first_place, step_back, Covers}
use Rattle.literal_prefilters.specs.Table.{IsFirst}
use Rattle.literal_prefilters.proofs.lemmas.Callers.{IsFree, is_first_from, first_is}
use Rattle.literal_prefilters.proofs.lemmas.RestOfSpan.{in_rest}
use Rattle.literal_prefilters.proofs.lemmas.PlacesNear.{valid_rest, first_later, reached_count-before}
use Rattle.literal_prefilters.proofs.lemmas.PlacesNear.{reached_count-tried}
use Rattle.literal_prefilters.proofs.lemmas.Sound.{none_before_step, nothing_from_free}

module _ (table : List (Option ℕ)) (haystack : List ℕ) (span : Span) where
  abbrev rest : ℕ → Span
  rest at = record { start = at; end = span.end }

  -- what was read ends at the first byte of the table from the place on, or before
  pub read_to-le : (at place : ℕ) (kept : Option TableByte) → IsKept table haystack span.start at span.end kept
      → IsFirst table haystack (rest at) place → read_to span.start kept ≤ place + 1
  read_to-le at place kept k f =
      ⊎_elim
      (λ (h : place + 1 < read_to span.start kept). absurd
      (let no = k.free place f.after_start h in let yes = f.here in cc))
      (λ (h : read_to span.start kept ≤ place + 1). h)
      (cases_lt (place + 1) (read_to span.start kept))

  -- the byte that was found is kept past the place that was tried
  pub kept_on : (at start : ℕ) (found : TableByte) → span.start ≤ at → IsFirst table haystack (rest at) found.place
      → distance_of table (slice_index haystack found.place) ≡ Some found.distance → at ≤ start → start ≤ found.place
      → IsKept table haystack span.start (start + 1) span.end (Some found)
  kept_on at start found after f far from to =
      let below = f.before_end in record {
        after_start = omega arith;
        behind = omega arith;
        within = omega arith;
        free = λ k low high. f.none_before k (omega arith) (omega arith);
        distance = far;
      }

  -- the place that is tried, as the code computes it
  pub tried_is : (at : ℕ) (found : TableByte) (less start : ℕ)
      → distance_of table (slice_index haystack found.place) ≡ Some found.distance
      → less ≡ found.place - found.distance → start ≡ max at less → start ≡ step_back table haystack at found.place
  tried_is at found less start far e f =
      let d : unwrap_or (distance_of table (slice_index haystack found.place)) 0 ≡ found.distance = ap
      (λ o. unwrap_or o 0) far in omega arith

  module _ (patterns : List (List ℕ)) (c : Bool) (covers : All (Covers table c) patterns) (bytes : AreBytes haystack)
      (valid : IsValidSpan haystack span) where
    pub none_before_tried : (at place : ℕ) → ((i s : ℕ) → Occurs patterns c haystack span i s → at ≤ s)
        → IsFirst table haystack (rest at) place → (i s : ℕ) → Occurs patterns c haystack span i s
        → step_back table haystack at place ≤ s
    none_before_tried at place none f i s o =
        none_before_step table patterns c covers haystack bytes (rest at)
        (valid_rest table haystack span valid at (omega (arith, f.after_start, f.before_end))) place f i s
        (in_rest patterns c haystack span at i s (none i s o) o)

    pub nothing_from_rest : (at : ℕ) → at ≤ span.end → ((i s : ℕ) → Occurs patterns c haystack span i s → at ≤ s)
        → IsFree table haystack at span.end → NothingOccurs patterns c haystack span
    nothing_from_rest at below none free i s o =
        nothing_from_free table patterns c covers haystack bytes (rest at)
        (valid_rest table haystack span valid at below) free i s
        (in_rest patterns c haystack span at i s (none i s o) o)

-- what is known of a place that is tried
pub record Try (table : List (Option ℕ)) (haystack : List ℕ) (span : Span) (at : ℕ) (kept : Option TableByte)
    (found : TableByte) (start : ℕ) : Type 0 where
  pub within : at ≤ span.end
  pub first_here : IsFirst table haystack (rest table haystack span at) found.place
  pub tried : start ≡ step_back table haystack at found.place
  pub from : at ≤ start
  pub to : start ≤ found.place
  pub first_from_start : first_place table haystack (rest table haystack span start) ≡ Some found.place
  pub before : reached_count table haystack span start ≡ reached_count table haystack span at
  pub counted : reached_count table haystack span (start + 1) ≡ reached_count table haystack span at + 1
  pub read : read_to span.start kept ≤ found.place + 1
  pub next : IsKept table haystack span.start (start + 1) span.end (Some found)

pub one_try : (table : List (Option ℕ)) (haystack : List ℕ) (span : Span) → IsValidSpan haystack span
    → (at : ℕ) (kept : Option TableByte) (found : TableByte) (less start : ℕ)
    → IsKept table haystack span.start at span.end kept
    → Some found.place ≡ first_place table haystack (record { start = at; end = span.end })
    → distance_of table (slice_index haystack found.place) ≡ Some found.distance → less ≡ found.place - found.distance
    → start ≡ max at less → Try table haystack span at kept found start
one_try table haystack span valid at kept found less start k place far back up =
    let after = k.after_start in
    let within : at ≤ span.end = omega (arith, k.behind, k.within) in
    let f = is_first_from table haystack (rest table haystack span at)
    (valid_rest table haystack span valid at within) found.place (sym place) in
    let below = f.before_end in
    let low = f.after_start in
    let tried = tried_is table haystack span at found less start far back up in
    let to : start ≤ found.place = omega arith in
    let from : at ≤ start = omega arith in
    record {
      within = within;
      first_here = f;
      tried = tried;
      from = from;
      to = to;
      first_from_start = first_is table haystack (rest table haystack span start)
          (valid_rest table haystack span valid start (omega arith)) found.place
          (first_later table haystack span valid at found.place start f from to);
      before = ap (reached_count table haystack span) tried
          ∙ reached_count-before table haystack span valid at found.place after f;
      counted = ap (λ s. reached_count table haystack span (s + 1)) tried
          ∙ reached_count-tried table haystack span valid at found.place after f;
      read = read_to-le table haystack span at found.place kept k f;
      next = kept_on table haystack span at start found after f far from to;
    }

-- counts that are the same in each field
pub counts_are : (a b : Counts) → a.hashed ≡ b.hashed → a.entries ≡ b.entries → a.compared ≡ b.compared
    → a.scanned ≡ b.scanned → a.tried ≡ b.tried → a ≡ b
counts_are a b h e c s t =
    let made : ◌≡◌ {A = Counts} (record {
      hashed = a.hashed;
      entries = a.entries;
      compared = a.compared;
      scanned =
          a.scanned;
      tried = a.tried;
    }) (record
    { hashed = b.hashed; entries = b.entries; compared = b.compared; scanned = b.scanned; tried = b.tried }) =
    cc in made

-- the counts after one try more: a byte of the table is looked for, the place is ticked, and patterns are compared
pub counts_of_try : (old base next ticked new : Counts) (a b t read more compared scanned tried : ℕ)
    → base ≡ record old { compared = old.compared + a; scanned = old.scanned + b; tried = old.tried + t }
    → next ≡ record base { scanned = base.scanned + read } → ticked ≡ record next { tried = next.tried + 1 }
    → new ≡ record ticked { compared = ticked.compared + more }
    → a + more ≡ compared → b + read ≡ scanned → t + 1 ≡ tried
    → new ≡ record old
    { compared = old.compared + compared; scanned = old.scanned + scanned; tried = old.tried + tried }
counts_of_try old base next ticked new a b t read more compared scanned tried base_is next_is ticked_is new_is c s tr =
    new_is
    ∙ (ap (λ (n : Counts). record n { compared = n.compared + more }) (ticked_is
    ∙ ap (λ (n : Counts). record n { tried = n.tried + 1 }) (next_is
    ∙ ap (λ (n : Counts). record n { scanned = n.scanned + read }) base_is))
    ∙ counts_are _ _ refl refl (omega arith) (omega arith) (omega arith))

-- at no place more patterns are compared than there are
pub compared_at_most : (query : Query) (answer : Option ℕ) → compared_at query answer ≤ length query.patterns
compared_at_most query None = omega arith
compared_at_most query (Some j) =
    let n = length query.patterns in
    omega (
      arith,
      count_by-le-length (λ i. eqb i j || is_better query.kind query.patterns i j) (range_with_len 0 n),
      length-range_with_len 0 n,
    )

-- so a search compares at most as often as there are patterns for each place that it tries
pub compared_by_tries_at_most : (old new : Counts) (table : List (Option ℕ)) (query : Query) (haystack : List ℕ)
    (span : Span) (found : MatchValue)
    → reached_count table haystack span (found.start + 1) ≡ reached_count table haystack span found.start + 1
    → new ≡ counts_after_tries old table query haystack span (Some found)
    → new.compared ≤ old.compared + (new.tried - old.tried) * length query.patterns
compared_by_tries_at_most old new table query haystack span found one is =
    let n = length query.patterns in
    let before = reached_count table haystack span found.start in
    let tried : new.tried ≡ old.tried + reached_count table haystack span (found.start + 1) =
    ap (λ (c : Counts). c.tried) is in
    let compared : new.compared ≡ old.compared + (before * n + compared_at query (Some found.pattern)) =
    ap (λ (c : Counts). c.compared) is in
    let times : (new.tried - old.tried) * n ≡ (before + 1) * n =
    let e : new.tried - old.tried ≡ before + 1 = omega arith in ap (λ k. k * n) e in
    omega (arith, compared_at_most query (Some found.pattern))
