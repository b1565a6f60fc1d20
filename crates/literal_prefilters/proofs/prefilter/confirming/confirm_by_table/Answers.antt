use Rattle.std.proofs.Common.{◌≡◌, ℕ, ◌+◌, ◌-◌, ◌*◌, ◌<◌, ◌≤◌, Some, length, unwrap_or, refl, sym, ap, ◌∙◌, subst}
use Rattle.std.proofs.Common.{⊎_elim, arith}
use Rattle.std.proofs.lemmas.Bool.{cases_lt}
use Rattle.literal_base.specs.Counts.{Counts}
use Rattle.literal_base.specs.MatchValue.{MatchValue}
use Rattle.literal_base.specs.Leftmost.{IsLeftmostMatch}
use Rattle.literal_base.specs.Occurs.{between}
use Rattle.literal_prefilters.specs.Confirming.{compared_at, counts_after_tries}
use Rattle.literal_prefilters.specs.Table.{first_place}
use Rattle.literal_prefilters.specs.Reached.{reached_count}
use Rattle.literal_prefilters.specs.Inside.Confirming.{read_to}
use Rattle.literal_prefilters.proofs.lemmas.Callers.{are_bytes}
use Rattle.literal_prefilters.proofs.lemmas.Callers.{free_from_first}
use Rattle.literal_packed.specs.PatternsValue.{query_of}
use Rattle.literal_prefilters.proofs.lemmas.RestOfSpan.{none_before_next, leftmost_here}
use Rattle.literal_prefilters.proofs.lemmas.PlacesNear.{valid_rest, reached_count-free}
use Rattle.literal_prefilters.proofs.lemmas.Spends.{scan_ends_in_match}
use Rattle.literal_prefilters.proofs.lemmas.OneTry.{compared_by_tries_at_most, counts_are, counts_of_try, one_try}
use Rattle.literal_prefilters.proofs.lemmas.OneTry.{none_before_tried, nothing_from_rest}
use Rattle.literal_prefilters.proofs.prefilter.confirming.confirm_by_table.Goals as goal

pub returns-in-Some-best_at-clause-leftmost : goal.returns-in-Some-best_at-clause-leftmost
returns-in-Some-best_at-clause-leftmost c =
    let t = c.args.table.now in
    let h = c.args.haystack.now in
    let span = c.args.span in
    let ps = c.args.patterns.now.patterns in
    let kind = c.args.patterns.now.kind in
    let ic = c.args.ignore_case in
    let at = c.loop-found.at in
    let found = c.in-Some.found in
    let s = c.max-start.result in
    let k = c.loop-found.invariant.kept in
    let after = k.after_start in
    let y = one_try t h span c.requires.valid at c.loop-found.kept found c.saturating_sub.result s k
    c.in-Some.ensures.place c.in-Some.ensures.distance c.saturating_sub.ensures c.max-start.ensures in
    let none = none_before_tried t h span ps ic c.requires.covered
    (are_bytes h (λ k. omega (arith, c.type_inv.haystack k))) c.requires.valid at found.place
    c.loop-found.invariant.none_before y.first_here in
    let from = y.from in
    let match_of : ℕ → MatchValue = λ n. record { pattern = c.in-Some-best_at.id; start = s; end = s + n } in
    subst (IsLeftmostMatch (query_of c.args.patterns.now) ic h span)
    (sym (c.new.ensures ∙ ap match_of (c.len.ensures ∙ ap length c.get.ensures.bytes)))
    (leftmost_here ps ic h span c.requires.valid kind s c.in-Some-best_at.id (omega arith)
    (λ i j before o. absurd (omega (arith, none i j o, y.tried))) c.in-Some-best_at.ensures.best)

pub returns-in-Some-best_at-clause-exact : goal.returns-in-Some-best_at-clause-exact
returns-in-Some-best_at-clause-exact c =
    let t = c.args.table.now in
    let h = c.args.haystack.now in
    let span = c.args.span in
    let query = query_of c.args.patterns.now in
    let n = length query.patterns in
    let found = c.in-Some.found in
    let start = c.max-start.result in
    let k = c.loop-found.invariant.kept in
    let y = one_try t h span c.requires.valid c.loop-found.at c.loop-found.kept found c.saturating_sub.result start k
    c.in-Some.ensures.place c.in-Some.ensures.distance c.saturating_sub.ensures c.max-start.ensures in
    let scanned : ℕ = unwrap_or (first_place t h (between start span.end)) 0 + 1 - span.start in
    let place : unwrap_or (first_place t h (between start span.end)) 0 ≡ found.place =
    ap (λ o. unwrap_or o 0) y.first_from_start in
    let last = compared_at query (Some c.in-Some-best_at.id) in
    subst (λ f. c.best_at.new.tally ≡ counts_after_tries c.args.tally.now t query h span (Some f)) (sym c.new.ensures)
    (counts_of_try c.args.tally.now c.loop-found.tally c.next_byte.new.tally c.tick_tried.new.self c.best_at.new.tally
    (reached_count t h span c.loop-found.at * n) (read_to span.start c.loop-found.kept - span.start)
    (reached_count t h span c.loop-found.at) (found.place + 1 - read_to span.start c.loop-found.kept)
    last (reached_count t h span start * n + last) scanned
    (reached_count t h span (start + 1)) c.loop-found.invariant.counts c.in-Some.ensures.exact c.tick_tried.ensures
    c.in-Some-best_at.ensures.exact (ap (λ m. m * n + last) (sym y.before))
    (omega (arith, place, k.after_start, k.behind, y.read)) (sym y.counted))

pub returns-in-Some-best_at-clause-within : goal.returns-in-Some-best_at-clause-within
returns-in-Some-best_at-clause-within c =
    let h = c.args.haystack.now in
    let within = scan_ends_in_match c.args.table.now (query_of c.args.patterns.now) c.args.ignore_case
    c.requires.covered h (are_bytes h (λ k. omega (arith, c.type_inv.haystack k))) c.args.span c.requires.valid
    c.new.result (returns-in-Some-best_at-clause-leftmost c) in
    let counted = ap (λ (n : Counts). n.scanned) (returns-in-Some-best_at-clause-exact c) in
    omega (arith, within, counted)

pub returns-in-Some-best_at-clause-compared : goal.returns-in-Some-best_at-clause-compared
returns-in-Some-best_at-clause-compared c =
    let t = c.args.table.now in
    let h = c.args.haystack.now in
    let span = c.args.span in
    let k = c.loop-found.invariant.kept in
    let y = one_try t h span c.requires.valid c.loop-found.at c.loop-found.kept c.in-Some.found
    c.saturating_sub.result c.max-start.result k c.in-Some.ensures.place c.in-Some.ensures.distance
    c.saturating_sub.ensures c.max-start.ensures in
    compared_by_tries_at_most c.args.tally.now c.best_at.new.tally t (query_of c.args.patterns.now) h span c.new.result
    (subst (λ (f : MatchValue). reached_count t h span (f.start + 1) ≡ reached_count t h span f.start + 1)
    (sym c.new.ensures) (y.counted ∙ ap (λ m. m + 1) (sym y.before)))
    (returns-in-Some-best_at-clause-exact c)

pub loop-found-preserved : goal.loop-found-preserved
loop-found-preserved c =
    let t = c.args.table.now in
    let h = c.args.haystack.now in
    let span = c.args.span in
    let ps = c.args.patterns.now.patterns in
    let ic = c.args.ignore_case in
    let at = c.loop-found.at in
    let found = c.in-Some.found in
    let start = c.max-start.result in
    let k = c.loop-found.invariant.kept in
    let y = one_try t h span c.requires.valid at c.loop-found.kept found c.saturating_sub.result start k
    c.in-Some.ensures.place c.in-Some.ensures.distance c.saturating_sub.ensures c.max-start.ensures in
    let none = none_before_tried t h span ps ic c.requires.covered
    (are_bytes h (λ k. omega (arith, c.type_inv.haystack k))) c.requires.valid at found.place
    c.loop-found.invariant.none_before y.first_here in
    let next = none_before_next ps ic h span c.requires.valid start
    (λ i j before o. absurd (omega (arith, none i j o, y.tried))) c.in_default-best_at.ensures.best in
    let n = length ps in
    record {
      kept = y.next;
      none_before = λ i s o. ⊎_elim (λ (early : s < start + 1). absurd (next i s early o))
          (λ (late : start + 1 ≤ s). late) (cases_lt s (start + 1));
      counts = counts_of_try c.args.tally.now c.loop-found.tally c.next_byte.new.tally c.tick_tried.new.self
          c.best_at.new.tally (reached_count t h span at * n) (read_to span.start c.loop-found.kept - span.start)
          (reached_count t h span at) (found.place + 1 - read_to span.start c.loop-found.kept) n
          (reached_count t h span (start + 1) * n) (found.place + 1 - span.start) (reached_count t h span (start + 1))
          c.loop-found.invariant.counts c.in-Some.ensures.exact c.tick_tried.ensures
          c.in_default-best_at.ensures.exact (rw y.counted (omega arith))
          (omega (arith, k.after_start, k.behind, y.read)) (sym y.counted);
    }

pub returns-clause-leftmost : goal.returns-clause-leftmost
returns-clause-leftmost c =
    let t = c.args.table.now in
    let h = c.args.haystack.now in
    let span = c.args.span in
    let at = c.loop-found.at in
    let k = c.loop-found.invariant.kept in
    let below : at ≤ span.end = omega (arith, k.behind, k.within) in
    let free = free_from_first t h (record { start = at; end = span.end })
    (valid_rest t h span c.requires.valid at below) (sym c.in_default.ensures.place) in
    nothing_from_rest t h span c.args.patterns.now.patterns c.args.ignore_case c.requires.covered
    (are_bytes h (λ k. omega (arith, c.type_inv.haystack k))) c.requires.valid at below
    c.loop-found.invariant.none_before free

pub returns-clause-exact : goal.returns-clause-exact
returns-clause-exact c =
    let t = c.args.table.now in
    let h = c.args.haystack.now in
    let span = c.args.span in
    let n = length c.args.patterns.now.patterns in
    let at = c.loop-found.at in
    let k = c.loop-found.invariant.kept in
    let below : at ≤ span.end = omega (arith, k.behind, k.within) in
    let free = free_from_first t h (record { start = at; end = span.end })
    (valid_rest t h span c.requires.valid at below) (sym c.in_default.ensures.place) in
    let count = reached_count-free t h span c.requires.valid at k.after_start below free in
    c.in_default.ensures.exact
    ∙ (ap (λ (m : Counts). record m { scanned = m.scanned + (span.end - read_to span.start c.loop-found.kept) })
    c.loop-found.invariant.counts
    ∙ counts_are _ _ refl refl (rw count refl) (omega (arith, k.after_start, k.behind, k.within))
    (omega (arith, count)))
