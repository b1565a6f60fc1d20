use Rattle.std.proofs.Common.{◌≡◌, ◌+◌, ◌∙◌, ◌<◌, ◌≤◌, IfSome, Option, Some, List, ℕ, ap, arith, length, subst}
use Rattle.std.proofs.Common.{sym}
use Rattle.std.proofs.lemmas.List.{length-map}
use Rattle.std.specs.Option.{option_map}
use Rattle.literal_base.specs.Occurs.{between}
use Rattle.literal_occurrences.specs.Earliest.{ScansToEndWithin}
use Rattle.literal_occurrences.specs.Inside.Count.{HasCounted}
use Rattle.literal_occurrences.specs.Inside.LentTables.{IsNextEnd, LiesAt, tables_by}
use Rattle.literal_occurrences.specs.Inside.Position.{IsPosition}
use Rattle.literal_occurrences.specs.declared.position.Position.{Position}
use Rattle.literal_occurrences.proofs.lemmas.Count.{counted_none, counted_some, position_after}
use Rattle.literal_occurrences.proofs.prepared_overlapping.LentTables.count_in_one.Goals as goal

pub returns-in_err-here-clause-prepared : goal.returns-in_err-here-clause-prepared
returns-in_err-here-clause-prepared c = λ search are counted. grind (arith, length-map, position_after)

pub returns-in_default-clause-prepared : goal.returns-in_default-clause-prepared
returns-in_default-clause-prepared c = λ search are counted.
    let p = tables_by search c.args.self.now in
    let here = c.loop-end.counted in
    let so_far = c.loop-end.invariant in
    let many = ap (λ (l : List ℕ). length l) are.lengths ∙ length-map search.patterns (λ (bytes : List ℕ). length bytes)
    in
    let standing = subst (λ (s : Position). IsPosition p c.args.haystack.now c.args.span s)
    (sym c.after_end-position.ensures)
    (position_after p are.tables c.args.haystack.now (λ k. omega (arith, c.type_inv.haystack k)) c.args.span
    c.requires.valid here.at here.row (length c.args.self.now.header.lengths.now) so_far.walking.after
    so_far.walking.inside (so_far.counts search are counted).walk many) in
    grind (arith, counted_none)

pub loop-end-preserved : goal.loop-end-preserved
loop-end-preserved c =
    let at = c.loop-end.counted in
    let so_far = c.loop-end.invariant in
    let here = c.in-Some.here in
    let start = c.after_end-position.ensures in
    let at_is : c.after_end-position.result.at ≡ at.at = ap (λ (s : Position). s.at) start in
    let past = subst (λ (answer : Option Position). IfSome answer (λ h. c.after_end-position.result.at < h.at))
    c.in-Some.is (c.in_ok-here.ensures.further (subst (λ (s : Position). s.end ≤ s.next) (sym start) (omega arith))) in
    let moved : at.at < here.at = omega (arith, past, at_is) in
    let lies = subst (λ (answer : Option Position). IfSome answer (LiesAt c.args.span)) c.in-Some.is
    c.in_ok-here.ensures.inside in
    let scans = subst (λ (answer : Option Position). ScansToEndWithin
    (between c.after_end-position.result.at c.args.span.end) (option_map (λ (h : Position). h.at) answer)
    c.loop-end.tally c.next_end.new.tally) c.in-Some.is c.in_ok-here.ensures.bounded in
    record {
      walking = grind arith;
      counts = λ search are counted.
          let p = tables_by search c.args.self.now in
          let many = ap (λ (l : List ℕ). length l) are.lengths
          ∙ length-map search.patterns (λ (bytes : List ℕ). length bytes) in
          let standing = subst (λ (s : Position). IsPosition p c.args.haystack.now c.args.span s)
          (sym c.after_end-position.ensures)
          (position_after p are.tables c.args.haystack.now (λ k. omega (arith, c.type_inv.haystack k)) c.args.span
          c.requires.valid at.at at.row (length c.args.self.now.header.lengths.now) so_far.walking.after
          so_far.walking.inside (so_far.counts search are counted).walk many) in
          subst (λ (n : ℕ). HasCounted p c.args.haystack.now c.args.span
          (record { at = here.at; row = here.row; count = at.count + n })) (sym c.saturating_sub-listed.ensures)
          (counted_some p are.tables c.args.haystack.now (λ k. omega (arith, c.type_inv.haystack k)) c.args.span
          c.requires.valid at (so_far.counts search are counted) so_far.walking.after
          (length c.args.self.now.header.lengths.now) many here
          (subst (λ (s : Position). IsNextEnd p c.args.haystack.now c.args.span s (Some here))
          c.after_end-position.ensures
          (subst (λ (answer : Option Position).
          IsNextEnd p c.args.haystack.now c.args.span c.after_end-position.result answer)
          c.in-Some.is (c.in_ok-here.ensures.prepared search are standing)))
          moved);
      on = omega (arith, so_far.on, moved);
      tallied = grind arith;
      least = omega (arith, so_far.least, scans.least, at_is);
      most = omega (arith, so_far.most, scans.scanned, at_is);
    }
