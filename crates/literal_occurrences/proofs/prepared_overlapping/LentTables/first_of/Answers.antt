use Rattle.std.proofs.Common.{◌+◌, ◌∙◌, arith, ap, get_or, subst, sym}
use Rattle.literal_base.specs.MatchValue.{MatchValue}
use Rattle.literal_occurrences.specs.Inside.LentTables.{IsNextBy, tables_by}
use Rattle.literal_occurrences.proofs.lemmas.LentTables.{length_inside, next_by}
use Rattle.literal_rows.proofs.lemmas.Walk.{got_is}
use Rattle.literal_occurrences.proofs.prepared_overlapping.LentTables.first_of.Goals as goal

pub returns-then-len-eq0-clause-prepared : goal.returns-then-len-eq0-clause-prepared
returns-then-len-eq0-clause-prepared c = λ search are position left.
    let p = c.args.self.now in
    let pattern_is = got_is p.ends.now _ c.get.result c.in_ok-pattern.field-0 c.get.ensures.lookup
    c.in_ok-pattern.ensures.ok_part in
    let len_is = got_is p.header.lengths.now _ c.get-2.result c.in_ok-len.field-0 c.get-2.ensures.lookup
    c.in_ok-len.ensures.ok_part ∙ ap (λ k. get_or p.header.lengths.now k 0) pattern_is in
    let inside = length_inside are c.args.haystack.now (λ k. omega (arith, c.type_inv.haystack k)) c.args.span
    c.requires.valid c.args.here position left in
    grind arith

pub returns-clause-prepared : goal.returns-clause-prepared
returns-clause-prepared c = λ search are position left.
    let p = c.args.self.now in
    let pattern_is = got_is p.ends.now _ c.get.result c.in_ok-pattern.field-0 c.get.ensures.lookup
    c.in_ok-pattern.ensures.ok_part in
    let len_is = got_is p.header.lengths.now _ c.get-2.result c.in_ok-len.field-0 c.get-2.ensures.lookup
    c.in_ok-len.ensures.ok_part in
    subst (λ (m : MatchValue). IsNextBy (tables_by search p) c.args.haystack.now c.args.span c.args.here m
    (record {
      at = c.args.here.at;
      row = c.args.here.row;
      pattern = c.in_ok-pattern.field-0.now + 1;
      next = c.args.here.next + 1;
      end = c.args.here.end;
    }))
    (sym c.must.ensures)
    (next_by are c.args.haystack.now (λ k. omega (arith, c.type_inv.haystack k)) c.args.span c.requires.valid
    c.args.here position left _ _ pattern_is len_is)
