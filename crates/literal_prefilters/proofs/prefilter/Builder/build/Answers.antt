use Rattle.std.proofs.Common.{◌≡◌, ◌∙◌, Some, None, true, false, sym, ap, subst}
use Rattle.std.specs.Option.{option_copied}
use Rattle.literal_base.specs.Occurs.{pattern_at}
use Rattle.literal_prefilters.proofs.lemmas.Choice.{IsByTables, covers_one, kept_of_list, tables_of, pick_short}
use Rattle.literal_prefilters.proofs.lemmas.Choice.{pick_start, pick_last}
use Rattle.literal_prefilters.proofs.prefilter.Builder.build.Goals as goal

pub packed-requires-clause-picked : goal.packed-requires-clause-picked
packed-requires-clause-picked c =
    let start = c.start_table-start.result in
    let rare = c.rare_table-rare.result in
    pick_short c.args.self.now start rare (tables_of c.args.self.now c.is_empty.result c.is_one_pattern.result
    c.is_short_list.result true
    start (option_copied c.as_ref.result) rare (option_copied c.as_ref-2.result) c.is_empty.ensures c.if-is_empty.false
    c.is_one_pattern.ensures c.if-is_one_pattern.false c.start_table-start.ensures.table c.rare_table-rare.ensures.table
    c.as_ref.ensures.value c.as_ref-2.ensures.value c.is_short_list.ensures c.if-is_short_list.true)

pub packed-requires-in-None-None-clause-picked : goal.packed-requires-in-None-None-clause-picked
packed-requires-in-None-None-clause-picked c =
    let start = c.start_table-start.result in
    let rare = c.rare_table-rare.result in
    let at = tables_of c.args.self.now c.is_empty.result c.is_one_pattern.result c.is_short_list.result false
    start (option_copied c.as_ref.result) rare (option_copied c.as_ref-2.result) c.is_empty.ensures c.if-is_empty.false
    c.is_one_pattern.ensures c.if-is_one_pattern.false c.start_table-start.ensures.table c.rare_table-rare.ensures.table
    c.as_ref.ensures.value c.as_ref-2.ensures.value c.is_short_list.ensures c.if-is_short_list.false in
    pick_last c.args.self.now (subst (λ s. IsByTables c.args.self.now s None false) c.in-None-None.is-0
    (subst (λ r. IsByTables c.args.self.now start r false) c.in-None-None.is-1 at))
    (sym c.is_last_resort.ensures ∙ c.if-is_last_resort.true)

pub returns-in-Some-None-clause-pick : goal.returns-in-Some-None-clause-pick
returns-in-Some-None-clause-pick c =
    let start = c.start_table-start.result in
    let rare = c.rare_table-rare.result in
    let at = tables_of c.args.self.now c.is_empty.result c.is_one_pattern.result c.is_short_list.result false
    start (option_copied c.as_ref.result) rare (option_copied c.as_ref-2.result) c.is_empty.ensures c.if-is_empty.false
    c.is_one_pattern.ensures c.if-is_one_pattern.false c.start_table-start.ensures.table c.rare_table-rare.ensures.table
    c.as_ref.ensures.value c.as_ref-2.ensures.value c.is_short_list.ensures c.if-is_short_list.false in
    ap Some c.start.ensures ∙ sym (pick_start c.args.self.now c.in-Some-None.start
    (subst (λ s. IsByTables c.args.self.now s None false) c.in-Some-None.is-0
    (subst (λ r. IsByTables c.args.self.now start r false) c.in-Some-None.is-1 at)))

pub returns-then-is_one_pattern-clause-covers : goal.returns-then-is_one_pattern-clause-covers
returns-then-is_one_pattern-clause-covers c kind serves =
    let both = sym c.in-Some.is ∙ c.in_ok-memmem.ensures in
    let is : c.in-Some.memmem ≡ pattern_at c.self.inside.patterns.patterns 0 = cc in
    covers_one c.args.self.now kind c.in-Some.memmem (sym c.is_one_pattern.ensures ∙ c.if-is_one_pattern.true)
    (is ∙ ap (λ ps. pattern_at ps 0) (sym (kept_of_list c.self.inside c.args.self.now c.self.invariant c.self.view_is)))
