use Rattle.std.proofs.Common.{◌∙◌, ℕ, List, [], arith, map, refl, subst, sym}
use Rattle.std.proofs.lemmas.Bool.{eqb-true}
use Rattle.std.proofs.lemmas.List.{length-map, nil_from_length}
use Rattle.std.specs.Global.{Vec}
use Rattle.literal_occurrences.specs.Inside.LentTables.{AreListed}
use Rattle.literal_search.specs.PreparedOverlapping.{AreTables, Tables, overlapping_value}
use Rattle.literal_search.specs.SearchValue.{NeedFewStates, NeedTooManyStates}
use Rattle.literal_rows.specs.States.{HasTooManyStates}
use Rattle.literal_search.proofs.lemmas.BackTables.{short_forward}
use Rattle.literal_rows.proofs.lemmas.Built.{holds_in, passed_on, same_texts}
use Rattle.literal_rows.proofs.lemmas.Found.{some_symbols}
use Rattle.literal_occurrences.proofs.lemmas.LentTables.{listed_all}
use Rattle.literal_search.proofs.lemmas.NoPattern.{none_are_listed, none_need_few_states}
use Rattle.literal_search.proofs.overlapping.numbers_of.Goals as goal

-- the patterns
abbrev bytes_of : List (Vec ℕ) → List (List ℕ)
bytes_of patterns = map (λ (pattern : Vec ℕ). pattern.items) patterns

pub returns-then-is_empty-clause-kept : goal.returns-then-is_empty-clause-kept
returns-then-is_empty-clause-kept c =
    let none = nil_from_length c.args.patterns.now (eqb-true _ _ (sym c.is_empty.ensures ∙ c.if-is_empty.true)) in
    subst (λ (p : List (Vec ℕ)). AreListed (record { patterns = bytes_of p; ignore_case = c.args.ignore_case })
    c.for_none.result) (sym none)
    (subst (AreListed (record { patterns = []; ignore_case = c.args.ignore_case })) (sym c.for_none.ensures)
    (none_are_listed c.args.ignore_case))

pub returns-then-is_empty-clause-few : goal.returns-then-is_empty-clause-few
returns-then-is_empty-clause-few c =
    let none = nil_from_length c.args.patterns.now (eqb-true _ _ (sym c.is_empty.ensures ∙ c.if-is_empty.true)) in
    subst (λ (p : List (Vec ℕ)). NeedFewStates c.args.ignore_case (bytes_of p)) (sym none)
    (none_need_few_states c.args.ignore_case)

pub returns-in_err-rows-clause-too_many : goal.returns-in_err-rows-clause-too_many
unfolding NeedTooManyStates
returns-in_err-rows-clause-too_many c =
    let classes = c.classes_for-classes.result in
    let patterns = c.args.patterns.now in
    passed_on (NeedTooManyStates c.args.ignore_case (bytes_of patterns)) c.in_err-rows.field-0.0
    (λ is. holds_in HasTooManyStates c.args.ignore_case classes.table classes.width (bytes_of patterns)
    c.classes_for-classes.ensures.classes c.classes_for-classes.ensures.tells c.classes_for-classes.ensures.width
    (subst (λ (texts : List (List ℕ)). HasTooManyStates texts classes.width)
    (same_texts classes.table patterns patterns refl) (c.in_err-rows.ensures.too_many is)))
    c.from_residual.result c.from_residual.ensures.1

pub lists-requires : goal.lists-requires
lists-requires c =
    let classes = c.classes_for-classes.result in
    let patterns = c.args.patterns.now in
    let texts = same_texts classes.table patterns patterns refl in
    grind (arith, some_symbols, length-map)

pub assembled-requires-clause-short : goal.assembled-requires-clause-short
assembled-requires-clause-short c =
    let classes = c.classes_for-classes.result in
    let patterns = c.args.patterns.now in
    short_forward classes.table classes.width (bytes_of patterns)
    (subst (λ (t : List (List ℕ)). ¬ HasTooManyStates t classes.width) (same_texts classes.table patterns patterns refl)
    c.in_ok-rows.ensures.few)

pub returns-clause-kept : goal.returns-clause-kept
returns-clause-kept c =
    let classes = c.classes_for-classes.result in
    let patterns = c.args.patterns.now in
    let texts = same_texts classes.table patterns patterns refl in
    let ends = c.in_ok-lists.lists.ends.items in
    let starts = c.in_ok-lists.lists.starts.items in
    let rows = c.in_ok-rows.rows.items in
    let t : Tables = record {
      patterns = bytes_of patterns;
      ignore_case = c.args.ignore_case;
      classes = classes.table;
      width = classes.width;
      rows = rows;
      ends = ends;
      starts = starts;
    } in
    let are : AreTables t = grind (arith, length-map) in
    let prints = c.prints_for-prints.result in
    let is = c.in_ok-numbers.ensures
    ∙ (grind arith) in
    subst (AreListed (overlapping_value t)) (sym is) (listed_all t are prints (omega arith) c.prints_for-prints.ensures
    (grind arith))

pub returns-clause-few : goal.returns-clause-few
returns-clause-few c =
    let classes = c.classes_for-classes.result in
    let patterns = c.args.patterns.now in
    holds_in (λ texts width. ¬ HasTooManyStates texts width) c.args.ignore_case classes.table classes.width
    (bytes_of patterns) c.classes_for-classes.ensures.classes c.classes_for-classes.ensures.tells
    c.classes_for-classes.ensures.width
    (subst (λ (texts : List (List ℕ)). ¬ HasTooManyStates texts classes.width)
    (same_texts classes.table patterns patterns refl) c.in_ok-rows.ensures.few)
