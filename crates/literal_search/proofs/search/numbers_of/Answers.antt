use Rattle.std.proofs.Common.{Some, ◌≡◌, ◌∙◌, ◌++◌, ℕ, List, [], ap, arith, length, map, refl, subst, sym}
use Rattle.std.proofs.lemmas.Bool.{eqb-true}
use Rattle.std.proofs.lemmas.List.{length-map, nil_from_length}
use Rattle.std.specs.Global.{Vec}
use Rattle.literal_search.specs.Inside.Search.{AreKept}
use Rattle.literal_base.specs.declared.packed.MatchKind.TheVariants.{LeftmostLongest}
use Rattle.literal_rows.specs.Inside.Classes.{symbols_in}
use Rattle.literal_rows.specs.Inside.Arrays.{kind_number, numbers_for}
use Rattle.literal_rows.specs.declared.array.TheConstants.{PREPARED_VERSION}
use Rattle.literal_rows.specs.Links.{AreLinks}
use Rattle.literal_search.specs.SearchValue.{reversed, unshadowed}
use Rattle.literal_search.specs.Prepared.{AreBackTables, BackTables, texts_back}
use Rattle.literal_search.specs.SearchValue.{NeedFewReversed, NeedTooManyReversed, longest_of, search_by}
use Rattle.literal_search.proofs.lemmas.BackTables.{kept_all, links_between, short_by}
use Rattle.literal_rows.proofs.lemmas.Built.{holds_in, passed_on}
use Rattle.literal_search.proofs.lemmas.NoPattern.{none_are_kept, none_need_few_states}
use Rattle.literal_search.proofs.search.numbers_of.Goals as goal

-- the patterns
abbrev bytes_of : List (Vec ℕ) → List (List ℕ)
bytes_of patterns = map (λ (pattern : Vec ℕ). pattern.items) patterns

pub returns-then-is_empty-clause-kept : goal.returns-then-is_empty-clause-kept
returns-then-is_empty-clause-kept c =
    let none = nil_from_length c.args.patterns.now (eqb-true _ _ (sym c.is_empty.ensures ∙ c.if-is_empty.true)) in
    subst (λ (p : List (Vec ℕ)). AreKept (search_by c.args.kind c.args.ignore_case (bytes_of p)) c.for_none.result)
    (sym none) (subst (AreKept (search_by c.args.kind c.args.ignore_case [])) (sym c.for_none.ensures)
    (none_are_kept c.args.kind c.args.ignore_case))

pub returns-then-is_empty-clause-few : goal.returns-then-is_empty-clause-few
returns-then-is_empty-clause-few c =
    let none = nil_from_length c.args.patterns.now (eqb-true _ _ (sym c.is_empty.ensures ∙ c.if-is_empty.true)) in
    subst (λ (p : List (Vec ℕ)). NeedFewReversed c.args.ignore_case (bytes_of p)) (sym none)
    (none_need_few_states c.args.ignore_case)

pub returns-in_err-rows-clause-too_many : goal.returns-in_err-rows-clause-too_many
unfolding NeedTooManyReversed
returns-in_err-rows-clause-too_many c = grind (arith, holds_in, passed_on)

pub assembled-requires-clause-short : goal.assembled-requires-clause-short
assembled-requires-clause-short c =
    let classes = c.classes_for-classes.result in
    short_by classes.table classes.width (bytes_of c.args.patterns.now) c.in_ok-rows.ensures.few

pub returns-clause-kept : goal.returns-clause-kept
returns-clause-kept c =
    let classes = c.classes_for-classes.result in
    let patterns = bytes_of c.args.patterns.now in
    let rows = c.in_ok-rows.rows.items in
    let t : BackTables = record {
      search = search_by c.args.kind c.args.ignore_case patterns;
      classes = classes.table;
      width = classes.width;
      rows = rows;
      longest = longest_of patterns;
    } in
    let are : AreBackTables t = record {
      classes = c.classes_for-classes.ensures.classes;
      tells = c.classes_for-classes.ensures.tells;
      last = c.classes_for-classes.ensures.last;
      recognises = c.in_ok-rows.ensures.rows.recognises;
      longest = refl;
      kept = c.requires;
    } in
    let prints = c.prints_for-prints.result in
    let kind = kind_number (Some c.args.kind) in
    let links = c.in_ok-links.links.items in
    let count = length-map c.args.patterns.now (λ (pattern : Vec ℕ). pattern.items) in
    let lent = c.deref-2.ensures.value in
    let linked : c.args.kind ≡ LeftmostLongest → AreLinks (texts_back t) links (length patterns) =
    λ longest. subst (λ (words : List (List ℕ)). AreLinks words links (length patterns))
    (ap (λ k. reversed (unshadowed k (map (symbols_in classes.table) patterns))) (sym longest))
    (subst (AreLinks (reversed (map (symbols_in classes.table) patterns)) links) (sym count)
    (c.in_ok-links.ensures.links longest)) in
    subst (AreKept t.search) (sym (c.in_ok-numbers.ensures
    ∙ (ap (λ (l : List ℕ). numbers_for PREPARED_VERSION kind classes.table classes.width patterns rows [] (l ++ prints))
    lent ∙ links_between PREPARED_VERSION kind classes.table classes.width patterns rows links prints)))
    (kept_all t are links (c.in_ok-links.ensures.long ∙ sym count) linked prints (omega arith)
    c.prints_for-prints.ensures c.classes_for-classes.ensures.width c.in_ok-rows.ensures.rows.states)
