use Rattle.std.proofs.Common.{◌≡◌, ◌∙◌, ◌<◌, IfOk, List, ap, arith, get_or, length, map, subst, sym, ℕ}
use Rattle.std.proofs.lemmas.List.{length-map}
use Rattle.std.proofs.lemmas.List.FromFn.{get_or-range_with_len, length-range_with_len}
use Rattle.std.specs.Global.{Vec}
use Rattle.std.specs.List.{range_with_len}
use Rattle.literal_base.specs.Occurs.{NoneIsEmpty, pattern_at}
use Rattle.literal_rows.specs.Inside.Classes.{symbols_in}
use Rattle.literal_rows.specs.Inside.Shadowed.{chosen_by, texts_by}
use Rattle.literal_rows.specs.Links.{AreLinks}
use Rattle.literal_rows.specs.Patterns.{reversed}
use Rattle.literal_rows.specs.Table.{Recognises}
use Rattle.literal_rows.proofs.lemmas.Built.{same_texts}
use Rattle.literal_rows.proofs.lemmas.Found.{some_symbols}
use Rattle.literal_rows.proofs.lemmas.Reversed.{back_count, map_reversed, some_back}
use Rattle.literal_rows.proofs.lemmas.Shadowed.{all_chosen, texts_chosen}
use Rattle.literal_rows.proofs.shadowed.prefix_links.Goals as goal

-- the texts of reversed copies of all patterns
texts_are : (classes : List ℕ) (lent copies patterns : List (Vec ℕ)) (given numbers : List ℕ) → lent ≡ copies
    → given ≡ numbers → numbers ≡ range_with_len 0 (length patterns)
    → map (λ (pattern : Vec ℕ). pattern.items) copies
    ≡ reversed (map (pattern_at (map (λ (pattern : Vec ℕ). pattern.items) patterns)) given)
    → map (λ (pattern : Vec ℕ). symbols_in classes pattern.items) lent ≡ reversed (texts_by classes patterns)
texts_are classes lent copies patterns given numbers same given_is numbers_are are =
    let items = λ (pattern : Vec ℕ). pattern.items in
    let bytes = map items patterns in
    let count = length-map bytes (symbols_in classes) ∙ length-map patterns items in
    let all : chosen_by (texts_by classes patterns) given ≡ texts_by classes patterns =
    ap (chosen_by (texts_by classes patterns))
    (given_is ∙ (numbers_are ∙ ap (range_with_len 0) (sym count))) ∙ all_chosen (texts_by classes patterns) in
    same_texts classes lent copies same
    ∙ (ap (map (symbols_in classes)) are
    ∙ (map_reversed classes (map (pattern_at bytes) given)
    ∙ ap reversed (texts_chosen classes bytes given ∙ all)))

many_copies : (patterns copies : List (Vec ℕ)) (numbers : List ℕ) → numbers ≡ range_with_len 0 (length patterns)
    → map (λ (pattern : Vec ℕ). pattern.items) copies
    ≡ reversed (map (pattern_at (map (λ (pattern : Vec ℕ). pattern.items) patterns)) numbers)
    → length copies ≡ length patterns
many_copies patterns copies numbers is are =
    let items = λ (pattern : Vec ℕ). pattern.items in
    let bytes = map items patterns in
    sym (length-map copies items)
    ∙ (ap (λ (l : List (List ℕ)). length l) are
    ∙ (back_count (map (pattern_at bytes) numbers)
    ∙ (length-map numbers (pattern_at bytes)
    ∙ (ap (λ (l : List ℕ). length l) is ∙ length-range_with_len 0 (length patterns)))))

pub copies_of-requires : goal.copies_of-requires
copies_of-requires c = λ i below.
    let is = c.deref.ensures.value ∙ c.in_ok-all.ensures in
    let many = length-range_with_len 0 (length c.args.patterns.now) in
    let at = ap (λ (l : List ℕ). get_or l i 0) is in
    let inside : i < length c.args.patterns.now = omega (arith, below, ap (λ (l : List ℕ). length l) is, many) in
    let here : get_or (range_with_len 0 (length c.args.patterns.now)) i 0 ≡ i = grind (arith, get_or-range_with_len) in
    omega (arith, at, here, inside)

pub shorter-requires : goal.shorter-requires
shorter-requires c =
    let classes = c.args.classes.now in
    let patterns = map (λ (pattern : Vec ℕ). pattern.items) c.args.patterns.now in
    let is = texts_are classes.table c.deref-2.result.now c.in_ok-copies.copies.items c.args.patterns.now
    c.deref.result.now
    c.in_ok-all.all.items c.deref-2.ensures.value c.deref.ensures.value c.in_ok-all.ensures c.in_ok-copies.ensures in
    let numbers_is = c.deref.ensures.value ∙ c.in_ok-all.ensures in
    let many = many_copies c.args.patterns.now c.in_ok-copies.copies.items c.deref.result.now numbers_is
    c.in_ok-copies.ensures in
    let lent = ap (λ (l : List (Vec ℕ)). length l) c.deref-2.ensures.value in
    record {
      classes = c.requires.classes;
      recognises = subst (λ (t : List (List ℕ)). Recognises t classes.width c.args.rows.now) (sym is) c.requires.rows;
      some = subst NoneIsEmpty (sym is) (some_back (map (symbols_in classes.table) patterns)
          (some_symbols classes.table patterns c.requires.patterns.some));
      few = omega (
        arith,
        many,
        lent,
        length-map c.args.patterns.now (λ (pattern : Vec ℕ). pattern.items),
        c.requires.patterns.few,
      );
    }

pub returns : goal.returns
returns c =
    let classes = c.args.classes.now in
    let is = texts_are classes.table c.deref-2.result.now c.in_ok-copies.copies.items c.args.patterns.now
    c.deref.result.now
    c.in_ok-all.all.items c.deref-2.ensures.value c.deref.ensures.value c.in_ok-all.ensures c.in_ok-copies.ensures in
    let numbers_is = c.deref.ensures.value ∙ c.in_ok-all.ensures in
    let many = many_copies c.args.patterns.now c.in_ok-copies.copies.items c.deref.result.now numbers_is
    c.in_ok-copies.ensures in
    let lent = ap (λ (l : List (Vec ℕ)). length l) c.deref-2.ensures.value in
    subst (λ n. IfOk c.shorter.result (λ (links : Vec ℕ).
    AreLinks (reversed (texts_by classes.table c.args.patterns.now))
    links.items n)) (lent ∙ many)
    (subst (λ (t : List (List ℕ)). IfOk c.shorter.result (λ (links : Vec ℕ). AreLinks t links.items
    (length c.deref-2.result.now))) is c.shorter.ensures)
