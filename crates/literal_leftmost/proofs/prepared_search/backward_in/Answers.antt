use Rattle.std.proofs.Common.{◌≡◌, ◌+◌, ◌≤◌, ◌≢◌, ◌∙◌, ℕ, List, ap, arith, get_or, length, subst, sym}
use Rattle.std.specs.List.{slice_range}
use Rattle.literal_rows.specs.Inside.Packed.{unpacked}
use Rattle.literal_rows.specs.Inside.Arrays.{IsHeader}
use Rattle.literal_leftmost.specs.Prepared.{HasParts, classes_end, classes_in, lengths_in, longest_in, rows_in}
use Rattle.literal_leftmost.specs.Prepared.{width_in}
use Rattle.literal_leftmost.specs.Prepared.{AreBackTables, ArePrints, BackTables, HasAllParts, prints_in}
use Rattle.literal_leftmost.specs.Prepared.{back_tables_in, links_end, links_in, texts_back}
use Rattle.literal_rows.specs.Links.{AreLinks}
use Rattle.literal_leftmost.specs.SearchValue.{SearchValue}
use Rattle.literal_rows.specs.declared.array.Header.{Header}
use Rattle.literal_rows.specs.declared.array.TheConstants.{PREPARED_VERSION}
use Rattle.literal_leftmost.proofs.lemmas.BackTables.{same_tables}
use Rattle.literal_rows.proofs.lemmas.Arrays.{parts_end}
use Rattle.literal_rows.proofs.lemmas.Arrays.{classes_long, length_part, rows_are}
use Rattle.literal_leftmost.proofs.prepared_search.backward_in.Goals as goal

-- where the classes end, by the parts
abbrev end : Header → ℕ
end f = 7 + length f.lengths.now + length f.rows.now

module _ (f : Header) (numbers : List ℕ) (same : f.numbers.now ≡ numbers) (header : IsHeader PREPARED_VERSION f) where
  known : (end f ≡ classes_end numbers) × (length f.lengths.now ≡ get_or numbers 3 0)
  known = parts_end f numbers same header

  has_parts : HasParts PREPARED_VERSION numbers → end f + length f.lengths.now + 40 ≤ length numbers
      → length f.rows.now ≢ 256 → HasAllParts f.numbers.now
  has_parts parts long some = grind (arith, known, parts_end)

  links_last : end f + length f.lengths.now ≡ links_end numbers
  links_last = omega (arith, known.0, known.1)

  links_are : slice_range numbers (end f) (end f + length f.lengths.now) ≡ links_in numbers
  links_are = ap (λ k. slice_range numbers k (k + length f.lengths.now)) known.0
      ∙ ap (λ n. slice_range numbers (classes_end numbers) (classes_end numbers + n)) known.1

  prints_are : slice_range numbers (end f + length f.lengths.now) (end f + length f.lengths.now + 40)
      ≡ prints_in numbers
  prints_are = ap (λ k. slice_range numbers k (k + 40)) links_last

pub returns : goal.returns
returns c =
    let f = c.in_ok-header.header in
    let numbers = c.args.numbers.now in
    let told = c.in_ok-header.ensures in
    let header = told.2 in
    let known = parts_end f numbers told.0 header in
    let parts = subst HasAllParts told.0
    (has_parts f numbers told.0 header told.1 c.if-is_short.false c.if-header-eq-CLASSES_LEN.false) in
    let links_is = links_are f numbers told.0 header in
    let prints_is = prints_are f numbers told.0 header in
    let tables = λ (search : SearchValue). same_tables search _ (classes_in numbers) _ (width_in numbers) _
    (rows_in numbers) _ (longest_in numbers)
    (ap unpacked header.classes_are ∙ ap classes_in told.0) (header.width_is ∙ ap width_in told.0)
    (rows_are header ∙ ap rows_in told.0) (header.longest_is ∙ ap longest_in told.0) in
    record {
      parts = parts;
      safe = grind (arith, classes_long, known, length_part);
      is_for = λ search is. record {
        tables = subst (λ (t : BackTables). AreBackTables t) (sym (tables search)) is.tables;
        lens = header.lengths_are ∙ (ap lengths_in told.0 ∙ is.lengths);
        links = λ longest.
            subst (λ (t : BackTables). AreLinks (texts_back t)
            (slice_range numbers (end f) (end f + length f.lengths.now)) (length search.query.patterns))
            (sym (tables search))
            (subst (λ (l : List ℕ). AreLinks (texts_back (back_tables_in search numbers)) l
            (length search.query.patterns)) (sym links_is) (is.links longest));
        prints = subst (ArePrints search.query.patterns search.ignore_case) (sym prints_is) is.prints;
      };
      tables = tables;
      longest = header.longest_is ∙ ap longest_in told.0;
      patterns = known.1;
      end = omega (arith, known.0, known.1);
    }
