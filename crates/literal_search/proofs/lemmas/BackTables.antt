-- The tables of a search from the right, in a `Search` and in an array that is lent.
use Rattle.std.proofs.Common.{◌≡◌, ◌∙◌, ◌+◌, ◌≤◌, ◌^◌, ℕ, List, [], ◌++◌, ap, append-nil, append_assoc, arith, length}
use Rattle.std.proofs.Common.{Some, refl, subst, sym, ◌*◌, ◌∷◌, get_or}
use Rattle.std.proofs.Common.{inl, inr, map}
use Rattle.std.proofs.lemmas.Bool.{cases_lt}
use Rattle.std.proofs.lemmas.List.{get_or_default, length-map}
use Rattle.literal_base.specs.Occurs.{pattern_at}
use Rattle.literal_rows.specs.Inside.Classes.{symbols_in}
use Rattle.literal_search.specs.Inside.Search.{AreKept}
use Rattle.literal_rows.specs.Inside.Arrays.{kind_number, numbers_for}
use Rattle.literal_search.specs.SearchValue.{reversed, width_for, SearchValue}
use Rattle.literal_search.specs.Prepared.{AreShort, classes_end, rows_at, rows_end, rows_in, AreBackTables, BackTables}
use Rattle.literal_base.specs.declared.packed.MatchKind.{MatchKind}
use Rattle.literal_base.specs.declared.packed.MatchKind.TheVariants.{LeftmostFirst, LeftmostLongest}
use Rattle.literal_rows.specs.Links.{AreLinks}
use Rattle.literal_search.specs.Prepared.{back_tables_in, kind_in, links_end, links_in}
use Rattle.literal_search.specs.Prepared.{IsPrepared, ArePrints, TakesPlaces, prepared_len, prints_in, texts_back}
use Rattle.literal_rows.specs.Table.{stride_of}
use Rattle.literal_rows.specs.States.{HasTooManyStates, IsRowsLength}
use Rattle.literal_rows.specs.declared.array.TheConstants.{SCAN_LEN, PREPARED_VERSION}
use Rattle.literal_leftmost.proofs.lemmas.BackTables.{same_tables}
use Rattle.literal_rows.proofs.lemmas.Numbers.{check_written, classes_written, ends_written, lengths_written}
use Rattle.literal_rows.proofs.lemmas.Numbers.{starts_written}
use Rattle.literal_rows.proofs.lemmas.Numbers.{numbers_long, rows_written}
use Rattle.literal_rows.proofs.lemmas.Reversed.{back_count, back_long}
use Rattle.literal_rows.proofs.lemmas.Found.{symbols_length}
use Rattle.literal_rows.proofs.lemmas.Arrays.{length_part}
use Rattle.literal_rows.proofs.lemmas.States.{too_many_prefixes}
use Rattle.literal_rows.proofs.lemmas.Walk.{at_start, row_at}

-- the links between the classes and the scan
pub links_between : (version kind : ℕ) (classes : List ℕ) (width : ℕ) (patterns : List (List ℕ))
    (rows links prints : List ℕ)
    → numbers_for version kind classes width patterns rows [] (links ++ prints)
    ≡ numbers_for version kind classes width patterns rows links prints
links_between version kind classes width patterns rows links prints = grind (arith, append-nil, append_assoc)

-- the number for the match kind tells it
kind_told : (kind : MatchKind) → kind_in (0 ∷ 0 ∷ 0 ∷ 0 ∷ 0 ∷ 0 ∷ kind_number (Some kind) ∷ []) ≡ kind
kind_told LeftmostFirst = refl
kind_told LeftmostLongest = refl

-- what is written for tables is prepared for their search, with a scan for candidates
module _ (t : BackTables) (are : AreBackTables t) (links : List ℕ)
    (many : length links ≡ length t.search.query.patterns)
    (linked : t.search.query.kind ≡ LeftmostLongest
    → AreLinks (texts_back t) links (length t.search.query.patterns)) (prints : List ℕ)
    (long : length prints ≡ SCAN_LEN) (pass : ArePrints t.search.query.patterns t.search.ignore_case prints)
  where
    abbrev kind : ℕ
    kind = kind_number (Some t.search.query.kind)

    abbrev pub all_of : List ℕ
    all_of = numbers_for PREPARED_VERSION kind t.classes t.width t.search.query.patterns t.rows links prints

    size : length all_of ≡ 7 + length t.search.query.patterns + length t.rows + 256 + length links + length prints
    size =
        omega (arith, numbers_long PREPARED_VERSION kind t.classes t.width t.search.query.patterns t.rows links prints)

    links_are : links_in all_of ≡ links
    links_are =
        let to : links_end all_of ≡ classes_end all_of + length links = omega (arith, many) in
        grind (arith, starts_written)

    prints_are : prints_in all_of ≡ prints
    prints_are =
        let from : links_end all_of ≡ classes_end all_of + length links = omega (arith, many) in
        let to : prepared_len all_of ≡ classes_end all_of + length links + length prints = omega (arith, many, long) in
        grind (arith, ends_written)

    tables_are : back_tables_in t.search all_of ≡ t
    tables_are = grind (arith, classes_written, rows_written, same_tables)

    pub prepared_all : IsPrepared t.search all_of
    prepared_all =
        let classes = classes_written PREPARED_VERSION kind t.classes t.width t.search.query.patterns t.rows links
        prints are.classes in
        let first = row_at (texts_back t) t.width t.rows are.recognises [] 0
        (at_start (texts_back t) t.width t.rows are.recognises) in
        record {
          whole = record {
            parts = grind (arith, many, size);
            check = check_written PREPARED_VERSION kind t.classes t.width t.search.query.patterns t.rows links prints
                (prepared_len all_of) (omega (arith, size, many, long));
          };
          kind = kind_told t.search.query.kind;
          tables = grind (arith, rows_written, same_tables);
          lengths = lengths_written PREPARED_VERSION kind t.classes t.width t.search.query.patterns t.rows links prints;
          links = λ longest.
              subst (λ (u : BackTables). AreLinks (texts_back u) (links_in all_of) (length t.search.query.patterns))
              (sym tables_are)
              (subst (λ (l : List ℕ). AreLinks (texts_back t) l (length t.search.query.patterns)) (sym links_are)
              (linked longest));
          prints = subst (ArePrints t.search.query.patterns t.search.ignore_case) (sym prints_are) pass;
        }

    -- they are what a `Search` keeps
    pub kept_all : t.width ≡ width_for t.search.ignore_case t.search.query.patterns
        → IsRowsLength (texts_back t) t.width (length t.rows) → AreKept t.search all_of
    kept_all width rows = grind (arith, classes_written, prepared_all, rows_written, size)

module _ {search : SearchValue} {numbers : List ℕ} (kept : AreKept search numbers) where
  -- so many numbers these are
  pub kept_long : length numbers ≡ 7 + length search.query.patterns + length (rows_in numbers) + 256
      + length search.query.patterns + SCAN_LEN
  kept_long =
      let fits = kept.prepared.whole.parts.fits in
      let rows_len = length_part numbers (rows_at numbers) (rows_end numbers) (omega arith) (omega arith) in
      let lengths = length_part numbers 7 (rows_at numbers) (omega arith) (omega arith) in
      let many = ap (λ (l : List ℕ). length l) kept.prepared.lengths
      ∙ length-map search.query.patterns (λ (bytes : List ℕ). length bytes) in
      omega (arith, kept.long, rows_len, lengths, many)

  -- and so many entries are enough for them
  pub takes_kept : TakesPlaces search (length numbers)
  unfolding TakesPlaces
  takes_kept = grind (arith, kept_long)

-- patterns are short whose texts, or others as long, have few states
short_texts : (patterns texts : List (List ℕ)) (width : ℕ) → length texts ≡ length patterns
    → ((i : ℕ) → length (pattern_at texts i) ≡ length (pattern_at patterns i)) → ¬ HasTooManyStates texts width
    → AreShort patterns
short_texts patterns texts width count long few i d below =
    let read = ap (λ (l : List ℕ). length l) (get_or_default patterns i d [] below) in
    elim (cases_lt (length (get_or patterns i [])) (2 ^ 32)) [
      | inl small ↦ omega (arith, small, read)
      | inr large ↦
          let n = length (pattern_at texts i) + 1 in
          let most : n ≤ n * stride_of width = grind arith in
          absurd (few (too_many_prefixes texts i (omega (arith, count, below))
          width (omega (arith, large, long i, most))))
    ]

pub short_by : (classes : List ℕ) (width : ℕ) (patterns : List (List ℕ))
    → ¬ HasTooManyStates (reversed (map (symbols_in classes) patterns)) width → AreShort patterns
short_by classes width patterns =
    short_texts patterns (reversed (map (symbols_in classes) patterns)) width
    (back_count (map (symbols_in classes) patterns) ∙ length-map patterns (symbols_in classes))
    (λ i. back_long (map (symbols_in classes) patterns) i ∙ symbols_length classes patterns i)

pub short_forward : (classes : List ℕ) (width : ℕ) (patterns : List (List ℕ))
    → ¬ HasTooManyStates (map (symbols_in classes) patterns) width → AreShort patterns
short_forward classes width patterns =
    short_texts patterns (map (symbols_in classes) patterns) width (length-map patterns (symbols_in classes))
    (symbols_length classes patterns)
