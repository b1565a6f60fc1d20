-- Searches for everything that occurs by an array that is lent.
use Rattle.std.proofs.Common.{◌≡◌, ℕ, ◌+◌, ◌++◌, ◌-◌, ◌<◌, ◌≤◌, List, [], drop, length, get_or, take, ◌^◌, IfOk, IfSome}
use Rattle.std.proofs.Common.{MatchOption, None, Result, Some, refl, sym, ap, subst, ◌∙◌, Option, append-nil}
use Rattle.std.proofs.Common.{append_assoc, arith, length-append}
use Rattle.std.proofs.lemmas.List.{get_or-drop, get_or-map, get_or-take, length-drop, length-map, length-take-le}
use Rattle.std.proofs.lemmas.List.{take-append-drop, take_all}
use Rattle.std.specs.Result.{IsOkAnd}
use Rattle.literal_base.specs.MatchValue.{MatchValue}
use Rattle.literal_base.specs.Occurs.{IsValidSpan, between, pattern_at}
use Rattle.literal_base.specs.declared.search.Span.{Span}
use Rattle.literal_fingerprints.specs.CandidateScans.{IsScanFor}
use Rattle.literal_occurrences.specs.Inside.LentTables.{AreListed}
use Rattle.literal_rows.specs.Inside.Packed.{unpacked}
use Rattle.literal_occurrences.specs.Inside.LentTables.{AreFor, AreLent, IsNextBy, IsNextEnd, tables_by}
use Rattle.literal_rows.specs.Inside.Arrays.{header_table, numbers_for}
use Rattle.literal_rows.specs.Inside.Rows.{rows_of}
use Rattle.literal_occurrences.specs.Inside.Scan.{IsTableFor}
use Rattle.literal_occurrences.specs.Inside.Position.{IsPosition, longest_at, position_at}
use Rattle.literal_occurrences.specs.Inside.NextEnd.{FindsNext, IsNextWalkEnd, IsWalkAt}
use Rattle.literal_rows.specs.Inside.Walk.{classes_by, rows_by}
use Rattle.literal_occurrences.specs.Overlapping.{OverlappingValue}
use Rattle.literal_occurrences.specs.PreparedOverlapping.{AreSized, AreTables, IsPreparedOverlapping, Tables, tables_in}
use Rattle.literal_occurrences.specs.PreparedOverlapping.{TakesListedPlaces, ends_at, ends_in, overlapping_value}
use Rattle.literal_occurrences.specs.PreparedOverlapping.{listed_len}
use Rattle.literal_occurrences.specs.PreparedOverlapping.{overlapping_len, prints_after, starts_in}
use Rattle.literal_leftmost.specs.Prepared.{ArePrints, classes_end, scan_by, past_skipped}
use Rattle.literal_rows.specs.declared.damaged.Damaged.{Damaged}
use Rattle.literal_rows.specs.declared.array.TheConstants.{SCAN_LEN, OVERLAPPING_VERSION}
use Rattle.literal_occurrences.specs.declared.prepared_overlapping.LentTables.{LentTables}
use Rattle.literal_occurrences.specs.declared.position.Position.{Position}
use Rattle.literal_rows.specs.declared.walk.WalkEnd.{WalkEnd}
use Rattle.literal_rows.specs.declared.walk.Table.{Table}
use Rattle.literal_rows.proofs.lemmas.Numbers.{check_written, classes_written, ends_written, lengths_written}
use Rattle.literal_rows.proofs.lemmas.Numbers.{numbers_long, rows_written, part_at, starts_written}
use Rattle.literal_rows.proofs.lemmas.Arrays.{parts_end, length_part, rows_are}
use Rattle.literal_occurrences.proofs.lemmas.Scan.{also_ok}
use Rattle.literal_occurrences.proofs.lemmas.Position.{is_pattern, longest_below, next_is, none_to_come}
use Rattle.literal_occurrences.proofs.lemmas.Position.{nothing_to_come}
use Rattle.literal_occurrences.proofs.lemmas.Position.{row_inside, same_to_come, some_left, stands_next, stands_there}

-- tables of a search whose parts are equal
pub same_tables : (search : OverlappingValue) (classes classes' : List ℕ) (width width' : ℕ)
    (rows rows' ends ends' starts starts' : List ℕ) → classes ≡ classes' → width ≡ width' → rows ≡ rows'
    → ends ≡ ends' → starts ≡ starts' → (let t : Tables = record {
      patterns = search.patterns;
      ignore_case = search.ignore_case;
      classes = classes;
      width = width;
      rows = rows;
      ends = ends;
      starts = starts;
    } in t) ≡ record {
      patterns = search.patterns;
      ignore_case = search.ignore_case;
      classes = classes';
      width = width';
      rows = rows';
      ends = ends';
      starts = starts';
    }
same_tables search classes classes' width width' rows rows' ends ends' starts starts' a b c d e = cc

-- the parts of an array that is prepared for a search are for it
pub are_for : (p : LentTables) → AreLent p → (search : OverlappingValue)
    → IsPreparedOverlapping search p.header.numbers.now → AreFor search p
are_for p lent search prepared = record {
  tables = subst AreTables (same_tables search _ (unpacked p.header.classes.now) _ p.header.width _
      (rows_of p.header.rows.now) _ p.ends.now _ p.starts.now
      (ap unpacked (sym lent.header.classes_are)) (sym lent.header.width_is) (sym (rows_are lent.header))
      (sym lent.ends_are) (sym lent.starts_are)) prepared.tables;
  lengths = lent.header.lengths_are ∙ prepared.lengths;
  longest = lent.header.longest_is ∙ prepared.longest;
  prints = subst (ArePrints search.patterns search.ignore_case) (sym lent.prints_are) prepared.prints;
}

-- so they are those by which a walk goes for it
pub lent_table : (p : LentTables) (search : OverlappingValue) → AreFor search p
    → IsTableFor (header_table p.header) search.patterns search.ignore_case
lent_table p search are = grind arith

-- there are as many lengths as the fourth number says
pub lengths_many : {p : LentTables} → AreLent p → length p.header.lengths.now ≡ get_or p.header.numbers.now 3 0
lengths_many {p} lent = (parts_end p.header p.header.numbers.now refl lent.header).1

-- where a walk finds the next end, if there is one: its row and list lie in the tables
abbrev pub IsFoundThere : Tables → List ℕ → Span → Position → Option WalkEnd → Type 0
IsFoundThere t haystack span s answer = MatchOption answer (IsNextEnd t haystack span s None)
    (λ stop. (stop.row + t.width < length t.rows) × (longest_at t stop + 1 < length t.starts)
    × IsNextEnd t haystack span s (Some (position_at t stop)))

-- where a search by the parts stands
module _ {search : OverlappingValue} {p : LentTables} (are : AreFor search p) (haystack : List ℕ)
    (bytes : (i : ℕ) → get_or haystack i 0 < 256) (span : Span) (valid : IsValidSpan haystack span) (s : Position)
    (position : IsPosition (tables_by search p) haystack span s)
  where
    abbrev t : Tables
    t = tables_by search p

    -- at the end of the span there is none
    pub next_none : s.end ≤ s.next → s.at ≡ span.end → IsNextEnd t haystack span s None
    next_none empty last = record {
      stands = tt;
      more = tt;
      to_come = nothing_to_come t are.tables haystack bytes span valid s position empty last;
    }

    -- what a walk by it finds from there on: where it finds no end, there is none, and else the next end is where the
    -- walk stops, whose row and list lie in the array
    pub found_there : s.end ≤ s.next → s.at < span.end → (table : Table)
        → IsTableFor table search.patterns search.ignore_case → classes_by table ≡ t.classes
        → table.width ≡ t.width → rows_by table ≡ t.rows → (result : Result (Option WalkEnd) Damaged)
        → FindsNext table p.prints.now haystack s.row (between s.at span.end) result
        → IfOk result (λ answer. IfSome answer
        (λ stop. (s.at < stop.end) × (stop.end ≤ span.end) × (stop.row < 2 ^ 32)))
        → IsOkAnd result (IsFoundThere t haystack span s)
    found_there empty more table is classes width rows result finds inside =
        let Finds : List ℕ → ℕ → List ℕ → Type 0 = λ c w r.
        IsWalkAt search.patterns search.ignore_case c w r haystack span s.at (record { row = s.row; end = s.at })
        → IsOkAnd result (IsNextWalkEnd search.patterns search.ignore_case c w r haystack span s.at) in
        also_ok result (IsNextWalkEnd search.patterns search.ignore_case t.classes t.width t.rows haystack span s.at) _
        (IsFoundThere t haystack span s) there
        (subst (λ r. Finds t.classes t.width r) rows
        (subst (λ w. Finds t.classes w (rows_by table)) width
        (subst (λ c. Finds c table.width (rows_by table)) classes
        (finds search.patterns search.ignore_case is are.prints span.start))) (position.stands more)) inside
      where
        there : (answer : Option WalkEnd)
            → IsNextWalkEnd search.patterns search.ignore_case t.classes t.width t.rows haystack span s.at answer
            → IfSome answer (λ stop. (s.at < stop.end) × (stop.end ≤ span.end) × (stop.row < 2 ^ 32))
            → IsFoundThere t haystack span s answer
        there None none inside = record {
          stands = tt;
          more = tt;
          to_come = none_to_come t are.tables haystack bytes span valid s position none empty;
        }
        there (Some stop) next (after, upto, small) =
            let below = longest_below t are.tables haystack bytes span valid s position stop next after upto in
            let long = are.tables.lists.long in (
              row_inside t are.tables haystack bytes span valid s position stop next after upto,
              omega (arith, below, long),
              record {
                stands = stands_there t are.tables haystack bytes span valid s position stop next after upto;
                more = some_left t are.tables haystack bytes span valid s position stop next after upto;
                to_come = same_to_come t are.tables haystack bytes span valid s position stop next after upto empty;
              },
            )

    -- where the list has more
    module _ (left : s.next < s.end) where
      abbrev pattern : ℕ
      pattern = get_or p.ends.now s.next 0

      below : pattern < length search.patterns
      below = is_pattern t are.tables haystack bytes span valid s position left

      length_is : get_or p.header.lengths.now pattern 0 ≡ length (pattern_at search.patterns pattern)
      length_is = grind (arith, below, get_or-map)

      -- which is some, and lies in the span
      pub length_inside : (0 < get_or p.header.lengths.now pattern 0)
          × (span.start + get_or p.header.lengths.now pattern 0 ≤ s.at)
      length_inside =
          let next = next_is t are.tables haystack bytes span valid s position left in
          let some = are.tables.kept.some pattern [] below in
          let whole = next.to_come.occurrence.whole in
          let start = next.to_come.occurrence.occurs.after_start in
          (omega (arith, length_is, some), omega (arith, length_is, whole, start))

      pub next_by : (i len : ℕ) → i ≡ pattern → len ≡ get_or p.header.lengths.now i 0
          → IsNextBy t haystack span s (record { pattern = i; start = s.at - len; end = s.at })
          (record { at = s.at; row = s.row; pattern = i + 1; next = s.next + 1; end = s.end })
      next_by i len i_is len_is =
          let behind = λ (k : ℕ). let b : Position = record {
            at = s.at;
            row = s.row;
            pattern = k + 1;
            next = s.next + 1;
            end = s.end;
          } in b in
          let found = λ (k n : ℕ). let m : MatchValue = record { pattern = k; start = s.at - n; end = s.at } in m in
          let len_there : len ≡ length (pattern_at search.patterns pattern) = grind (arith, length_is) in
          subst (λ k. IsNextBy t haystack span s (found k len) (behind k)) (sym i_is)
          (subst (λ n. IsNextBy t haystack span s (found pattern n) (behind pattern)) (sym len_there) (record {
            stands = stands_next t are.tables haystack bytes span valid s position left;
            next = next_is t are.tables haystack bytes span valid s position left;
            goes_on = refl;
          }))

-- what is written of tables is prepared for their search
module _ (t : Tables) (tables : AreTables t) (prints : List ℕ) (prints_long : length prints ≡ SCAN_LEN)
    (pass : 0 < past_skipped prints → IsScanFor (scan_by prints) t.ignore_case t.patterns)
  where
    abbrev pub all_of : List ℕ
    all_of = numbers_for OVERLAPPING_VERSION 0 t.classes t.width t.patterns t.rows t.starts (t.ends ++ prints)

    long : length t.starts ≡ length t.patterns + 1
    long = tables.lists.long

    size : length all_of ≡ 7 + length t.patterns + length t.rows + 256 + length t.starts + length (t.ends ++ prints)
    size = numbers_long OVERLAPPING_VERSION 0 t.classes t.width t.patterns t.rows t.starts (t.ends ++ prints)

    ends_at_is : ends_at all_of ≡ classes_end all_of + length t.starts
    ends_at_is = omega (arith, long)

    starts_are : starts_in all_of ≡ t.starts
    starts_are = grind (arith, ends_at_is, starts_written)

    -- the last of the numbers that say where lists begin is how many numbers are in these
    last_is : get_or all_of (classes_end all_of + get_or all_of 3 0) 0 ≡ length t.ends
    last_is = grind (arith, get_or-drop, get_or-take, starts_are)

    listed_is : listed_len all_of ≡ classes_end all_of + length t.starts + length t.ends
    listed_is = ap (λ n. ends_at all_of + n) last_is ∙ ap (λ n. n + length t.ends) ends_at_is

    -- behind the numbers that say where lists begin stand these, and then the scan for candidates
    abbrev start : List ℕ
    start = take (classes_end all_of + length t.starts) all_of

    start_long : length start ≡ classes_end all_of + length t.starts
    start_long = length-take-le (classes_end all_of + length t.starts) all_of (omega (arith, size))

    rest_is : drop (classes_end all_of + length t.starts) all_of ≡ t.ends ++ prints
    rest_is =
        sym (take_all (length (t.ends ++ prints)) (drop (classes_end all_of + length t.starts) all_of)
        (omega (arith, length-drop (classes_end all_of + length t.starts) all_of, size)))
        ∙ (ap (λ n. take n (drop (classes_end all_of + length t.starts) all_of)) (omega arith)
        ∙ ends_written OVERLAPPING_VERSION 0 t.classes t.width t.patterns t.rows t.starts (t.ends ++ prints))

    all_is : all_of ≡ start ++ (t.ends ++ prints)
    all_is = sym (take-append-drop (classes_end all_of + length t.starts) all_of) ∙ ap (λ l. start ++ l) rest_is

    ends_are : ends_in all_of ≡ t.ends
    ends_are = grind (arith, all_is, ends_at_is, last_is, part_at, start_long)

    prints_are : prints_after all_of ≡ prints
    prints_are =
        part_at all_of (start ++ t.ends) prints [] (listed_len all_of) (overlapping_len all_of)
        (all_is ∙ (sym (append_assoc start t.ends prints) ∙ ap (λ l. (start ++ t.ends) ++ l) (sym (append-nil prints))))
        (listed_is ∙ (ap (λ n. n + length t.ends) (sym start_long) ∙ sym (length-append start t.ends)))
        (ap (λ n. listed_len all_of + n) (sym prints_long))

    whole : overlapping_len all_of ≡ length all_of
    whole = grind (arith, length-append, listed_is, size)

    tables_are : t ≡ tables_in (overlapping_value t) all_of
    tables_are = grind (arith, classes_written, ends_are, rows_written, same_tables, starts_are)

    -- they are what an `Overlapping` keeps
    pub listed_all : AreSized t → AreListed (overlapping_value t) all_of
    listed_all sized = record {
      prepared = record {
        whole = record {
          lists = grind (arith, size, whole);
          check = check_written OVERLAPPING_VERSION 0 t.classes t.width t.patterns t.rows t.starts (t.ends ++ prints)
              (overlapping_len all_of) whole;
        };
        longest = refl;
        tables = subst AreTables tables_are tables;
        lengths = lengths_written OVERLAPPING_VERSION 0 t.classes t.width t.patterns t.rows t.starts (t.ends ++ prints);
        prints = grind (arith, prints_are);
      };
      long = sym whole;
      sized = subst AreSized tables_are sized;
    }

module _ {search : OverlappingValue} {numbers : List ℕ} (listed : AreListed search numbers) where
  abbrev inside : Tables
  inside = tables_in search numbers

  -- so many numbers these are
  listed_long : length numbers ≡ 7 + length search.patterns + length inside.rows + 256 + length inside.starts
      + length inside.ends + SCAN_LEN
  listed_long = grind (arith, length-map, length_part, long, whole)

  -- and so many entries are enough for them
  pub takes_listed : TakesListedPlaces search (length numbers)
  unfolding TakesListedPlaces
  takes_listed = grind (arith, listed_long)
