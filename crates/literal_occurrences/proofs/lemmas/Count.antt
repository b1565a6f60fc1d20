-- Counts of every occurrence: of what ends at one offset, between two, and in a whole span.
use Rattle.std.proofs.lemmas.Grind.{common_steps}
use Rattle.std.proofs.Common.{◌≡◌, ℕ, ◌+◌, ◌*◌, ◌-◌, ◌<◌, ◌≤◌, ◌^◌, ◌%◌, List, [], ◌∷◌, ◌++◌, length, map, get_or}
use Rattle.std.proofs.Common.{Option, Some, None, IsSome, ap, arith, inl, inr, length-append, refl, subst, sym, ◌∙◌}
use Rattle.std.proofs.lemmas.Bool.{cases_lt}
use Rattle.std.proofs.lemmas.List.{get_or-append_right, get_or_append_left, length-map}
use Rattle.std.proofs.lemmas.List.Elements.{All-append, All-nil}
use Rattle.std.proofs.lemmas.List.FromFn.{get_or-map-range_with_len, length-map-range_with_len}
use Rattle.std.specs.List.{AllPairs, range_with_len}
use Rattle.literal_base.specs.Occurs.{IsValidSpan, between, pattern_at}
use Rattle.literal_base.specs.declared.search.Span.{Span}
use Rattle.literal_base.specs.MatchValue.{MatchValue}
use Rattle.literal_rows.specs.Inside.Classes.{AreClasses}
use Rattle.literal_occurrences.specs.Inside.Count.{CountFour, CountsBetween, HasCounted, IsAfter, IsWalk}
use Rattle.literal_occurrences.specs.Inside.LentTables.{IsNextEnd}
use Rattle.literal_occurrences.specs.Inside.NextEnd.{IsWalkAtEnd}
use Rattle.literal_rows.specs.Inside.Packed.{unpacked}
use Rattle.literal_rows.specs.Inside.Arrays.{header_table}
use Rattle.literal_rows.specs.Inside.Rows.{rows_of}
use Rattle.literal_occurrences.specs.Inside.Position.{IsPosition, longest_at, read_of, position_at}
use Rattle.literal_rows.specs.Inside.Suffixes.{IsSuffix}
use Rattle.literal_rows.specs.Inside.Walk.{IsAt, classes_by, rows_by, text_of}
use Rattle.literal_occurrences.specs.Overlapping.{ComesBefore, IsOccurrence, IsOverlappingCount, OverlappingValue}
use Rattle.literal_occurrences.specs.PreparedOverlapping.{AreTables, Tables, overlapping_value, texts_in}
use Rattle.literal_leftmost.specs.SearchValue.{longest_of}
use Rattle.literal_rows.specs.Table.{Recognises}
use Rattle.literal_rows.specs.Words.{ending}
use Rattle.literal_occurrences.specs.declared.count.Counted.{Counted}
use Rattle.literal_rows.specs.declared.array.Header.{Header}
use Rattle.literal_occurrences.specs.declared.position.Position.{Position}
use Rattle.literal_rows.specs.declared.walk.WalkEnd.{WalkEnd}
use Rattle.literal_rows.specs.declared.walk.Table.{Table}
use Rattle.literal_rows.proofs.lemmas.EndsFound.{nothing_read, occurrence_ends}
use Rattle.literal_rows.proofs.lemmas.FirstSuffix.{none_ends}
use Rattle.literal_rows.proofs.lemmas.Longest.{longest_is}
use Rattle.literal_occurrences.proofs.lemmas.Position.{end_found, found_ends, longest_below, row_inside, some_texts}
use Rattle.literal_occurrences.proofs.lemmas.Position.{stands_there}
use Rattle.literal_rows.proofs.lemmas.Walk.{at_start, at_with_end, at_without_end, row_at, text_push}

pairs_append : {X : Type 0} (R : X → X → Type 0) (xs ys : List X) → AllPairs R xs → AllPairs R ys
    → ((i j : ℕ) (d : X) → i < length xs → j < length ys → R (get_or xs i d) (get_or ys j d))
    → AllPairs R (xs ++ ys)
pairs_append R xs ys one other across i j d before below =
    grind (arith, cases_lt, get_or-append_right, get_or_append_left, length-append)

-- nothing ends between an offset and itself
pub nothing : (search : OverlappingValue) (haystack : List ℕ) (span : Span) (from to : ℕ) → to ≤ from
    → CountsBetween search haystack span from to 0
nothing search haystack span from to same = grind (arith, All-nil)

-- four walks have counted nothing yet
pub none_yet : (search : OverlappingValue) (haystack : List ℕ) (span : Span) (at part count : ℕ)
    → CountFour search haystack span at part 0 count count
none_yet search haystack span at part count = grind (arith, nothing)

-- the number that a table of a header's parts gives for a byte, by these parts
pub number_is : (header : Header) (table : Table) (row byte code : ℕ) → table ≡ header_table header
    → AreClasses (unpacked header.classes.now) header.width
    → (AreClasses (classes_by table) table.width → row + table.width < length (rows_by table)
    → code ≡ get_or (rows_by table) (row + get_or (classes_by table) byte 0) 0)
    → row + header.width < length (rows_of header.rows.now)
    → code ≡ get_or (rows_of header.rows.now) (row + get_or (unpacked header.classes.now) byte 0) 0
number_is header table row byte code is classes number = grind arith

module _ (search : OverlappingValue) (haystack : List ℕ) (span : Span) where
  abbrev Is : MatchValue → Type 0
  Is = IsOccurrence search.patterns search.ignore_case haystack span

  -- nothing ends between two offsets
  pub none_between : (from to : ℕ) → ((found : MatchValue) → Is found → from < found.end → to < found.end)
      → CountsBetween search haystack span from to 0
  none_between from to none = grind (arith, All-nil)

  -- of two adjacent stretches
  pub joined : (from mid to a b : ℕ) → from ≤ mid → mid ≤ to → CountsBetween search haystack span from mid a
      → CountsBetween search haystack span mid to b → CountsBetween search haystack span from to (a + b)
  joined from mid to a b low high one other = record {
    all = one.all ++ other.all;
    each = All-append (λ (found : MatchValue). Is found × (from < found.end) × (found.end ≤ to)) one.all other.all
        (λ k d below. let it = one.each k d below in (it.0, it.1, omega (arith, it.2)))
        (λ k d below. let it = other.each k d below in (it.0, omega (arith, it.1), it.2));
    ordered = pairs_append ComesBefore one.all other.all one.ordered other.ordered
        (λ i j d below upto. inl (omega (arith, (one.each i d below).2, (other.each j d upto).1)));
    every = λ found is after upto. elim (cases_lt mid found.end) [
      | inl late ↦
          let it = other.every found is late upto in (
            length one.all + it.0,
            (
              omega (arith, it.1.0, length-append one.all other.all),
              it.1.1
                  ∙ sym (get_or-append_right one.all other.all (length one.all) (length one.all + it.0) found refl
                  (omega arith) ∙ ap (λ k. get_or other.all k found) (omega arith)),
            ),
          )
      | inr early ↦
          let it = one.every found is after early in (
            it.0,
            (
              omega (arith, it.1.0, length-append one.all other.all),
              it.1.1 ∙ sym (get_or_append_left one.all other.all found it.0 it.1.0),
            ),
          )
    ];
    count_is = omega (arith, one.count_is, other.count_is, length-append one.all other.all);
  }

  -- of a whole span
  pub whole : (count : ℕ) → CountsBetween search haystack span span.start span.end count
      → ((found : MatchValue) → Is found → span.start < found.end)
      → IsOverlappingCount search.patterns search.ignore_case haystack span count
  whole count counts some = grind arith

module _ (search : OverlappingValue) (haystack : List ℕ) (span : Span) (at part step old count : ℕ)
    (four : CountFour search haystack span at part step old count)
  where
    -- after one more byte of each part
    pub four_on : (first second third fourth new : ℕ)
        → CountsBetween search haystack span (at + step) (at + (step + 1)) first
        → CountsBetween search haystack span (at + part + step) (at + part + (step + 1)) second
        → CountsBetween search haystack span (at + 2 * part + step) (at + 2 * part + (step + 1)) third
        → CountsBetween search haystack span (at + 3 * part + step) (at + 3 * part + (step + 1)) fourth
        → new ≡ count + first + second + third + fourth
        → CountFour search haystack span at part (step + 1) old new
    four_on first second third fourth new one two three last new_is = record {
      first = four.first + first;
      second = four.second + second;
      third = four.third + third;
      fourth = four.fourth + fourth;
      in_first = joined search haystack span at (at + step) (at + (step + 1)) four.first first (omega arith)
          (omega arith) four.in_first one;
      in_second = joined search haystack span (at + part) (at + part + step) (at + part + (step + 1)) four.second
          second (omega arith) (omega arith) four.in_second two;
      in_third = joined search haystack span (at + 2 * part) (at + 2 * part + step) (at + 2 * part + (step + 1))
          four.third third (omega arith) (omega arith) four.in_third three;
      in_fourth = joined search haystack span (at + 3 * part) (at + 3 * part + step) (at + 3 * part + (step + 1))
          four.fourth fourth (omega arith) (omega arith) four.in_fourth last;
      total = omega (arith, new_is, four.total);
    }

    -- after all four parts
    pub four_parts : step ≡ part → span.start ≤ at → CountsBetween search haystack span span.start at old
        → CountsBetween search haystack span span.start (at + 4 * part) count
    four_parts whole after before =
        let second : at + step ≡ at + part = omega arith in
        let third : at + part + step ≡ at + 2 * part = omega arith in
        let fourth : at + 2 * part + step ≡ at + 3 * part = omega arith in
        let end : at + 3 * part + step ≡ at + 4 * part = omega arith in
        let total : old + four.first + four.second + four.third + four.fourth ≡ count = sym four.total in
        subst (CountsBetween search haystack span span.start (at + 4 * part)) total
        (joined search haystack span span.start (at + 3 * part) (at + 4 * part) _ four.fourth (omega arith)
        (omega arith)
        (joined search haystack span span.start (at + 2 * part) (at + 3 * part) _ four.third (omega arith) (omega arith)
        (joined search haystack span span.start (at + part) (at + 2 * part) _ four.second (omega arith) (omega arith)
        (joined search haystack span span.start at (at + part) old four.first after (omega arith) before
        (subst (λ (t : ℕ). CountsBetween search haystack span at t four.first) second four.in_first))
        (subst (λ (t : ℕ). CountsBetween search haystack span (at + part) t four.second) third four.in_second))
        (subst (λ (t : ℕ). CountsBetween search haystack span (at + 2 * part) t four.third) fourth four.in_third))
        (subst (λ (t : ℕ). CountsBetween search haystack span (at + 3 * part) t four.fourth) end four.in_fourth))

module _ (p : Tables) (parts : AreTables p) (haystack : List ℕ) (bytes : (i : ℕ) → get_or haystack i 0 < 256)
    (span : Span) (valid : IsValidSpan haystack span)
  where
    -- each occurrence ends after the start of the span
    pub ends_after : (found : MatchValue) → IsOccurrence p.patterns p.ignore_case haystack span found
        → span.start < found.end
    ends_after found is = grind arith

    -- a walk may begin one byte less before an offset than the longest pattern has
    pub walk_begins : (longest start from : ℕ) → longest ≡ longest_of p.patterns → span.start ≤ from
        → from + (longest - 1) ≤ start → IsWalk p haystack span start from 0
    walk_begins longest start from is after far = record {
      from = from;
      after = after;
      before = omega arith;
      at = λ recognises. grind (arith, at_start, nothing_read);
      begins = λ i offset o further. grind (arith, longest_is);
    }

    -- a walk at an offset, past all that ends there
    pub position_after : (at row count : ℕ) → span.start ≤ at → at ≤ span.end
        → (at < span.end → IsAfter p haystack span at row) → count ≡ length p.patterns
        → IsPosition p haystack span (record { at = at; row = row; pattern = count; next = 0; end = 0 })
    position_after at row count after inside walk is = grind (arith, length-map)

    -- what ends at a position, after nothing has ended since an offset
    module _ (here : Position) (standing : IsPosition p haystack span here) (from : ℕ) (later : from < here.at)
        (only : (found : MatchValue) → IsOccurrence p.patterns p.ignore_case haystack span found → from < found.end
        → (here.at ≤ found.end) × (found.end ≡ here.at → here.pattern ≤ found.pattern))
      where
        abbrev many : ℕ
        many = here.end - here.next

        abbrev found_at : ℕ → MatchValue
        found_at k = record {
          pattern = get_or p.ends k 0;
          start = here.at - length (pattern_at p.patterns (get_or p.ends k 0));
          end = here.at;
        }

        abbrev list : List MatchValue
        list = map found_at (range_with_len here.next many)

        long : length list ≡ many
        long = length-map-range_with_len found_at here.next many

        at_index : (i : ℕ) (d : MatchValue) → i < many → get_or list i d ≡ found_at (here.next + i)
        at_index i d below = get_or-map-range_with_len found_at here.next many i (here.next + i) d below refl

        is_one : (k : ℕ) → here.next ≤ k → k < here.end
            → IsOccurrence p.patterns p.ignore_case haystack span (found_at k)
        is_one k after before = grind (arith, end_found)

        same : (found : MatchValue) (k : ℕ) → IsOccurrence p.patterns p.ignore_case haystack span found
            → found.end ≡ here.at → get_or p.ends k 0 ≡ found.pattern → found ≡ found_at k
        same found k is end pattern = grind arith

        pub counts_here : CountsBetween (overlapping_value p) haystack span from here.at (here.end - here.next)
        counts_here = record {
          all = list;
          each = λ i d below. grind (arith, at_index, is_one, long);
          ordered = λ i j d before below.
              let less = standing.left.ascends (here.next + i) (here.next + j) (omega arith) (omega arith)
              (omega (arith, long, below)) in
              subst (λ (one : MatchValue). ComesBefore one (get_or list j d))
              (sym (at_index i d (omega (arith, long, below))))
              (subst (ComesBefore (found_at (here.next + i))) (sym (at_index j d (omega (arith, long, below))))
              (inr (refl, less)));
          every = λ found is after upto.
              let end : found.end ≡ here.at = omega (arith, (only found is after).0) in
              let suffix = subst (λ (at : ℕ). IsSuffix (texts_in p) (read_of p haystack span at) found.pattern) end
              (found_ends p parts haystack bytes span valid found is) in
              let one = standing.left.every found.pattern suffix ((only found is after).1 end) in
              let k = one.0 - here.next in
              let below : k < many = omega (arith, one.1, one.2) in
              let index : one.0 ≡ here.next + k = omega (arith, one.1) in (
                k,
                (
                  omega (arith, long, below),
                  same found one.0 is end one.3 ∙ (ap found_at index ∙ sym (at_index k found below)),
                ),
              );
          count_is = sym long;
        }

    -- a walk is in a row of the tables
    pub walk_row : (start at row : ℕ) → IsWalk p haystack span start at row → (row < length p.rows) × (row < 2 ^ 31)
    walk_row start at row walk =
        let row_is = row_at (texts_in p) p.width p.rows parts.recognises _ row (walk.at parts.recognises) in
        let few = parts.recognises.few in
        (omega (arith, row_is.fits), omega (arith, row_is.fits, few))

    -- a count goes on where the next occurrence ends, or to the end of the span if there is none
    module _ (c : Counted) (counted : HasCounted p haystack span c) (after : span.start ≤ c.at) (count : ℕ)
        (count_is : count ≡ length p.patterns)
      where
        abbrev pub before : Position
        before = record { at = c.at; row = c.row; pattern = count; next = 0; end = 0 }

        pub counted_none : IsNextEnd p haystack span before None → c.at ≤ span.end
            → HasCounted p haystack span (record { at = span.end; row = c.row; count = c.count })
        counted_none next inside = grind (arith, joined, none_between, same)

        pub counted_some : (here : Position) → IsNextEnd p haystack span before (Some here) → c.at < here.at
            → HasCounted p haystack span
            (record { at = here.at; row = here.row; count = c.count + (here.end - here.next) })
        counted_some here next later =
            let only = λ (found : MatchValue) (is : IsOccurrence p.patterns p.ignore_case haystack span found)
            (further : c.at < found.end). (next.to_come found).0 (record { occurrence = is; after = inl further }) in
            let counts = counts_here here next.stands c.at later
            (λ found is further. elim (only found is further).after [
              | inl past ↦ (omega (arith, past), λ end. absurd (omega (arith, past, end)))
              | inr there ↦ (omega (arith, there.0), λ end. there.1)
            ]) in
            record {
              counts = joined (overlapping_value p) haystack span span.start c.at here.at c.count _ after (omega arith)
                  counted.counts counts;
              walk = next.stands.stands;
            }

    -- a walk that reads one more byte
    module _ (start at row code : ℕ) (walk : IsWalk p haystack span start at row) (inside : at < span.end)
        (code_if : row + p.width < length p.rows
        → code ≡ get_or p.rows (row + get_or p.classes (get_or haystack at 0) 0) 0)
      where
        abbrev read : List ℕ
        read = text_of p.classes haystack (between walk.from at)

        abbrev symbol : ℕ
        symbol = get_or p.classes (get_or haystack at 0) 0

        below : symbol < p.width
        below = parts.classes.below (get_or haystack at 0) (bytes at)

        code_is : (recognises : Recognises (texts_in p) p.width p.rows)
            → code ≡ get_or p.rows (row + symbol) 0
        code_is recognises =
            let row_is = row_at (texts_in p) p.width p.rows recognises read row (walk.at recognises) in
            code_if (omega (arith, row_is.fits))

        within : at < length haystack
        within = omega (arith, inside, valid.in_haystack)

        more : text_of p.classes haystack (between walk.from (at + 1)) ≡ read ++ symbol ∷ []
        more = text_push p.classes haystack walk.from at walk.before within

        walk_to : (next : ℕ) → ((recognises : Recognises (texts_in p) p.width p.rows)
            → IsAt (texts_in p) p.width p.rows recognises (read ++ symbol ∷ []) next)
            → IsWalk p haystack span start (at + 1) next
        walk_to next is = grind (arith, more)

        pub walk_small : code < 2 ^ 31 → IsWalk p haystack span start (at + 1) code
        walk_small small = walk_to code (λ recognises.
            (at_without_end (texts_in p) p.width p.rows recognises read row (walk.at recognises) symbol below code
            (code_is recognises) small).0)

        pub walk_large : 2 ^ 31 ≤ code → IsWalk p haystack span start (at + 1) (code - 2 ^ 31)
        walk_large large = walk_to (code - 2 ^ 31) (λ recognises.
            (at_with_end (texts_in p) p.width p.rows recognises read row (walk.at recognises) symbol below code
            (code_is recognises) large).0)

        -- the next row lies in the rows
        pub row_small : code < 2 ^ 31 → code < length p.rows
        row_small small =
            let on = walk_small small in
            let row_is = row_at (texts_in p) p.width p.rows parts.recognises _ code (on.at parts.recognises) in
            omega (arith, row_is.fits)

        pub row_large : 2 ^ 31 ≤ code → (code - 2 ^ 31 < length p.rows) × (code - 2 ^ 31 < 2 ^ 31)
        row_large large =
            let on = walk_large large in
            let row_is = row_at (texts_in p) p.width p.rows parts.recognises _ (code - 2 ^ 31)
            (on.at parts.recognises) in
            let few = parts.recognises.few in
            (omega (arith, row_is.fits), omega (arith, row_is.fits, few))

        -- the row, without the bit that says whether a pattern ends
        pub walk_next : code < 2 ^ 32 → (next : ℕ) → next ≡ code % 2 ^ 31
            → IsWalk p haystack span start (at + 1) next × (next < length p.rows) × (next < 2 ^ 31)
        walk_next fits next next_is = grind (arith, cases_lt, row_large, row_small, same, walk_large, walk_small)

        -- nothing ends after the byte
        pub none_small : code < 2 ^ 31 → start ≤ at → (found : MatchValue)
            → IsOccurrence p.patterns p.ignore_case haystack span found → at < found.end → at + 1 < found.end
        none_small small late found is after = elim (cases_lt (at + 1) found.end) [
          | inl further ↦ further
          | inr not ↦
              let end : found.end ≡ at + 1 = omega arith in
              let begun = walk.begins found.pattern found.start is.occurs (omega (arith, is.whole)) in
              let suffix = occurrence_ends p.ignore_case p.classes p.patterns parts.tells parts.kept.some haystack bytes
              span valid walk.from found.pattern found.start (at + 1) begun (omega (arith, is.whole, end)) is.occurs in
              let none = (at_without_end (texts_in p) p.width p.rows parts.recognises read row
              (walk.at parts.recognises) symbol below code (code_is parts.recognises) small).1 in
              absurd (none_ends (texts_in p) (some_texts p parts haystack bytes span valid) _
              (ap (ending (texts_in p)) more ∙ none) found.pattern suffix)
        ]

        -- or some patterns do, and the walk is at the next end
        pub next_large : 2 ^ 31 ≤ code → start ≤ at
            → IsWalkAtEnd p.patterns p.ignore_case p.classes p.width p.rows haystack
            span at (record { row = code - 2 ^ 31; end = at + 1 })
        unfolding walk_large walk_to
        next_large large late =
            let on = walk_large large in
            let ends = (at_with_end (texts_in p) p.width p.rows parts.recognises read row (walk.at parts.recognises)
            symbol below code (code_is parts.recognises) large).1 in
            record {
              stands = grind arith;
              ends = subst (λ (o : Option ℕ). IsSome o) (sym (ap (ending (texts_in p)) more ∙ ends)) refl;
              first = λ i offset o further. omega arith;
            }

        -- so the walk goes on, and what ends after the byte is counted
        module _ (late : start ≡ at) (after : span.start ≤ at) (to : ℕ) (to_is : to ≡ at + 1) where
          pub small_counts : code < 2 ^ 31 → (count : ℕ) → count ≡ 0
              → IsAfter p haystack span to code × CountsBetween (overlapping_value p) haystack span start to count
          small_counts small count none = grind (arith, none_between, none_small, walk_small)

          module _ (large : 2 ^ 31 ≤ code) (next : ℕ) (next_is : next ≡ code - 2 ^ 31) where
            abbrev stop : WalkEnd
            stop = record { row = next; end = at + 1 }

            stands_next : IsWalkAtEnd p.patterns p.ignore_case p.classes p.width p.rows haystack span at stop
            stands_next = subst (λ (row : ℕ).
                IsWalkAtEnd p.patterns p.ignore_case p.classes p.width p.rows haystack span at
                (record { row = row; end = at + 1 })) (sym next_is) (next_large large (omega arith))

            abbrev position : Position
            position = record { at = at; row = row; pattern = length p.patterns; next = 0; end = 0 }

            standing : IsPosition p haystack span position
            standing = grind (arith, common_steps, position_after)

            pub large_inside : (next + p.width < length p.rows)
                × (get_or p.rows (next + p.width) 0 + 1 < length p.starts)
            large_inside =
                let named = longest_below p parts haystack bytes span valid position standing stop stands_next
                (omega arith) (omega arith) in
                let many = parts.lists.long in (
                  row_inside p parts haystack bytes span valid position standing stop stands_next (omega arith)
                      (omega arith),
                  omega (arith, named, many),
                )

            pub large_counts : (count : ℕ) → count ≡ get_or p.starts (get_or p.rows (next + p.width) 0 + 1) 0
                - get_or p.starts (get_or p.rows (next + p.width) 0) 0
                → IsAfter p haystack span to next × CountsBetween (overlapping_value p) haystack span start to count
            large_counts count count_is =
                let there = stands_there p parts haystack bytes span valid position standing stop stands_next
                (omega arith) (omega arith) in
                let counts = counts_here (position_at p stop) there at (omega arith)
                (λ found is further. (omega arith, λ end. omega arith)) in (
                  subst (λ (t : ℕ). IsWalk p haystack span t t next) (sym to_is) (moved stands_next.stands),
                  subst (λ (n : ℕ). CountsBetween (overlapping_value p) haystack span start to n) (sym count_is)
                      (subst (λ (t : ℕ). CountsBetween (overlapping_value p) haystack span start t
                      (get_or p.starts (longest_at p stop + 1) 0 - get_or p.starts (longest_at p stop) 0)) (sym to_is)
                      (subst (λ (s : ℕ). CountsBetween (overlapping_value p) haystack span s (at + 1)
                      (get_or p.starts (longest_at p stop + 1) 0 - get_or p.starts (longest_at p stop) 0)) (sym late)
                      counts)),
                )
              where
                moved : IsWalk p haystack span at (at + 1) next → IsWalk p haystack span (at + 1) (at + 1) next
                moved on = grind arith
