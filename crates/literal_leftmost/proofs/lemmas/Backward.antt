-- Walks from the right, by an automaton of the reversed patterns.
use Rattle.std.proofs.Common.{◌≡◌, ℕ, ◌+◌, ◌-◌, ◌%◌, ◌<◌, ◌≤◌, ◌⊎◌, ◌^◌, List, [], ◌∷◌, ◌++◌, length, get_or, drop}
use Rattle.std.proofs.Common.{Some, None, inl, inr, nat_eq, reverse, sym, ap, subst, ◌∙◌}
use Rattle.std.proofs.Common.{Option, arith, refl, take}
use Rattle.std.specs.Option.{unwrap_or}
use Rattle.std.proofs.lemmas.Bool.{cases_lt}
use Rattle.std.proofs.lemmas.List.{get_or-map, length-append, length-map, length-reverse, nil_from_length}
use Rattle.std.proofs.lemmas.List.{reverse-append}
use Rattle.std.specs.List.{starts_with}
use Rattle.literal_base.specs.Counts.{Counts}
use Rattle.literal_base.specs.Leftmost.{IsBetter, IsLeftmostMatch}
use Rattle.literal_base.specs.Occurs.{IsValidSpan, NoneIsEmpty, Occurs, between, pattern_at}
use Rattle.literal_base.specs.declared.packed.MatchKind.{MatchKind}
use Rattle.literal_base.specs.declared.packed.MatchKind.TheVariants.{LeftmostFirst, LeftmostLongest}
use Rattle.literal_rows.specs.Inside.Classes.{symbols_in}
use Rattle.literal_rows.specs.Inside.Suffixes.{IsSuffix}
use Rattle.literal_leftmost.specs.Inside.Backward.{AreBackFor, BeginsBest, HasReadBack, IsMark, IsRead, back_tables_by}
use Rattle.literal_leftmost.specs.Inside.Backward.{NoneBeginsAt}
use Rattle.literal_leftmost.specs.Inside.Backward.{named_by}
use Rattle.literal_rows.specs.Inside.Walk.{IsAt, text_of}
use Rattle.literal_leftmost.specs.SearchValue.{reversed, unshadowed}
use Rattle.literal_leftmost.specs.Prepared.{AreBackTables, BackTables, texts_back, texts_of}
use Rattle.literal_leftmost.specs.SearchValue.{SearchValue}
use Rattle.literal_rows.specs.Links.{AreLinks}
use Rattle.literal_rows.specs.Table.{Recognises, nothing}
use Rattle.literal_rows.specs.Words.{ending}
use Rattle.literal_leftmost.specs.declared.backward.Backward.{Backward}
use Rattle.literal_rows.proofs.lemmas.Found.{occurs_where, some_symbols, stands_where, symbols_length}
use Rattle.literal_rows.proofs.lemmas.Longest.{longest_is, longest_only}
use Rattle.literal_rows.proofs.lemmas.FirstSuffix.{first_ends, none_ends}
use Rattle.literal_rows.proofs.lemmas.Reversed.{back_count, back_long, end_is_prefix, prefix_is_end, some_back}
use Rattle.literal_rows.proofs.lemmas.Shadowed.{ending_is_best, ends_unshadowed, some_unshadowed}
use Rattle.literal_rows.proofs.lemmas.Walk.{at_start, at_with_end, at_without_end, row_at}
use Rattle.literal_rows.proofs.lemmas.Walk.{text_length, text_split}

-- a better pattern is so by its lengths alone
pub better_by : (kind : MatchKind) (patterns others : List (List ℕ))
    → ((i : ℕ) → length (pattern_at others i) ≡ length (pattern_at patterns i)) → (j i : ℕ) → IsBetter kind patterns j i
    → IsBetter kind others j i
better_by LeftmostFirst patterns others same j i better = better
better_by LeftmostLongest patterns others same j i (inl longer) = inl (omega (arith, same i, same j))
better_by LeftmostLongest patterns others same j i (inr long) = inr (omega (arith, same i, same j, long.0), long.1)

module _ (p : BackTables) (are : AreBackTables p) (haystack : List ℕ) (bytes : (i : ℕ) → get_or haystack i 0 < 256)
  where
    abbrev words : List (List ℕ)
    words = texts_of p

    abbrev read : ℕ → ℕ → List ℕ
    read at from = reverse (text_of p.classes haystack (between at from))

    some_words : NoneIsEmpty words
    some_words = some_symbols p.classes p.search.query.patterns are.kept.some

    some_texts : NoneIsEmpty (texts_back p)
    some_texts = some_back (unshadowed p.search.query.kind words) (some_unshadowed p.search.query.kind words some_words)

    known : length words ≡ length p.search.query.patterns
    known = length-map p.search.query.patterns (symbols_in p.classes)

    same_long : (i : ℕ) → length (pattern_at (reversed words) i) ≡ length (pattern_at p.search.query.patterns i)
    same_long i = back_long words i ∙ symbols_length p.classes p.search.query.patterns i

    module _ (from at : ℕ) (after : at ≤ from) (inside : from ≤ length haystack) where
      valid : IsValidSpan haystack (between at from)
      valid = record { ordered = after; in_haystack = inside }

      nothing_before : at - at ≡ 0
      nothing_before = omega arith

      -- what ends with what was read begins there
      end_begins : (i : ℕ) → IsSuffix (reversed words) (read at from) i
          → Occurs p.search.query.patterns p.search.ignore_case haystack (between at from) i at
      end_begins i is =
          let text = text_of p.classes haystack (between at from) in
          let below = is.is_pattern in
          occurs_where p.search.ignore_case p.classes p.search.query.patterns are.tells haystack bytes (between at from)
          valid i
          at (omega (arith, known, back_count words, below)) (omega arith) after
          (ap (λ n. starts_with nat_eq (drop n text) (pattern_at words i)) nothing_before
          ∙ end_is_prefix words text i is)

      -- and what begins there ends so
      begin_ends : (i : ℕ) → Occurs p.search.query.patterns p.search.ignore_case haystack (between at from) i at
          → IsSuffix (reversed words) (read at from) i
      begin_ends i occurs =
          let text = text_of p.classes haystack (between at from) in
          let below = occurs.is_pattern in
          prefix_is_end words text i (omega (arith, known))
          (ap (λ n. starts_with nat_eq (drop n text) (pattern_at words i)) (sym nothing_before)
          ∙ stands_where p.search.ignore_case p.classes p.search.query.patterns are.tells haystack bytes
          (between at from)
          valid
          i at occurs)

      -- the pattern that is found is the best that begins there
      best_begins : (i : ℕ) → ending (texts_back p) (read at from) ≡ Some i → BeginsBest p haystack from at i
      best_begins i ends =
          let best = ending_is_best p.search.query.kind words (read at from) i
          (first_ends (texts_back p) some_texts (read at from) i ends) in
          record {
            occurs = end_begins i best.0;
            best = λ j better occurs. best.1 j (begin_ends j occurs)
                (better_by p.search.query.kind p.search.query.patterns (reversed words) same_long j i better);
          }

    no_text : (at : ℕ) → text_of p.classes haystack (between at at) ≡ []
    no_text at =
        let none : at - at ≡ 0 = omega arith in
        ap (λ n. symbols_in p.classes (take n (drop at haystack))) none

    -- the link of a pattern that occurs
    module _ (longest : p.search.query.kind ≡ LeftmostLongest) (links : List ℕ)
        (linked : AreLinks (texts_back p) links (length p.search.query.patterns)) (at from i : ℕ)
        (inside : from ≤ length haystack)
        (occurs : Occurs p.search.query.patterns p.search.ignore_case haystack (between at from) i at)
        (whole : from ≡ at + length (pattern_at p.search.query.patterns i))
      where
        some : at < from
        some = omega (arith, whole, longest_some)
          where
            longest_some : 0 < length (pattern_at p.search.query.patterns i)
            longest_some = are.kept.some i [] occurs.is_pattern

        -- it takes up all that is read there
        read_whole : pattern_at (reversed words) i ≡ read at from
        read_whole =
            let is = begin_ends from at (omega (arith, some)) inside i occurs in
            let long = length-reverse (text_of p.classes haystack (between at from)) in
            let text_long = text_length p.classes haystack at from (omega (arith, some)) inside in
            let sum = ap (λ (l : List ℕ). length l) is.ends.split
            ∙ length-append is.ends.prefix (pattern_at (reversed words) i) in
            let none = nil_from_length is.ends.prefix (omega (arith, sum, long, text_long, same_long i, whole)) in
            sym (is.ends.split ∙ ap (λ (l : List ℕ). l ++ pattern_at (reversed words) i) none)

        -- without its first symbol it is what is read one byte before
        read_less : drop 1 (read at from) ≡ read at (from - 1)
        read_less =
            let last = from - 1 in
            let symbol = get_or p.classes (get_or haystack last 0) 0 in
            let next : last + 1 ≡ from = omega (arith, some) in
            let split = text_split p.classes haystack at last (omega (arith, some)) (omega (arith, some, inside)) from
            (omega (arith, some)) in
            let end = ap (λ n. text_of p.classes haystack (between n from)) next ∙ no_text from in
            let back = ap (λ (l : List ℕ). reverse l)
            (split ∙ ap (λ (l : List ℕ). text_of p.classes haystack (between at last) ++ symbol ∷ l) end)
            ∙ reverse-append (text_of p.classes haystack (between at last)) (symbol ∷ []) in
            ap (λ (l : List ℕ). drop 1 l) back

        texts_are : texts_back p ≡ reversed words
        texts_are = ap (λ k. reversed (unshadowed k words)) longest

        link_is : get_or links i 0 ≡ unwrap_or (ending (texts_back p) (read at (from - 1))) nothing
        link_is =
            let text = ap (λ (t : List (List ℕ)). pattern_at t i) texts_are ∙ read_whole in
            linked.each i occurs.is_pattern
            ∙ ap (λ (t : List ℕ). unwrap_or (ending (texts_back p) t) nothing)
            (ap (λ (t : List ℕ). drop 1 t) text ∙ read_less)

        -- of the patterns that begin there and end before it does, it leads to the best, if there is one
        pub linked_there : ((get_or links i 0 ≡ nothing) × NoneBeginsAt p haystack (from - 1) at)
            ⊎ ((get_or links i 0 < nothing) × BeginsBest p haystack (from - 1) at (get_or links i 0))
        linked_there = by (ending (texts_back p) (read at (from - 1))) refl
          where
            after : at ≤ from - 1
            after = omega (arith, some)

            within : from - 1 ≤ length haystack
            within = omega (arith, inside)

            by : (o : Option ℕ) → ending (texts_back p) (read at (from - 1)) ≡ o
                → ((get_or links i 0 ≡ nothing) × NoneBeginsAt p haystack (from - 1) at)
                ⊎ ((get_or links i 0 < nothing) × BeginsBest p haystack (from - 1) at (get_or links i 0))
            by None is = inl (
              link_is ∙ ap (λ (o : Option ℕ). unwrap_or o nothing) is,
              λ j other. none_ends (texts_back p) some_texts (read at (from - 1)) is j
                  (ends_unshadowed p.search.query.kind words (read at (from - 1)) j
                  (begin_ends (from - 1) at after within j other)),
            )
            by (Some n) is =
                let best = best_begins (from - 1) at after within n is in
                let link : get_or links i 0 ≡ n = link_is ∙ ap (λ (o : Option ℕ). unwrap_or o nothing) is in
                inr (
                  omega (arith, link, best.occurs.is_pattern, are.kept.few),
                  subst (BeginsBest p haystack (from - 1) at) (sym link) best,
                )

    row_of : (text : List ℕ) (row : ℕ)
        → IsAt (texts_back p) p.width p.rows are.recognises text row
        → row + p.width < length p.rows
    row_of text row at =
        let fits = (row_at (texts_back p) p.width p.rows are.recognises text row at).fits in
        omega (arith, fits)

    -- a walk that read nothing
    pub stands_nowhere : (from : ℕ) → HasReadBack p haystack from from 0
    stands_nowhere from = grind (arith, at_start, no_text, row_of)

    -- one byte more
    module _ (from at row code : ℕ) (before : at < from) (inside : from ≤ length haystack)
        (stands : HasReadBack p haystack from (at + 1) row)
        (code_is : code ≡ get_or p.rows (row + get_or p.classes (get_or haystack at 0) 0) 0)
      where
        abbrev symbol : ℕ
        symbol = get_or p.classes (get_or haystack at 0) 0

        below : symbol < p.width
        below = are.classes.below (get_or haystack at 0) (bytes at)

        more : read (at + 1) from ++ symbol ∷ [] ≡ read at from
        more =
            let rest = text_of p.classes haystack (between (at + 1) from) in
            sym (ap (λ (l : List ℕ). reverse l)
            (text_split p.classes haystack at at (omega arith) (omega arith) from before
            ∙ ap (λ l. l ++ symbol ∷ rest) (no_text at))
            ∙ reverse-append (symbol ∷ []) rest)

        -- below 2^31 nothing begins there
        without : code < 2 ^ 31 → (recognises : Recognises (texts_back p) p.width p.rows)
            → IsAt (texts_back p) p.width p.rows recognises (read at from) code
            × (ending (texts_back p) (read at from) ≡ None)
        without small recognises =
            let on = at_without_end (texts_back p) p.width p.rows recognises (read (at + 1) from) row
            (stands.is_at recognises) symbol below code code_is small in (
              subst (λ t. IsAt (texts_back p) p.width p.rows recognises t code) more on.0,
              ap (ending (texts_back p)) (sym more) ∙ on.1,
            )

        -- from there on something does
        with_end : 2 ^ 31 ≤ code → (recognises : Recognises (texts_back p) p.width p.rows)
            → IsAt (texts_back p) p.width p.rows recognises (read at from) (code - 2 ^ 31)
            × (ending (texts_back p) (read at from) ≡ Some (named_by p code))
        with_end large recognises =
            let on = at_with_end (texts_back p) p.width p.rows recognises (read (at + 1) from) row
            (stands.is_at recognises) symbol below code code_is large in (
              subst (λ t. IsAt (texts_back p) p.width p.rows recognises t (code - 2 ^ 31)) more on.0,
              ap (ending (texts_back p)) (sym more) ∙ on.1,
            )

        pub mark_there : IsMark p haystack from at code
        mark_there = record {
          none = λ small i occurs. none_ends (texts_back p) some_texts (read at from)
              (without small are.recognises).1 i
              (ends_unshadowed p.search.query.kind words (read at from) i
              (begin_ends from at (omega arith) inside i occurs));
          row = λ large. row_of (read at from) (code - 2 ^ 31) (with_end large are.recognises).0;
          best = λ large.
              best_begins from at (omega arith) inside (named_by p code) (with_end large are.recognises).1;
        }

        pub stands_there : HasReadBack p haystack from at (code % 2 ^ 31)
        stands_there = elim (cases_lt code (2 ^ 31)) [
          | inl small ↦
              let is : code ≡ code % 2 ^ 31 = omega arith in
              subst (HasReadBack p haystack from at) is (record {
                fits = row_of (read at from) code (without small are.recognises).0;
                is_at = λ recognises. (without small recognises).0;
              })
          | inr large ↦
              let fits = row_of (read at from) (code - 2 ^ 31) (with_end large are.recognises).0 in
              let few = are.recognises.few in
              let is : code - 2 ^ 31 ≡ code % 2 ^ 31 = omega arith in
              subst (HasReadBack p haystack from at) is (record {
                fits = fits;
                is_at = λ recognises. (with_end large recognises).0;
              })
        ]

-- one count alone has changed, and one step more
pub ticked_on : (old now new : Counts) → now ≡ (let t : Counts = record old { scanned = now.scanned } in t)
    → new ≡ (let t : Counts = record now { scanned = now.scanned + 1 } in t)
    → new ≡ (let t : Counts = record old { scanned = new.scanned } in t)
ticked_on old now new before tick = grind arith

-- what was read for the byte before where a walk stands
pub read_one : (p : BackTables) → AreBackTables p → (haystack : List ℕ) → ((i : ℕ) → get_or haystack i 0 < 256)
    → (from at row code : ℕ) → at < from → from ≤ length haystack → HasReadBack p haystack from (at + 1) row
    → code ≡ get_or p.rows (row + get_or p.classes (get_or haystack at 0) 0) 0 → IsRead p haystack from at code
read_one p tables haystack bytes from at row code before inside stands is = record {
  mark = mark_there p tables haystack bytes from at row code before inside stands is;
  stands = stands_there p tables haystack bytes from at row code before inside stands is;
}

-- what is known of a walk that began so far behind that all that begins there lies before
module _ (p : BackTables) (are : AreBackTables p) (haystack : List ℕ) (end at from : ℕ) (inside : from ≤ end)
    (far : (from ≡ end) ⊎ (at + p.longest ≤ from))
  where
    -- whatever lies whole in the span lies in what was read
    lies_before : (i : ℕ) → Occurs p.search.query.patterns p.search.ignore_case haystack (between at end) i at
        → Occurs p.search.query.patterns p.search.ignore_case haystack (between at from) i at
    lies_before i occurs = grind (arith, longest_is)

    pub mark_in : (code : ℕ) → IsMark p haystack from at code → IsMark p haystack end at code
    mark_in code mark = grind (arith, lies_before)

-- the match that a mark tells of
module _ (b : Backward) (search : SearchValue) (is : AreBackFor search b) (haystack : List ℕ) (end at code : ℕ)
    (ends : 2 ^ 31 ≤ code) (mark : IsMark (back_tables_by search b) haystack end at code)
  where
    abbrev best : ℕ
    best = named_by (back_tables_by search b) code

    begins : BeginsBest (back_tables_by search b) haystack end at best
    begins = mark.best ends

    length_is : get_or b.lens.now best 0 ≡ length (pattern_at search.query.patterns best)
    length_is =
        ap (λ (l : List ℕ). get_or l best 0) is.lens
        ∙ get_or-map (λ (bytes : List ℕ). length bytes) search.query.patterns best [] 0 begins.occurs.is_pattern

    -- the only pattern is the longest one
    pub only_named : length b.lens.now ≡ 1 → (0 ≡ best) × (b.table.longest ≡ get_or b.lens.now 0 0)
    only_named one =
        let patterns = search.query.patterns in
        let same : length patterns ≡ 1 =
        sym (length-map patterns (λ (bytes : List ℕ). length bytes)) ∙ (sym (ap length is.lens) ∙ one) in
        let none : 0 ≡ best = omega (arith, begins.occurs.is_pattern) in (
          none,
          is.tables.longest ∙ (longest_only patterns same
              ∙ sym (subst (λ i. get_or b.lens.now i 0 ≡ length (pattern_at patterns i)) (sym none) length_is)),
        )

    -- it is not empty, no longer than the longest pattern, and lies before the end
    pub mark_inside : (0 < get_or b.lens.now best 0) × (get_or b.lens.now best 0 ≤ b.table.longest)
        × (at + get_or b.lens.now best 0 ≤ end)
    mark_inside = grind (arith, begins, length_is, longest_is)

    pub mark_leftmost : (pattern len : ℕ) → pattern ≡ best → len ≡ get_or b.lens.now pattern 0
        → IsLeftmostMatch search.query search.ignore_case haystack (between at end)
        (record { pattern = pattern; start = at; end = at + len })
    mark_leftmost pattern len pattern_is len_is = grind (arith, begins, length_is)
