-- Where a search for everything that occurs stands, and what is to come there.
use Rattle.std.proofs.lemmas.Grind.{common_steps}
use Rattle.std.proofs.Common.{rules, ◌≡◌, ℕ, ◌+◌, ◌-◌, ◌<◌, ◌≤◌, List, length, get_or, Option, Some}
use Rattle.std.proofs.Common.{arith, ◌*◌, mul-le-mul_right}
use Rattle.std.proofs.lemmas.List.{length-map}
use Rattle.std.specs.Iterator.{MakesProgress, size}
use Rattle.literal_base.specs.declared.search.Span.{Span}
use Rattle.literal_base.specs.MatchValue.{MatchValue}
use Rattle.literal_base.specs.Occurs.{IsValidSpan, NoneIsEmpty, Occurs, between, pattern_at}
use Rattle.literal_rows.specs.Inside.Classes.{symbols_in}
use Rattle.literal_rows.specs.Inside.Suffixes.{AreSuffixes, IsSuffix, IsFirstSuffix}
use Rattle.literal_occurrences.specs.Inside.Position.{HaveSameToCome, IsPosition, longest_at, position_at, read_of}
use Rattle.literal_occurrences.specs.Inside.Position.{position_value}
use Rattle.literal_occurrences.specs.Inside.NextEnd.{IsWalkAtEnd}
use Rattle.literal_rows.specs.Inside.Walk.{text_of}
use Rattle.literal_occurrences.specs.Overlapping.{IsOccurrence}
use Rattle.literal_occurrences.specs.OverlappingMatchesValue.{GivesOverlapping, IsNextToCome, IsToCome}
use Rattle.literal_occurrences.specs.OverlappingMatchesValue.{OverlappingMatchesValue, most_overlapping}
use Rattle.literal_occurrences.specs.PreparedOverlapping.{AreTables, Tables, texts_in}
use Rattle.literal_rows.specs.Words.{ending}
use Rattle.literal_occurrences.specs.declared.position.Position.{Position}
use Rattle.literal_rows.specs.declared.walk.WalkEnd.{WalkEnd}
use Rattle.literal_rows.proofs.lemmas.EndsFound.{end_occurs, nothing_read, occurrence_ends}
use Rattle.literal_rows.proofs.lemmas.Found.{some_symbols}
use Rattle.literal_occurrences.proofs.lemmas.NextEnd.{stands_first}
use Rattle.literal_rows.proofs.lemmas.FirstSuffix.{ends_of_first, ends_on, first_ends, first_is_own}
use Rattle.literal_rows.proofs.lemmas.Walk.{ends_at, row_at, text_halves}

module _ (p : Tables) (parts : AreTables p) (haystack : List ℕ) (bytes : (i : ℕ) → get_or haystack i 0 < 256)
    (span : Span) (valid : IsValidSpan haystack span)
  where
    pub some_texts : NoneIsEmpty (texts_in p)
    some_texts = some_symbols p.classes p.patterns parts.kept.some

    known : length (texts_in p) ≡ length p.patterns
    known = length-map p.patterns (symbols_in p.classes)

    -- an occurrence is a suffix of what is read up to its own end
    pub found_ends : (found : MatchValue) → IsOccurrence p.patterns p.ignore_case haystack span found
        → IsSuffix (texts_in p) (read_of p haystack span found.end) found.pattern
    found_ends found is = search (arith, occurrence_ends)

    -- and a suffix of what is read occurs
    pub end_found : (i at : ℕ) → span.start ≤ at → at ≤ span.end
        → IsSuffix (texts_in p) (read_of p haystack span at) i
        → IsOccurrence p.patterns p.ignore_case haystack span
        (record { pattern = i; start = at - length (pattern_at p.patterns i); end = at })
    end_found i at after inside is =
        let one = end_occurs p.ignore_case p.classes p.patterns parts.tells parts.kept.some haystack bytes span valid
        span.start at i (omega arith) after inside is in
        record { occurs = one.0; whole = one.1 }

    module _ (s : Position) (position : IsPosition p haystack span s) where
      -- where nothing is left in the list, what is to come ends further on
      ends_further : s.end ≤ s.next → (found : MatchValue)
          → IsToCome (position_value p haystack span s) found → s.at < found.end
      ends_further empty found is =
          let end = found_ends found is.occurrence in
          grind arith

      -- at the end of the span nothing is to come
      pub nothing_to_come : s.end ≤ s.next → s.at ≡ span.end → (found : MatchValue)
          → ¬ IsToCome (position_value p haystack span s) found
      nothing_to_come empty last found is = omega (arith, ends_further empty found is)

      -- nor where nothing in the span ends further on
      pub none_to_come : ((i row : ℕ) → Occurs p.patterns p.ignore_case haystack span i row
          → row + length (pattern_at p.patterns i) ≤ s.at)
          → s.end ≤ s.next → (found : MatchValue) → ¬ IsToCome (position_value p haystack span s) found
      none_to_come none empty found is = grind (arith, ends_further)

      -- where one ends next
      module _ (stop : WalkEnd)
          (next : IsWalkAtEnd p.patterns p.ignore_case p.classes p.width p.rows haystack span s.at stop)
          (further : s.at < stop.end) (inside : stop.end ≤ span.end)
        where
          abbrev pub text : List ℕ
          text = read_of p haystack span stop.end

          abbrev part : List ℕ
          part = text_of p.classes haystack (between next.stands.from stop.end)

          ends_first : ending (texts_in p) part ≡ Some (longest_at p stop)
          ends_first =
              let read = ends_at (texts_in p) p.width p.rows parts.recognises part stop.row (next.stands.at
              parts.recognises) in
              let some = next.ends in
              grind arith

          first_of_part : IsFirstSuffix (texts_in p) part (longest_at p stop)
          first_of_part = first_ends (texts_in p) some_texts part (longest_at p stop) ends_first

          -- what ends there begins in the part
          in_part : (i : ℕ) → IsSuffix (texts_in p) text i → IsSuffix (texts_in p) part i
          in_part i end =
              let one = end_occurs p.ignore_case p.classes p.patterns parts.tells parts.kept.some haystack bytes span
              valid span.start stop.end i (omega arith) (omega arith) inside end in
              occurrence_ends p.ignore_case p.classes p.patterns parts.tells parts.kept.some haystack bytes span valid
              next.stands.from i (stop.end - length (pattern_at p.patterns i)) stop.end
              (next.stands.begins i _ one.0 (omega (arith, one.1))) one.1 one.0

          of_part : (i : ℕ) → IsSuffix (texts_in p) part i → IsSuffix (texts_in p) text i
          of_part i end =
              let prefix = text_of p.classes haystack (between span.start next.stands.from) in
              record {
                is_pattern = end.is_pattern;
                ends = ends_on text part _
                    (record {
                      prefix = prefix;
                      split = grind (arith, text_halves);
                    }) end.ends;
              }

          is_first : IsFirstSuffix (texts_in p) text (longest_at p stop)
          is_first = grind (arith, of_part, first_of_part, in_part)

          pub longest_below : (longest_at p stop) < length p.patterns
          longest_below = let below = is_first.is.is_pattern in omega (arith, known)

          pub row_inside : stop.row + p.width < length p.rows
          row_inside =
              let row = row_at (texts_in p) p.width p.rows parts.recognises part stop.row
              (next.stands.at parts.recognises) in
              omega (arith, row.fits)

          list : AreSuffixes (texts_in p) (pattern_at (texts_in p) (longest_at p stop)) 0 p.ends
              (get_or p.starts (longest_at p stop) 0) (get_or p.starts ((longest_at p stop) +
              1) 0)
          list = grind (arith, longest_below, first_is_own, some_texts, is_first)

          pub stands_there : IsPosition p haystack span (position_at p stop)
          stands_there =
              record {
                after = omega arith;
                inside = inside;
                stands = grind arith;
                ordered = parts.lists.ordered (longest_at p stop) longest_below;
                within = grind (arith, longest_below);
                left = record {
                  ascends = list.ascends;
                  each = λ k from before.
                      let one = list.each k from before in
                      let ends = ends_on text (pattern_at (texts_in p) (longest_at p stop)) _ is_first.is.ends
                      one.0.ends in
                      grind arith;
                  every = grind (arith, list, ends_of_first, some_texts, is_first);
                };
              }

          pub some_left : (position_at p stop).next < (position_at p stop).end
          some_left = grind (arith, list, is_first)

          pub same_to_come : s.end ≤ s.next
              → HaveSameToCome (position_value p haystack span s) (position_value p haystack span (position_at p stop))
          same_to_come empty found = grind (arith, ends_further)

      -- where the list has more
      module _ (left : s.next < s.end) where
        abbrev pub pattern : ℕ
        pattern = get_or p.ends s.next 0

        here : IsSuffix (texts_in p) (read_of p haystack span s.at) pattern × (s.pattern ≤ pattern)
        here = position.left.each s.next (omega arith) left

        abbrev pub found : MatchValue
        found = record {
          pattern = pattern;
          start = s.at - length (pattern_at p.patterns pattern);
          end = s.at;
        }

        pub is_pattern : pattern < length p.patterns
        is_pattern = let below = here.0.is_pattern in omega (arith, known)

        pub next_is : IsNextToCome (position_value p haystack span s) found
        next_is =
            record {
              to_come = grind (arith, common_steps, end_found);
              first = λ other is before.
                  let end = found_ends other is.occurrence in
                  let every = position.left.every other.pattern in
                  let later = position.left.ascends s.next in
                  grind arith;
            }

        pub stands_next : IsPosition p haystack span
            (record { at = s.at; row = s.row; pattern = pattern + 1; next = s.next + 1; end = s.end })
        stands_next =
            record {
              after = position.after;
              inside = position.inside;
              stands = position.stands;
              ordered = omega arith;
              within = position.within;
              left = record {
                ascends = λ j k from before after. position.left.ascends j k (omega arith) before after;
                each = grind (arith, common_steps);
                every = λ i end from. grind (arith, here);
              };
            }

    -- before all that occurs, and behind it
    pub stands_before : IsPosition p haystack span
        (record { at = span.start; row = 0; pattern = 0; next = 0; end = 0 })
    stands_before = grind (arith, common_steps, stands_first, nothing_read, some_texts)

    pub stands_behind : (count : ℕ) → count ≡ length p.patterns
        → IsPosition p haystack span (record { at = span.end; row = 0; pattern = count; next = 0; end = 0 })
    stands_behind count is = grind (arith, known)

-- what is next stays next where the same is to come
pub next_moved : (one other : OverlappingMatchesValue) (found : MatchValue) → HaveSameToCome one other
    → IsNextToCome other found → IsNextToCome one found
next_moved one other found same is = grind arith

-- each that is given takes of what is left
takes_one : (m : OverlappingMatchesValue) (found : MatchValue) → IsNextToCome m found
    → (m.span.end - found.end) * length m.search.patterns + (length m.search.patterns - (found.pattern + 1))
    < (m.span.end - m.end) * length m.search.patterns + (length m.search.patterns - m.pattern)
takes_one m found is = search (rules, mul-le-mul_right)

falls : (old new : OverlappingMatchesValue) (found : MatchValue) → GivesOverlapping old (Some found) new
    → size (most_overlapping new) < size (most_overlapping old)
falls old new found gives = grind (arith, takes_one)

-- so it comes to its end
pub makes_progress : (old : OverlappingMatchesValue) (answer : Option MatchValue) (new : OverlappingMatchesValue)
    → GivesOverlapping old answer new → MakesProgress (λ (m : OverlappingMatchesValue). Unit) most_overlapping old
    answer new
makes_progress old answer new gives = grind (arith, falls)
