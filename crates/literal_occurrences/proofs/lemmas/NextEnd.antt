-- A walk from one end of patterns to the next.
use Rattle.std.proofs.Common.{◌≡◌, ℕ, ◌+◌, ◌-◌, ◌<◌, ◌≤◌, Bool, List, [], Some, get_or, length, map, ap, arith, refl}
use Rattle.std.proofs.Common.{sym, ◌∙◌, ◌^◌, IfOk, IfSome, IsSome, None, Ok, Option, Result}
use Rattle.std.specs.Result.{IsOkAnd}
use Rattle.std.specs.Option.{option_map}
use Rattle.literal_base.specs.Occurs.{IsValidSpan, NoneIsEmpty, Occurs, between, pattern_at}
use Rattle.literal_base.specs.declared.search.Span.{Span}
use Rattle.literal_leftmost.specs.Prepared.{ArePrints}
use Rattle.literal_occurrences.specs.Earliest.{IsEarliestEnd}
use Rattle.literal_rows.specs.Inside.Classes.{AreClasses, Tells, symbols_in}
use Rattle.literal_occurrences.specs.Inside.NextEnd.{FindsNext, HasComeTo, IsNextWalkEnd, IsWalkAt, IsWalkAtEnd}
use Rattle.literal_occurrences.specs.Inside.Scan.{IsTableFor, NoneBefore}
use Rattle.literal_rows.specs.Inside.Walk.{HasReached, IsAt, IsFirstEnd, NoneEnds, ReachesWithin, classes_by, read_to}
use Rattle.literal_rows.specs.Inside.Walk.{rows_by, text_of}
use Rattle.literal_rows.specs.Table.{Recognises}
use Rattle.literal_rows.specs.Words.{ending, live_suffix}
use Rattle.literal_rows.specs.declared.damaged.Damaged.{Damaged}
use Rattle.literal_rows.specs.declared.walk.Reached.{Reached}
use Rattle.literal_rows.specs.declared.walk.Reached.TheVariants.{Back, Ends, Nowhere}
use Rattle.literal_rows.specs.declared.walk.WalkEnd.{WalkEnd}
use Rattle.literal_rows.specs.declared.walk.Table.{Table}
use Rattle.literal_rows.proofs.lemmas.EndsFound.{begins_behind, end_occurs, nothing_read, occurrence_ends}
use Rattle.literal_rows.proofs.lemmas.Found.{some_symbols}
use Rattle.literal_rows.proofs.lemmas.FirstSuffix.{first_ends, none_ends}
use Rattle.literal_rows.proofs.lemmas.Walk.{at_start, text_halves}

-- at the first row the live suffix is empty
at_root : (patterns : List (List ℕ)) (width : ℕ) (rows : List ℕ) (recognises : Recognises patterns width rows)
    (text : List ℕ) → IsAt patterns width rows recognises text 0 → live_suffix patterns text ≡ []
at_root patterns width rows recognises text at = grind arith

-- a walk stands at the first row where it has read nothing
pub stands_first : (patterns : List (List ℕ)) (ignore_case : Bool) (classes : List ℕ) (width : ℕ)
    (rows haystack : List ℕ) (span : Span)
    → IsWalkAt patterns ignore_case classes width rows haystack span span.start (record { row = 0; end = span.start })
stands_first patterns ignore_case classes width rows haystack span = grind arith

module _ (t : Table) (patterns : List (List ℕ)) (ignore_case : Bool) (is : IsTableFor t patterns ignore_case)
    (haystack : List ℕ) (bytes : (i : ℕ) → get_or haystack i 0 < 256) (span : Span) (valid : IsValidSpan haystack span)
    (s : WalkEnd) (inside : s.end ≤ span.end)
    (stands : IsWalkAt patterns ignore_case (classes_by t) t.width (rows_by t) haystack span s.end s) (behind : ℕ)
    (later : (i offset : ℕ) → Occurs patterns ignore_case haystack span i offset
    → behind < offset + length (pattern_at patterns i) → s.end < offset + length (pattern_at patterns i))
  where
    abbrev texts : List (List ℕ)
    texts = map (symbols_in (classes_by t)) patterns

    abbrev pub read : List ℕ
    read = text_of (classes_by t) haystack (between stands.from s.end)

    reads_to : (end : ℕ) → s.end ≤ end
        → read_to read (classes_by t) haystack s.end end ≡ text_of (classes_by t) haystack (between stands.from end)
    reads_to end further = sym (text_halves (classes_by t) haystack stands.from s.end end stands.before further)

    -- what is to come ends behind where no pattern ends
    none_upto : (upto : ℕ) → NoneEnds texts read (classes_by t) haystack s.end upto → (i offset : ℕ)
        → Occurs patterns ignore_case haystack span i offset → s.end < offset + length (pattern_at patterns i)
        → upto < offset + length (pattern_at patterns i)
    none_upto upto none i offset o further =
        let end = offset + length (pattern_at patterns i) in
        let begun = stands.begins i offset o further in
        let ends = occurrence_ends ignore_case (classes_by t) patterns is.tells is.some haystack bytes span valid
        stands.from
        i offset end begun refl o in
        let differs = none_ends texts (some_symbols (classes_by t) patterns is.some)
        (text_of (classes_by t) haystack (between stands.from end)) in
        let reads = reads_to end in
        let none_there = none end further in
        grind arith

    -- where something ends next
    next_there : (stop : WalkEnd) → s.end < stop.end
        → ((recognises : Recognises texts t.width (rows_by t))
        → IsFirstEnd texts t.width (rows_by t) recognises read (classes_by t) haystack s.end stop)
        → IsWalkAtEnd patterns ignore_case (classes_by t) t.width (rows_by t) haystack span behind stop
    next_there stop further finds =
        let first = finds is.recognises in
        let same = reads_to stop.end (omega arith) in
        record {
          stands = grind arith;
          ends = grind arith;
          first = λ i offset o to_come.
              let past = none_upto (stop.end - 1) first.none i offset o (later i offset o to_come) in omega arith;
        }

    -- where nothing does
    next_nowhere : NoneEnds texts read (classes_by t) haystack s.end span.end → (i offset : ℕ)
        → Occurs patterns ignore_case haystack span i offset → offset + length (pattern_at patterns i) ≤ behind
    next_nowhere none i offset o =
        let past = none_upto span.end none i offset o in
        let further = later i offset o in
        grind arith

    -- where the walk is back in the first state, and then nothing begins before another offset
    module _ (at new : ℕ) (after : s.end ≤ at) (on : at ≤ new) (within : new ≤ span.end)
        (back : (recognises : Recognises texts t.width (rows_by t))
        → IsAt texts t.width (rows_by t) recognises (read_to read (classes_by t) haystack s.end at) 0
        × NoneEnds texts read (classes_by t) haystack s.end at)
        (none : NoneBefore patterns ignore_case haystack (between at span.end) new)
      where
        begins_new : (i offset : ℕ) → Occurs patterns ignore_case haystack span i offset
            → s.end < offset + length (pattern_at patterns i) → new ≤ offset
        begins_new i offset o further =
            let live = at_root texts t.width (rows_by t) is.recognises _ (back is.recognises).0 in
            let behind_at = begins_behind ignore_case (classes_by t) patterns is.tells is.some haystack bytes span valid
            stands.from at i offset (omega arith) (stands.begins i offset o further)
            (none_upto at (back is.recognises).1 i offset o further) (omega arith)
            (ap (live_suffix texts) (sym (reads_to at after)) ∙ live) o in
            none i offset (grind arith)

        stands_new : IsWalkAt patterns ignore_case (classes_by t) t.width (rows_by t) haystack span new
            (record { row = 0; end = new })
        stands_new =
            let before = stands.before in
            record {
              from = new;
              after = omega arith;
              before = omega arith;
              at = grind (arith, nothing_read, at_start);
              begins = grind (arith, begins_new);
            }

        later_new : (i offset : ℕ) → Occurs patterns ignore_case haystack span i offset
            → behind < offset + length (pattern_at patterns i) → new < offset + length (pattern_at patterns i)
        later_new i offset o to_come = grind (arith, begins_new)

-- what a walk finds that goes on from where another has come to: where something ends next, or nothing; or it comes to
-- where nothing begins before, behind the offset where it is back
abbrev pub IsFoundOn : Table → List ℕ → List ℕ → ℕ → Span → Reached → Type 0
IsFoundOn t prints haystack from span (Ends stop) = FindsNext t prints haystack from span (Ok (Some stop))
IsFoundOn t prints haystack from span Nowhere = FindsNext t prints haystack from span (Ok None)
IsFoundOn t prints haystack from span (Back at) =
    (new : ℕ) → at ≤ new → new ≤ span.end
    → ((patterns : List (List ℕ)) (ignore_case : Bool) → IsTableFor t patterns ignore_case
    → ArePrints patterns ignore_case prints → NoneBefore patterns ignore_case haystack (between at span.end) new)
    → HasComeTo t prints haystack from span (record { row = 0; end = new })

module _ (t : Table) (prints haystack : List ℕ) (bytes : (i : ℕ) → get_or haystack i 0 < 256) (from : ℕ)
    (span : Span) (valid : IsValidSpan haystack span) (here : WalkEnd) (inside : here.end ≤ span.end)
    (comes : HasComeTo t prints haystack from span here)
  where
    valid_whole : (patterns : List (List ℕ)) (ignore_case : Bool) (start : ℕ)
        → IsWalkAt patterns ignore_case (classes_by t) t.width (rows_by t) haystack (between start span.end) span.start
        (record { row = from; end = span.start }) → IsValidSpan haystack (between start span.end)
    valid_whole patterns ignore_case start begun = let ordered = valid.ordered in grind arith

    pub found_on : (reached : Reached) → (AreClasses (classes_by t) t.width → (words : List (List ℕ))
        (recognises : Recognises words t.width (rows_by t)) (text : List ℕ)
        → IsAt words t.width (rows_by t) recognises text here.row
        → HasReached words t.width (rows_by t) recognises text (classes_by t) haystack (between here.end span.end)
        reached) → (least : ℕ) → ReachesWithin (between here.end span.end) least reached
        → IsFoundOn t prints haystack from span reached
    found_on (Ends stop) reaches least lies = λ patterns ignore_case is pass start begun.
        let come = comes patterns ignore_case is pass start begun in
        next_there t patterns ignore_case is haystack bytes (between start span.end)
        (valid_whole patterns ignore_case start begun) here inside come.0 span.start come.1 stop lies.0
        (λ recognises. reaches is.classes (map (symbols_in (classes_by t)) patterns) recognises _
        (come.0.at recognises))
    found_on Nowhere reaches least lies = λ patterns ignore_case is pass start begun.
        let come = comes patterns ignore_case is pass start begun in
        next_nowhere t patterns ignore_case is haystack bytes (between start span.end)
        (valid_whole patterns ignore_case start begun) here inside come.0 span.start come.1
        (reaches is.classes (map (symbols_in (classes_by t)) patterns) is.recognises _ (come.0.at is.recognises))
    found_on (Back at) reaches least lies = λ new after within none patterns ignore_case is pass start begun.
        let come = comes patterns ignore_case is pass start begun in
        let whole = valid_whole patterns ignore_case start begun in
        let none_there = none patterns ignore_case is pass in
        let back = λ (recognises : Recognises (map (symbols_in (classes_by t)) patterns) t.width (rows_by t)).
        reaches is.classes (map (symbols_in (classes_by t)) patterns) recognises _ (come.0.at recognises) in (
          stands_new t patterns ignore_case is haystack bytes (between start span.end) whole here inside come.0
              span.start come.1 at new (omega (arith, lies.0)) after within back none_there,
          later_new t patterns ignore_case is haystack bytes (between start span.end) whole here inside come.0
              span.start come.1 at new (omega (arith, lies.0)) after within back none_there,
        )

module _ (patterns : List (List ℕ)) (ignore_case : Bool) (classes : List ℕ) (width : ℕ) (rows : List ℕ)
    (tells : Tells ignore_case classes patterns) (some : NoneIsEmpty patterns) (haystack : List ℕ)
    (bytes : (i : ℕ) → get_or haystack i 0 < 256) (span : Span) (valid : IsValidSpan haystack span)
  where
    -- where something ends next behind the start of a span, it ends earliest in it
    pub earliest_is : (answer : Option WalkEnd)
        → IsNextWalkEnd patterns ignore_case classes width rows haystack span span.start answer
        → IfSome answer (λ stop. (span.start < stop.end) × (stop.end ≤ span.end) × (stop.row < 2 ^ 32))
        → IsEarliestEnd patterns ignore_case haystack span (option_map (λ stop. stop.end) answer)
    earliest_is None none inside = grind arith
    earliest_is (Some stop) next inside =
        let texts = map (symbols_in classes) patterns in
        let text = text_of classes haystack (between next.stands.from stop.end) in
        let one = some_is (ending texts text) next.ends in
        let first = first_ends texts (some_symbols classes patterns some) text one.0 one.1 in
        let occurs = end_occurs ignore_case classes patterns tells some haystack bytes span valid
        next.stands.from stop.end one.0 next.stands.after next.stands.before inside.1 first.is in
        grind arith
      where
        some_is : {T : Type 0} (o : Option T) → IsSome o → (v : T) × (o ≡ Some v)
        some_is None is = cc
        some_is (Some v) is = (v, refl)

pub finds_earliest : (t : Table) (patterns : List (List ℕ)) (ignore_case : Bool) (prints : List ℕ)
    → IsTableFor t patterns ignore_case → ArePrints patterns ignore_case prints → (haystack : List ℕ) → ((i : ℕ)
    → get_or haystack i 0 < 256)
    → (span : Span) → IsValidSpan haystack span → (result : Result (Option WalkEnd) Damaged)
    → FindsNext t prints haystack 0 span result → IfOk result (λ answer. IfSome answer
    (λ stop. (span.start < stop.end) × (stop.end ≤ span.end) × (stop.row < 2 ^ 32)))
    → IsOkAnd result (λ answer. IsEarliestEnd patterns ignore_case haystack span (option_map (λ stop. stop.end) answer))
finds_earliest t patterns ignore_case prints is pass haystack bytes span valid result finds inside =
    let found = finds patterns ignore_case is pass span.start
    (stands_first patterns ignore_case (classes_by t) t.width (rows_by t) haystack span) in
    let earliest = earliest_is patterns ignore_case (classes_by t) t.width (rows_by t) is.tells is.some haystack bytes
    span
    valid in
    grind arith
