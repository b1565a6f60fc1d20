-- An iteration over every occurrence in a text that is read in pieces gives each once, in order.
use Rattle.std.proofs.Common.{◌≡◌, ℕ, ◌-◌, ◌≤◌, ◌++◌, [], ◌∷◌, ◌∙◌, Err, List, None, Ok, Option, Some, ap, arith}
use Rattle.std.proofs.Common.{length, length-append, map, refl, subst, sym, drop}
use Rattle.std.specs.Io.KnownBytes.{Consumes}
use Rattle.std.specs.Iterator.{Yields}
use Rattle.std.specs.declared.io.Error.{Error}
use Rattle.literal_base.specs.MatchValue.{MatchValue}
use Rattle.literal_base.specs.Occurs.{between, whole_of}
use Rattle.literal_occurrences.specs.Overlapping.{IsOccurrence, IsOverlapping, OverlappingValue}
use Rattle.literal_occurrences.specs.OverlappingMatchesValue.{GivesOverlapping, IsNextToCome, IsToCome}
use Rattle.literal_occurrences.specs.OverlappingMatchesValue.{OverlappingMatchesValue, gone_on}
use Rattle.literal_pieces.specs.OverlappingStream.{BeginsStream, GivesInStream, OverlappingStreamValue, search_within}
use Rattle.literal_occurrences.specs.PreparedOverlapping.{overlapping_value}
use Rattle.literal_pieces.specs.Stream.{known}
use Rattle.literal_pieces.specs.Inside.OverlappingStream.{GoesOver}
use Rattle.literal_pieces.proofs.lemmas.OverlappingStreams.{cut_at}
use Rattle.literal_occurrences.proofs.lemmas.Overlapping.{overlapping_from_yields}
use Rattle.literal_pieces.proofs.lemmas.Streams.{seen_all, seen_whole}

-- before the text is read it goes through all of it
pub goes_at_first : (search : OverlappingValue) (text : List ℕ) (m : OverlappingStreamValue)
    → BeginsStream search (Some text) m → GoesOver search text m
goes_at_first search text m begins = record {
  before = [];
  rest = text;
  search_is = begins.search_is;
  unread = grind arith;
  may_come = begins.nothing_read;
  whole = grind arith;
  not_over = grind arith;
}

module _ (search : OverlappingValue) (text : List ℕ) where
  -- the text is what came before, what is held after a piece was read, and what is known to follow
  text_is : (m : OverlappingStreamValue) (goes : GoesOver search text m) (piece : List ℕ) (left : Option (List ℕ))
      → Consumes m.unread left piece
      → (left ≡ Some (known left)) × (goes.before ++ ((m.held ++ piece) ++ known left) ≡ text)
  text_is m goes piece left consumed = grind (arith, seen_all)

  goes_after : (m : OverlappingStreamValue) (found : MatchValue) (n : OverlappingStreamValue) → GoesOver search text m
      → GivesInStream m (Some (Ok found)) n → GoesOver search text n
  goes_after m found n goes step =
      let to = step.1 in
      let k = found.end - m.offset in
      let seen = m.held ++ to.piece in
      let all = text_is m goes to.piece n.unread to.reads.reads.consumed in
      let held_is : n.held ≡ drop k seen = ap (λ (v : OverlappingStreamValue). v.held) to.goes_on in
      let tables_are = ap (λ (v : OverlappingStreamValue). overlapping_value v.tables) to.goes_on in
      grind (arith, cut_at)

  goes_to : (m : OverlappingStreamValue) (all : List MatchValue) (n : OverlappingStreamValue) → GoesOver search text m
      → Yields GivesInStream m (map Ok all) n → GoesOver search text n
  goes_to m [] n goes stays = subst (GoesOver search text) stays goes
  goes_to m (found ∷ rest) n goes run = goes_to run.0 rest n (goes_after m found run.0 goes run.1) run.2

  -- its offset does not go back
  later : (m : OverlappingStreamValue) (found : MatchValue) (n : OverlappingStreamValue)
      → GivesInStream m (Some (Ok found)) n → (n.offset ≡ found.end) × (m.offset ≤ n.offset)
  later m found n step = grind arith

  later_all : (m : OverlappingStreamValue) (all : List MatchValue) (n : OverlappingStreamValue)
      → Yields GivesInStream m (map Ok all) n → m.offset ≤ n.offset
  later_all m [] n stays = omega (arith, ap (λ (v : OverlappingStreamValue). v.offset) stays)
  later_all m (found ∷ rest) n run = grind (arith, later, later_all run.0 rest n run.2)

  module _ (end : ℕ) where
    -- the search in a part of the text, up to an offset
    abbrev upto : OverlappingStreamValue → OverlappingMatchesValue
    upto m = record { search = search; haystack = text; span = between 0 end; end = m.offset; pattern = m.pattern }

    -- an answer is a step of it
    step_upto : (m : OverlappingStreamValue) (found : MatchValue) (n : OverlappingStreamValue)
        → GoesOver search text m → GivesInStream m (Some (Ok found)) n → found.end ≤ end
        → GivesOverlapping (upto m) (Some found) (upto n)
    step_upto m found n goes step within =
        let to = step.1 in
        let all = text_is m goes to.piece n.unread to.reads.reads.consumed in
        let next = subst (λ (t : List ℕ). IsNextToCome (search_within m t) found) all.1
        (to.next goes.before (known n.unread) goes.may_come) in
        let search_is = goes.search_is in
        let to_is = to.goes_on in
        record { gives = grind arith; goes_on = grind arith }

    steps_upto : (m : OverlappingStreamValue) (all : List MatchValue) (n : OverlappingStreamValue)
        → GoesOver search text m → Yields GivesInStream m (map Ok all) n → n.offset ≤ end
        → Yields GivesOverlapping (upto m) all (upto n)
    steps_upto m [] n goes stays within = ap upto stays
    steps_upto m (found ∷ rest) n goes run within =
        let at = later m found run.0 run.1 in
        let further = later_all run.0 rest n run.2 in (
          upto run.0,
          step_upto m found run.0 goes run.1 (omega (arith, at.0, further)),
          steps_upto run.0 rest n (goes_after m found run.0 goes run.1) run.2 within,
        )

    -- what is given before the end is all that lies in the part
    all_upto : (m : OverlappingStreamValue) (all : List MatchValue) (n : OverlappingStreamValue)
        → BeginsStream search (Some text) m → Yields GivesInStream m (map Ok all) n → n.offset ≤ end
        → ((found : MatchValue) → ¬ IsToCome (upto n) found)
        → IsOverlapping search.patterns search.ignore_case text (between 0 end) all
    all_upto m all n begins run within nothing =
        let is = begins.begins in
        overlapping_from_yields search text (between 0 end) (upto m) all (upto n) (gone_on (upto n) None) (grind arith)
        (steps_upto m all n (goes_at_first search text m begins) run within)
        (record { gives = nothing; goes_on = refl })

  -- up to the first None
  module _ (m : OverlappingStreamValue) (all : List MatchValue) (n ended : OverlappingStreamValue)
      (begins : BeginsStream search (Some text) m) (run : Yields GivesInStream m (map Ok all) n)
    where
      abbrev goes : GoesOver search text n
      goes = goes_to m all n (goes_at_first search text m begins) run

      pub read_all : GivesInStream n None ended → ended.offset ≡ length text
      read_all last =
          let ends = last.1 goes.not_over in
          let taken = subst (λ (u : Option (List ℕ)). Consumes u ended.unread ends.piece) goes.unread
          ends.past.reads.consumed in
          let whole = seen_whole n.held ends.piece goes.rest ended.unread ends.end taken in
          let at = ap (λ (v : OverlappingStreamValue). v.offset) ends.past.over in
          let long = ap length (ap (λ l. goes.before ++ l) whole ∙ goes.whole) in
          omega (arith, at, long, length-append goes.before (n.held ++ ends.piece), goes.may_come.long)

      pub given_all : GivesInStream n None ended
          → IsOverlapping search.patterns search.ignore_case text (whole_of text) all
      given_all last =
          let ends = last.1 goes.not_over in
          let taken = subst (λ (u : Option (List ℕ)). Consumes u ended.unread ends.piece) goes.unread
          ends.past.reads.consumed in
          let whole = seen_whole n.held ends.piece goes.rest ended.unread ends.end taken in
          let text_is : goes.before ++ (n.held ++ ends.piece) ≡ text = ap (λ l. goes.before ++ l) whole ∙ goes.whole in
          let at = ap (λ (v : OverlappingStreamValue). v.offset) ends.past.over in
          let inside = length-append n.held ends.piece in
          let read = read_all last in
          all_upto (length text) m all n begins run
          (let long = ap length text_is in
          omega (arith, long, length-append goes.before (n.held ++ ends.piece), goes.may_come.long))
          (λ found to_come.
          subst (λ (t : List ℕ). ¬ IsToCome (search_within n t) found) text_is (ends.nothing goes.before goes.may_come
          found) (record {
            occurrence = subst (λ (s : OverlappingValue). IsOccurrence s.patterns s.ignore_case text (whole_of text)
                found)
                (sym goes.search_is) to_come.occurrence;
            after = to_come.after;
          }))

      pub given_read : (error : Error) → GivesInStream n (Some (Err error)) ended
          → IsOverlapping search.patterns search.ignore_case text (between 0 ended.offset) all
      given_read error last =
          let fails = last.1 in
          let (left, text_is) = text_is n goes fails.piece ended.unread fails.past.reads.consumed in
          let at = ap (λ (v : OverlappingStreamValue). v.offset) fails.past.over in
          let long = ap length text_is in
          let within : ended.offset ≤ length text = grind (arith, length-append) in
          all_upto ended.offset m all n begins run (omega (arith, at))
          (λ found to_come.
          let whole : IsOccurrence search.patterns search.ignore_case text (whole_of text) found =
          let is = to_come.occurrence in grind arith in
          let further = fails.nothing goes.before (known ended.unread) goes.may_come found
          (subst (λ (t : List ℕ). IsToCome (search_within n t) found) (sym text_is) (record {
            occurrence = grind arith;
            after = to_come.after;
          })) in
          let last_byte = to_come.occurrence.occurs.before_end in
          let end = to_come.occurrence.whole in
          omega (arith, further, last_byte, end))
