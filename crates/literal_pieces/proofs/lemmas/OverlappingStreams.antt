-- Every occurrence in a text that is read in pieces.
use Rattle.std.proofs.lemmas.Grind.{common_steps, get_or_default_zero}
use Rattle.std.proofs.Common.{◌≡◌, ◌⊎◌, ℕ, ◌+◌, ◌-◌, ◌<◌, ◌≤◌, ◌++◌, [], ◌∷◌, List, append-nil, append_assoc, ap, arith}
use Rattle.std.proofs.Common.{drop, get_or, rules, ◌*◌, ◌^◌, mul-le-mul_right, Result, Bool, None, Option, Some, true}
use Rattle.std.proofs.Common.{inl, inr, length, length-append, refl, subst, sym, take, ◌∙◌}
use Rattle.std.proofs.Math.Seq.{take-add, take-append_seam}
use Rattle.std.proofs.lemmas.Bool.{cases_lt}
use Rattle.std.proofs.KnownBytes.{Consumes-nil, Consumes-trans}
use Rattle.std.proofs.lemmas.List.{drop-append-le, drop-drop, length-drop, length-take-le, take-append-drop}
use Rattle.std.proofs.lemmas.List.{take-append-le, take_more}
use Rattle.std.specs.Io.KnownBytes.{IsAtEnd}
use Rattle.std.specs.IoError.{error_kind}
use Rattle.std.specs.Iterator.{MakesProgress}
use Rattle.std.specs.declared.io.Error.{Error}
use Rattle.std.specs.declared.io.ErrorKind.{ErrorKind}
use Rattle.std.specs.List.{AllPairs, slice_range}
use Rattle.literal_base.specs.MatchValue.{MatchValue}
use Rattle.literal_base.specs.Occurs.{pattern_at, whole_of}
use Rattle.literal_occurrences.specs.Automaton.{AreAtEnd, EndsText, IsStateAfter, OccursAtEnd}
use Rattle.literal_occurrences.specs.Overlapping.{IsOccurrence}
use Rattle.literal_occurrences.specs.OverlappingMatchesValue.{IsNextToCome, IsToCome, OverlappingMatchesValue}
use Rattle.literal_pieces.specs.OverlappingStream.{EndsAfterAll, FailsAfterAll, GivesInStream, GoesToEnd, IsPastAll}
use Rattle.literal_pieces.specs.OverlappingStream.{MayComeBefore, most_in_stream, OverlappingStreamValue, search_within}
use Rattle.literal_occurrences.specs.PreparedOverlapping.{IsNotBefore}
use Rattle.literal_pieces.specs.Stream.{ReadsOn}
use Rattle.literal_pieces.specs.Inside.OverlappingStream.{HasCome, pattern_after}
use Rattle.literal_occurrences.specs.Inside.Position.{HaveSameToCome}
use Rattle.literal_occurrences.proofs.lemmas.Automaton.{in_haystack, in_part}
use Rattle.literal_occurrences.proofs.lemmas.Position.{next_moved}

-- a text, followed by the first bytes of a part, and by one more
pub text_more : (text part : List ℕ) (at : ℕ) → at < length part
    → (text ++ take at part) ++ (get_or part at 0 ∷ []) ≡ text ++ take (at + 1) part
text_more text part at inside = grind (arith, append_assoc, take_more)

-- what is given of a list that ascends lies before what is to come
module _ (ending : List ℕ) (ascend : AllPairs (λ i other. i < other) ending) (given : ℕ) where
  after_some : 0 < given → pattern_after ending given ≡ get_or ending (given - 1) 0 + 1
  after_some some = grind arith

  given_before : (k : ℕ) → k < given → given ≤ length ending → get_or ending k 0 < pattern_after ending given
  given_before k before within = grind (arith, after_some, cases_lt)

  come_after : given < length ending → pattern_after ending given ≤ get_or ending given 0
  come_after within = grind (arith, common_steps)

-- a text of which the beginning was looked up
module _ (patterns : List (List ℕ)) (ignore_case : Bool) (before rest : List ℕ) where
  beginning : slice_range (before ++ rest) 0 (length before) ≡ before
  beginning = grind (arith, common_steps, take-append_seam)

  -- what ends with the beginning occurs at its end
  pub ends_beginning : (found : MatchValue)
      → IsOccurrence patterns ignore_case (before ++ rest) (whole_of (before ++ rest)) found
      → found.end ≡ length before → OccursAtEnd patterns ignore_case before (whole_of before) found.pattern
  ends_beginning found is end =
      subst (λ (text : List ℕ). OccursAtEnd patterns ignore_case text (whole_of text) found.pattern) beginning
      (in_part patterns ignore_case (before ++ rest) 0 (length before) (omega arith)
      (omega (arith, length-append before rest)) found.pattern (grind arith))

  module _ (ending : List ℕ) (at : AreAtEnd patterns ignore_case before (whole_of before) ending) where
    -- after the whole list nothing is to come there
    pub all_given : (found : MatchValue)
        → IsOccurrence patterns ignore_case (before ++ rest) (whole_of (before ++ rest)) found
        → found.end ≡ length before → pattern_after ending (length ending) ≤ found.pattern → ⊥
    all_given found is end to_come =
        let (k, below, same) = at.every found.pattern (ends_beginning found is end) in
        let known = get_or_default_zero ending k found.pattern below in
        omega (arith, given_before ending at.ascend (length ending) k below (omega arith))

    -- before that the next of the list is the first that is to come
    module _ (given : ℕ) (left : given < length ending) (found : MatchValue)
        (pattern_is : found.pattern ≡ get_or ending given 0) (end_is : found.end ≡ length before)
        (start_is : found.start + length (pattern_at patterns found.pattern) ≡ length before)
      where
        is_occurrence : IsOccurrence patterns ignore_case (before ++ rest) (whole_of (before ++ rest)) found
        is_occurrence =
            let ends = subst (OccursAtEnd patterns ignore_case before (whole_of before)) (sym pattern_is)
            (at.each given 0 left) in
            let (start, occurs, whole) = in_haystack patterns ignore_case (before ++ rest) 0 (length before)
            (omega arith) (omega (arith, length-append before rest)) found.pattern
            (subst (λ (text : List ℕ). OccursAtEnd patterns ignore_case text (whole_of text) found.pattern)
            (sym beginning) ends) in
            let same_start : start ≡ found.start = omega arith in
            let long = length-append before rest in
            grind arith

        not_before : (other : MatchValue)
            → IsOccurrence patterns ignore_case (before ++ rest) (whole_of (before ++ rest)) other
            → other.end ≡ length before → pattern_after ending given ≤ other.pattern → found.pattern ≤ other.pattern
        not_before other is end to_come =
            let (k, below, same) = at.every other.pattern (ends_beginning other is end) in
            let known = get_or_default_zero ending k other.pattern below in
            elim (cases_lt k given) [
              | inl earlier ↦
                  let less = given_before ending at.ascend given k earlier (omega arith) in
                  absurd (omega arith)
              | inr later ↦
                  elim (cases_lt given k) [
                    | inl further ↦ let less = at.ascend given k 0 further below in omega arith
                    | inr here ↦
                        let same_k : given ≡ k = omega arith in
                        omega (arith, ap (λ n. get_or ending n 0) same_k)
                  ]
            ]

        pub next_given : IsNextToCome
            (record {
              search = record { patterns = patterns; ignore_case = ignore_case };
              haystack = before ++ rest;
              span = whole_of (before ++ rest);
              end = length before;
              pattern = pattern_after ending given;
            }) found
        next_given = grind (arith, come_after, is_occurrence, not_before)

-- a text, cut in its end
cut_whole : (before rest : List ℕ) (k : ℕ) → (before ++ take k rest) ++ drop k rest ≡ before ++ rest
cut_whole before rest k = rw (append_assoc before (take k rest) (drop k rest), take-append-drop k rest) refl

-- a text, cut in a part
pub cut_at : (before part more : List ℕ) (k : ℕ)
    → (before ++ take k part) ++ (drop k part ++ more) ≡ before ++ (part ++ more)
cut_at before part more k =
    rw (
      append_assoc before (take k part) (drop k part ++ more),
      ← append_assoc (take k part) (drop k part) more,
      take-append-drop k part,
    ) refl

-- a part that was walked through
module _ (patterns : List (List ℕ)) (ignore_case : Bool) (before part more : List ℕ) (count : ℕ)
    (within : count ≤ length part)
  where
    cut_long : (k : ℕ) → k ≤ length part → length (before ++ take k part) ≡ length before + k
    cut_long k inside = grind (arith, length-append, length-take-le)

    module _ (ending : List ℕ) (at : AreAtEnd patterns ignore_case before (whole_of before) ending)
        (none : (k : ℕ) → 0 < k → k < count → (i : ℕ)
        → ¬ OccursAtEnd patterns ignore_case (before ++ take k part) (whole_of (before ++ take k part)) i)
      where
        abbrev text : List ℕ
        text = before ++ (part ++ more)

        abbrev pub here : ℕ → ℕ → OverlappingMatchesValue
        here end pattern = record {
          search = record { patterns = patterns; ignore_case = ignore_case };
          haystack = text;
          span = whole_of text;
          end = end;
          pattern = pattern;
        }

        ends_later : (found : MatchValue) → IsToCome (here (length before) (pattern_after ending (length ending))) found
            → length before + count ≤ found.end
        ends_later found is = elim (cases_lt found.end (length before + count)) [
          | inr later ↦ later
          | inl earlier ↦
              elim (cases_lt (length before) found.end) [
                | inr at_first ↦
                    absurd (all_given patterns ignore_case before (part ++ more) ending at found is.occurrence
                    (grind arith) (grind arith))
                | inl inside ↦
                    let k = found.end - length before in
                    let long = cut_long k (omega (arith, within)) in
                    absurd (none k (omega arith) (omega arith) found.pattern
                    (ends_beginning patterns ignore_case (before ++ take k part) (drop k part ++ more) found
                    (subst (λ (l : List ℕ). IsOccurrence patterns ignore_case l (whole_of l) found) (sym (cut_at before
                    part more k))
                    is.occurrence) (omega arith)))
              ]
        ]

        pub same_after : 0 < count
            → HaveSameToCome (here (length before) (pattern_after ending (length ending)))
            (here (length before + count) 0)
        same_after some found = grind (arith, ends_later)

-- a search that reads on where nothing is held, and walks through a part of what is held then
pub comes_further : (old new : OverlappingStreamValue) (piece ending : List ℕ) (count : ℕ)
    → ReadsOn old.unread old.failure piece new.unread new.failure → (piece ≡ []) ⊎ (old.held ≡ [])
    → 0 < count → count ≤ length (old.held ++ piece) → old.pattern ≡ pattern_after ending (length ending)
    → ((text : List ℕ) → IsStateAfter old.tables text old.state
    → AreAtEnd old.tables.patterns old.tables.ignore_case text (whole_of text) ending)
    → ((text : List ℕ) → IsStateAfter old.tables text old.state
    → IsStateAfter old.tables (text ++ take count (old.held ++ piece)) new.state)
    → ((text : List ℕ) → IsStateAfter old.tables text old.state → (k : ℕ) → 0 < k → k < count → (i : ℕ)
    → ¬ EndsText old.tables (text ++ take k (old.held ++ piece)) i)
    → new ≡ record old {
      state = new.state;
      offset = old.offset + count;
      pattern = 0;
      held = drop count (old.held ++ piece);
      unread = new.unread;
      failure = new.failure;
    }
    → HasCome old new
comes_further old new piece ending count reads needed some within pattern_is listed leads none is =
    let offset_is : new.offset ≡ old.offset + count = ap (λ (m : OverlappingStreamValue). m.offset) is in
    let pattern_new : new.pattern ≡ 0 = ap (λ (m : OverlappingStreamValue). m.pattern) is in
    let tables_are : new.tables ≡ old.tables = ap (λ (m : OverlappingStreamValue). m.tables) is in
    let by : new.offset - old.offset ≡ count = omega arith in
    let part = old.held ++ piece in
    record {
      piece = piece;
      reads = record { reads = reads; needed = grind arith };
      later = omega arith;
      within = omega arith;
      goes_on = grind arith;
      leads = λ before may. grind (arith, length-append, length-take-le);
      same_to_come = λ before more may.
          let same = same_after old.tables.patterns old.tables.ignore_case before part more count within ending
          (listed before may.after) (none before may.after) some in
          let long = may.long in
          grind arith;
    }

-- a search that could not read on
pub comes_no_further : (old new : OverlappingStreamValue) (piece : List ℕ)
    → ReadsOn old.unread old.failure piece new.unread new.failure → piece ≡ []
    → new ≡ record old { unread = new.unread; failure = new.failure } → HasCome old new
comes_no_further old new piece reads none is = grind (arith, append-nil)

-- a search that has not gone on
pub comes_nowhere : (m : OverlappingStreamValue) → HasCome m m
comes_nowhere m = grind (arith, Consumes-nil, append-nil)

-- once reading has failed it stays so
reads_more : (first second : Option (List ℕ)) (unread : Option (List ℕ)) (failure was is : Option ErrorKind)
    (piece more : List ℕ) → ReadsOn unread failure piece first was → ReadsOn first was more second is
    → ReadsOn unread failure (piece ++ more) second is
reads_more first second unread failure was is piece more one other = grind (arith, Consumes-trans, common_steps)

dropped_on : (bytes : List ℕ) (first second both : ℕ) → both ≡ first + second
    → drop both bytes ≡ drop second (drop first bytes)
dropped_on bytes first second both is = grind (arith, drop-drop)

-- nothing is read as long as something ends in what is held
needed_both : (piece more : List ℕ) (held at held_then at_last : ℕ) → (piece ≡ []) ⊎ (held < at)
    → (more ≡ []) ⊎ (held_then < at_last) → held ≤ held_then → at ≤ at_last
    → (piece ++ more ≡ []) ⊎ (held < at_last)
needed_both piece more held at held_then at_last one other further later = grind (arith, append-nil)

-- two values with the same fields
value_is : (old new : OverlappingStreamValue) (held : List ℕ) → new.tables ≡ old.tables → new.held ≡ held
    → new.is_over ≡ old.is_over → new ≡ record old {
      state = new.state;
      offset = new.offset;
      pattern = new.pattern;
      held = held;
      unread = new.unread;
      failure = new.failure;
    }
value_is old new held tables_are held_is over_is = grind arith

module _ (a b c : OverlappingStreamValue) (one : HasCome a b) (two : HasCome b c) where
  abbrev seen : List ℕ
  seen = a.held ++ one.piece

  abbrev first_part : ℕ
  first_part = b.offset - a.offset

  abbrev second_part : ℕ
  second_part = c.offset - b.offset

  both_parts : c.offset - a.offset ≡ first_part + second_part
  both_parts = omega (arith, one.later, two.later)

  seen_both : a.held ++ (one.piece ++ two.piece) ≡ seen ++ two.piece
  seen_both = sym (append_assoc a.held one.piece two.piece)

  rest_both : drop first_part (seen ++ two.piece) ≡ b.held ++ two.piece
  rest_both = grind (arith, drop-append-le)

  taken_both : take (c.offset - a.offset) (seen ++ two.piece)
      ≡ take first_part seen ++ take second_part (b.held ++ two.piece)
  taken_both = grind (arith, both_parts, rest_both, take-add, take-append-le)

  dropped_both : drop (c.offset - a.offset) (seen ++ two.piece) ≡ drop second_part (b.held ++ two.piece)
  dropped_both = grind (arith, both_parts, dropped_on, rest_both)

  -- the texts in which it was and is
  first_text : (before more : List ℕ) → before ++ (seen ++ (two.piece ++ more))
      ≡ before ++ ((a.held ++ (one.piece ++ two.piece)) ++ more)
  first_text before more = grind (arith, append_assoc, seen_both)

  second_text : (before more : List ℕ) → (before ++ take first_part seen) ++ ((b.held ++ two.piece) ++ more)
      ≡ before ++ ((a.held ++ (one.piece ++ two.piece)) ++ more)
  second_text before more = grind (arith, common_steps, cut_at, rest_both, seen_both, take-append-le)

  taken_text : (before : List ℕ) → (before ++ take first_part seen) ++ take second_part (b.held ++ two.piece)
      ≡ before ++ take (c.offset - a.offset) (a.held ++ (one.piece ++ two.piece))
  taken_text before = grind (arith, append_assoc, seen_both, taken_both)

  long_b : b.offset + length b.held ≡ a.offset + length seen
  long_b = grind (arith, length-drop)

  -- a search that goes on, and on again
  pub comes_on : HasCome a c
  comes_on =
      let long_seen = length-append a.held one.piece in
      let long_more = length-append b.held two.piece in
      let long_all = ap length seen_both ∙ length-append seen two.piece in
      record {
        piece = one.piece ++ two.piece;
        reads = record {
          reads = reads_more b.unread c.unread a.unread a.failure b.failure c.failure one.piece two.piece
              one.reads.reads two.reads.reads;
          needed = grind (arith, long_b, needed_both);
        };
        later = omega (arith, one.later, two.later);
        within = omega (arith, two.within, long_b, long_more, long_all, one.later, two.later);
        goes_on = grind (arith, dropped_both, seen_both, value_is);
        leads = λ before may. subst (MayComeBefore c) (taken_text before)
            (two.leads (before ++ take first_part seen) (one.leads before may));
        same_to_come = λ before more may found.
            let x = subst (λ (t : List ℕ). HaveSameToCome (search_within a t) (search_within b t))
            (first_text before more) (one.same_to_come before (two.piece ++ more) may) in
            let y = subst (λ (t : List ℕ). HaveSameToCome (search_within b t) (search_within c t))
            (second_text before more)
            (two.same_to_come (before ++ take first_part seen) more (one.leads before may)) in
            (λ is. (y found).0 ((x found).0 is), λ is. (x found).1 ((y found).1 is));
      }

-- the answers of a search that has come to a place
module _ (old now : OverlappingStreamValue) (come : HasCome old now) (ending : List ℕ)
    (listed : (before : List ℕ) → IsStateAfter now.tables before now.state
    → AreAtEnd now.tables.patterns now.tables.ignore_case before (whole_of before) ending)
  where
    abbrev bytes : List ℕ
    bytes = old.held ++ come.piece

    abbrev passed : ℕ
    passed = now.offset - old.offset

    abbrev upto : List ℕ → List ℕ
    upto before = before ++ take passed bytes

    -- the text is the same, cut here
    here_text : (before more : List ℕ) → upto before ++ (now.held ++ more) ≡ before ++ (bytes ++ more)
    here_text before more =
        let held_is = ap (λ (m : OverlappingStreamValue). m.held) come.goes_on in
        let rest : drop passed (bytes ++ more) ≡ now.held ++ more = grind (arith, drop-append-le) in
        ap (λ l. upto before ++ l) (sym rest)
        ∙ (ap (λ l. (before ++ l) ++ drop passed (bytes ++ more)) (sym (take-append-le passed bytes more come.within))
        ∙ cut_whole before (bytes ++ more) passed)

    pub gives_first : (given : ℕ) (found : MatchValue) (new : OverlappingStreamValue) (text : List ℕ)
        → MayComeBefore old text → given < length ending
        → now.pattern ≡ pattern_after ending given → found.pattern ≡ get_or ending given 0
        → found.end ≡ now.offset → found.start + length (pattern_at now.tables.patterns found.pattern) ≡ now.offset
        → now.offset < 2 ^ 64 → new ≡ record now { pattern = found.pattern + 1 } → GoesToEnd old found new
    gives_first given found new text may_come left pattern_is found_is end_is start_is fits is =
        let next : (before more : List ℕ) → MayComeBefore old before
        → IsNextToCome (search_within old (before ++ (bytes ++ more))) found = λ before more may.
        let there = come.leads before may in
        let long = there.long in
        let next = next_given now.tables.patterns now.tables.ignore_case (upto before) (now.held ++ more) ending
        (listed (upto before) there.after) given left found found_is (omega (arith, end_is, long))
        (omega (arith, start_is, long)) in
        next_moved (search_within old (before ++ (bytes ++ more))) (search_within now (before ++ (bytes ++ more)))
        found (come.same_to_come before more may)
        (subst (λ (t : List ℕ). IsNextToCome (search_within now t) found) (here_text before more) (grind arith)) in
        let is_to_come = (next text [] may_come).to_come in
        record {
          piece = come.piece;
          reads = record { reads = grind arith; needed = grind arith };
          is_pattern = is_to_come.occurrence.occurs.is_pattern;
          ordered = is_to_come.after;
          within = omega (arith, come.within, end_is);
          fits = omega (arith, fits, end_is);
          next = next;
          leads = λ before may. grind arith;
          goes_on = grind arith;
        }

    -- where the list has no more, what is to come ends further on
    module _ (pattern_is : now.pattern ≡ pattern_after ending (length ending)) where
      ends_further : (before more : List ℕ) → MayComeBefore old before → (found : MatchValue)
          → IsToCome (search_within old (before ++ (bytes ++ more))) found → now.offset < found.end
      ends_further before more may found is =
          let there = come.leads before may in
          let here = (come.same_to_come before more may found).0 is in
          let given = all_given now.tables.patterns now.tables.ignore_case (upto before) (now.held ++ more) ending
          (listed (upto before) there.after) found
          (subst (λ (t : List ℕ). IsOccurrence now.tables.patterns now.tables.ignore_case t (whole_of t) found)
          (sym (here_text before more)) here.occurrence) in
          let long = there.long in
          elim here.after [ inl later ↦ later | inr at ↦ absurd (given (omega arith) (omega arith)) ]

      module _ (empty : now.held ≡ []) (new : OverlappingStreamValue) (is : new ≡ record now { is_over = true }) where
        all_passed : now.offset ≡ old.offset + length bytes
        all_passed =
            let held_is = ap (λ (m : OverlappingStreamValue). length m.held) come.goes_on in
            let none = ap length empty in
            omega (arith, held_is, none, length-drop passed bytes, come.later, come.within)

        past_all : IsPastAll old come.piece new
        past_all = let at = all_passed in record { reads = grind arith; over = grind arith }

        pub ends_here : IsAtEnd now.unread → now.failure ≡ None → EndsAfterAll old new
        ends_here end none = record {
          piece = come.piece;
          past = past_all;
          end = grind arith;
          no_failure = grind arith;
          nothing = λ before may found to_come.
              let same : before ++ (bytes ++ []) ≡ before ++ bytes = ap (λ l. before ++ l) (append-nil bytes) in
              let further = ends_further before [] may found
              (subst (λ (t : List ℕ). IsToCome (search_within old t) found) (sym same) to_come) in
              let within = to_come.occurrence.occurs.before_end in
              let whole = to_come.occurrence.whole in
              omega (arith, further, within, whole, may.long, all_passed, length-append before bytes);
        }

        pub fails_here : (error : Error) → now.failure ≡ Some (error_kind error) → FailsAfterAll old error new
        fails_here error failed = grind (arith, ends_further, past_all)

-- each occurrence that is given takes of what is left
takes_one : (most patterns offset pattern end found : ℕ) → end ≤ most → found < patterns
    → IsNotBefore end found offset pattern
    → ((most - end) * patterns + (patterns - (found + 1))) + 1 < ((most - offset) * patterns + (patterns - pattern)) + 1
takes_one most patterns offset pattern end found within is_pattern ordered = search (rules, mul-le-mul_right)

-- so it comes to its end
pub progresses : (old : OverlappingStreamValue) (answer : Option (Result MatchValue Error))
    (new : OverlappingStreamValue) → GivesInStream old answer new
    → MakesProgress (λ (m : OverlappingStreamValue). Unit) most_in_stream old answer new
progresses old answer new gives = grind (arith, takes_one)
