-- Lines that are passed over. For `passed`, `device` and `scan`.
use Rattle.std.proofs.Common.{◌≡◌, ◌≢◌, ◌⊎◌, ◌+◌, ◌-◌, ◌<◌, ◌≤◌, ◌^◌, ◌==◌, ℕ, Bool, List, [], ◌∷◌, ◌++◌}
use Rattle.std.proofs.Common.{None, Option, Some, false, get_or, length, take-append-drop, true}
use Rattle.std.proofs.KnownBytes.{Appends-kept, Appends-nil, Appends-trans, Consumes-trans}
use Rattle.std.proofs.lemmas.Bool.{cases_Bool, cases_lt}
use Rattle.std.proofs.Common.{append-nil, append_assoc, ap, arith, cond, drop, inl, inr, length-append, refl}
use Rattle.std.proofs.Common.{slice_range, subst, sym, take, ◌∙◌}
use Rattle.std.proofs.lemmas.Bool.{cond-false, cond-true, eq-eqb, ne_eqb}
use Rattle.std.proofs.lemmas.List.{drop-append-le, flat_map_more, get_or-drop}
use Rattle.std.proofs.lemmas.List.{get_or-take, get_or_default, length-drop, length-take, length-take-le, length_push}
use Rattle.std.proofs.lemmas.List.{take_more}
use Rattle.std.proofs.lemmas.List.{drop-take, take-take}
use Rattle.std.proofs.lemmas.List.{take-append-le}
use Rattle.std.proofs.lemmas.List.Elements.{All-append, All-cons, All-head, All-nil, All-push, All-tail}
use Rattle.std.proofs.lemmas.List.Sums.{count_by-le-length, sum_by-append, sum_by-cons, sum_by-take-le}
use Rattle.std.proofs.Math.Seq.{drop-append-add, drop-append_seam, take-add, take-append-add, take-append_seam}
use Rattle.std.proofs.lemmas.Grind.{flat_map-append}
use Rattle.std.specs.Io.KnownBytes.{Appends, Consumes, IsAtEnd, Keeps}
use Rattle.std.specs.List.{All, count_by, flat_map}
use Rattle.literal_base.specs.Occurs.{Occurs, case_folded, pattern_at, whole_of}
use Rattle.literal_base.specs.MatchValue.{MatchValue}
use Rattle.literal_search.specs.SearchValue.{SearchValue}
use Rattle.litscan.specs.Lines.{HasNoEnd, lines_of, with_end}
use Rattle.litscan.specs.Inside.Groups.{IsWell, PassesAhead}
use Rattle.litscan.specs.declared.context.Context.{Context}
use Rattle.litscan.specs.Inside.Passed.{ArePassed, HasNoMatch, HasNoWord, HasWord, IsAhead, LiesInLine, Takes}
use Rattle.litscan.specs.Inside.Passed.{PassesOthers, TakesLines, len_of, len_with, lines_read, next_of, printed_each}
use Rattle.litscan.specs.Inside.Passed.{prints_others}
use Rattle.litscan.specs.declared.buffered.Ahead.{Ahead}
use Rattle.litscan.specs.Options.{is_enough, is_silent, limit_of}
use Rattle.litscan.specs.Printed.{PrintsUnlessSilent, Reads, StopsAtEnough, are_enough, counts}
use Rattle.litscan.specs.declared.options.Options.{Options}
use Rattle.litscan.specs.declared.passed.Passed.{Passed}
use Rattle.litscan.specs.declared.selected.Scanned.{Scanned}
use Rattle.std.specs.Option.{IfSome, IsSome, OnSome}
use Rattle.std.specs.declared.io.ErrorKind.{ErrorKind}
use Rattle.litscan.proofs.lemmas.Lines.{Other, lines_of-feeds, lines_of-split}
use Rattle.litscan.proofs.lemmas.Others.{no_match, others_counted, others_printed}
use Rattle.litscan.proofs.lemmas.Over.{passes_none}
use Rattle.litscan.proofs.lemmas.Printing.{count-append, length-feeds, length-feeds_push, prints_more, prints_none}
use Rattle.litscan.proofs.lemmas.Reading.{length-feeds_most, length-lines_read, read_all, read_more, reads_any}
use Rattle.litscan.proofs.lemmas.Reading.{reads_front, stops_later}
use Rattle.litscan.proofs.lemmas.Whole.{Makes, ends_front, made, makes_lines}

module _ (line_end : ℕ) where
  abbrev pub is_end : ℕ → Bool
  is_end byte = byte == line_end

  one_feed : (line : List ℕ) → HasNoEnd line_end line → count_by is_end (with_end line_end line) ≡ 1
  one_feed [] whole =
      let one = cond-true {A = ℕ} (is_end line_end) 1 0 (eq-eqb line_end line_end refl) in
      omega (arith, one, sum_by-cons (λ b. cond {A = ℕ} (is_end b) 1 0) line_end [])
  one_feed (byte ∷ more) whole =
      let none = cond-false {A = ℕ} (is_end byte) 1 0
      (ne_eqb byte line_end (All-head (Other line_end) byte more whole)) in
      let rest = one_feed more (All-tail (Other line_end) byte more whole) in
      omega (arith, none, rest, sum_by-cons (λ b. cond (is_end b) 1 0) byte (with_end line_end more))

  -- it has as many ends as there are lines
  pub feeds_of_lines : (lines : List (List ℕ)) → All (HasNoEnd line_end) lines
      → count_by is_end (flat_map (with_end line_end) lines) ≡ length lines
  feeds_of_lines [] whole = refl
  feeds_of_lines (line ∷ more) whole =
      let first = one_feed line (All-head (HasNoEnd line_end) line more whole) in
      let rest = feeds_of_lines more (All-tail (HasNoEnd line_end) line more whole) in
      let both = sum_by-append (λ b. cond (is_end b) 1 0) (with_end line_end line)
      (flat_map (with_end line_end) more) in
      omega (arith, first, rest, both)

  same_in_part : (front part back : List ℕ) (at n : ℕ) → at + n ≤ length part
      → slice_range (front ++ (part ++ back)) (length front + at) (length front + at + n) ≡ slice_range part at (at + n)
  same_in_part front part back at n fits =
      let left : length front + at + n - (length front + at) ≡ n = omega arith in
      let left_in : at + n - at ≡ n = omega arith in
      ap (λ l. take (length front + at + n - (length front + at)) l) (drop-append-add front (part ++ back) at
      ∙ drop-append-le at part back (omega (arith, fits)))
      ∙ ap (λ k. take k (drop at part ++ back)) left
      ∙ take-append-le n (drop at part) back (omega (arith, fits, length-drop at part))
      ∙ ap (λ k. take k (drop at part)) (sym left_in)

  -- the line behind the front of a text
  pub line_behind : (bytes front line : List ℕ) (start len : ℕ) → start ≡ length front → len ≡ length line
      → take (start + len + 1) bytes ≡ front ++ with_end line_end line → slice_range bytes start (start + len) ≡ line
  line_behind bytes front line start len start_is len_is is =
      let n : start + len - start ≡ len = omega arith in
      let all : start + len + 1 ≡ start + (len + 1) = omega arith in
      let rest : take (len + 1) (drop start bytes) ≡ with_end line_end line =
      sym (drop-take start (len + 1) bytes) ∙ ap (λ k. drop start (take k bytes)) (sym all) ∙ ap (drop start) is
      ∙ ap (λ k. drop k (front ++ with_end line_end line)) start_is ∙ drop-append_seam front (with_end line_end line) in
      ap (λ k. take k (drop start bytes)) n ∙ sym (take-take len (len + 1) (drop start bytes) (omega arith))
      ∙ ap (take len) rest ∙ ap (λ k. take k (with_end line_end line)) len_is ∙ take-append_seam line (line_end ∷ [])

  -- so what is taken with a line is taken with a copy of it
  pub takes_copy : (search : SearchValue) (options : Options) (bytes : List ℕ) (passed : Passed) (copy : List ℕ)
      (len : ℕ)
      → passed.next ≡ Some len → copy ≡ slice_range bytes passed.bytes (passed.bytes + len)
      → (ahead : IsAhead line_end search options bytes passed)
      → Takes line_end search options passed copy (take (len_of passed) bytes)
  takes_copy search options bytes passed copy len is copied ahead =
      subst (λ l. Takes line_end search options passed l (take (len_of passed) bytes)) (sym (copied ∙ same)) ahead.1
    where
      same : slice_range bytes passed.bytes (passed.bytes + len) ≡ ahead.0
      same =
          let taken = ahead.1 in
          let word = subst (λ o. IfSome o
          (λ n. (n ≡ length ahead.0) × HasNoEnd line_end ahead.0
          × (options.whole ≡ false → HasWord search ahead.0))) is
          taken.next in
          line_behind bytes (flat_map (with_end line_end) taken.lines) ahead.0 passed.bytes len taken.bytes word.0
          (subst (λ o. take (len_with passed.bytes o) bytes
          ≡ flat_map (with_end line_end) taken.lines ++ next_of line_end o ahead.0) is
          taken.text_is)

  module _ (search : SearchValue) where
    abbrev pub OccursIn : List ℕ → ℕ → ℕ → Type 0
    OccursIn text i at = Occurs search.query.patterns search.ignore_case text (whole_of text) i at

    -- what occurs in a part of a text occurs in the text
    occurs_in_part : (front part back : List ℕ) (i at : ℕ) → OccursIn part i at
        → OccursIn (front ++ (part ++ back)) i (length front + at)
    occurs_in_part front part back i at occurs =
        let n = length (pattern_at search.query.patterns i) in
        let fits : at + n ≤ length part = occurs.before_end in
        let long = length-append front (part ++ back) ∙ ap (λ k. length front + k) (length-append part back) in
        record {
          is_pattern = occurs.is_pattern;
          after_start = omega arith;
          before_end = omega (arith, long, fits);
          same = ap (case_folded search.ignore_case) (same_in_part front part back at n fits) ∙ occurs.same;
        }

    -- and the other way round, if it lies in the part
    pub occurs_of_part : (front part back : List ℕ) (i at : ℕ)
        → OccursIn (front ++ (part ++ back)) i (length front + at)
        → at + length (pattern_at search.query.patterns i) ≤ length part → OccursIn part i at
    occurs_of_part front part back i at occurs fits = record {
      is_pattern = occurs.is_pattern;
      after_start = omega arith;
      before_end = fits;
      same = ap (case_folded search.ignore_case)
          (sym (same_in_part front part back at (length (pattern_at search.query.patterns i)) fits)) ∙ occurs.same;
    }

    -- where nothing begins in a text before a place, nothing occurs in lines that end before it
    pub none_in_lines : (front : List ℕ) (lines : List (List ℕ)) (back : List ℕ) (place : ℕ)
        → ((i at : ℕ) → at < place → ¬ OccursIn (front ++ (flat_map (with_end line_end) lines ++ back)) i at)
        → length front + length (flat_map (with_end line_end) lines) ≤ place
        → All (HasNoWord search) lines
    none_in_lines front [] back place none inside =
        All-nil (HasNoWord search)
    none_in_lines front (line ∷ more) back place none inside =
        let rest = flat_map (with_end line_end) more ++ back in
        let first : (with_end line_end line ++ flat_map (with_end line_end) more) ++ back ≡ line ++ (line_end ∷ rest) =
        append_assoc (with_end line_end line) (flat_map (with_end line_end) more) back
        ∙ append_assoc line (line_end ∷ []) rest in
        let behind : front ++ ((with_end line_end line ++ flat_map (with_end line_end) more) ++ back)
        ≡ (front ++ with_end line_end line) ++ rest =
        ap (λ l. front ++ l) (append_assoc (with_end line_end line) (flat_map (with_end line_end) more) back)
        ∙ sym (append_assoc front (with_end line_end line) rest) in
        let size = length-append (with_end line_end line) (flat_map (with_end line_end) more) in
        let line_size = length-append line (line_end ∷ []) in
        All-cons (HasNoWord search) line more
        (λ i at occurs. none i (length front + at) (omega (arith, inside, size, line_size, occurs.before_end))
        (subst (λ l. OccursIn (front ++ l) i (length front + at)) (sym first)
        (occurs_in_part front line (line_end ∷ rest) i at occurs)))
        (none_in_lines (front ++ with_end line_end line) more back place
        (λ i at below. subst (λ l. ¬ OccursIn l i at) behind (none i at below))
        (omega (arith, inside, size, length-append front (with_end line_end line))))

    module _ (options : Options) (bytes : List ℕ) (end place lines : ℕ) (before : end ≤ place)
        (inside : place ≤ length bytes)
        (feed : (end ≡ 0) ⊎ ((0 < end) × (get_or bytes (end - 1) 0 ≡ line_end)))
        (none : (i at : ℕ) → at < place → ¬ OccursIn bytes i at) (count : lines ≡ count_by is_end (take end bytes))
      where
        size : length (take end bytes) ≡ end
        size = length-take-le end bytes (omega (arith, before, inside))

        -- the lines up to an end of a line before an offset, if no match begins before that offset
        abbrev all : List (List ℕ)
        all = lines_of line_end (take end bytes)

        makes : Makes line_end (take end bytes) all
        makes = made line_end (take end bytes) (ends_front line_end bytes end (omega (arith, before, inside)) feed)

        are : ArePassed line_end search options all
        are =
            let same : flat_map (with_end line_end) all ++ drop end bytes ≡ bytes =
            ap (λ l. l ++ drop end bytes) (sym makes.are) ∙ take-append-drop end bytes in
            record {
              whole = makes.whole;
              none = λ k d below. no_match search options (get_or all k d)
                  (none_in_lines [] all (drop end bytes) place
                  (λ i at under. subst (λ l. ¬ OccursIn l i at) (sym same) (none i at under))
                  (omega (arith, size, before, ap (λ (l : List ℕ). length l) makes.are)) k d below);
            }

        taken : (line : List ℕ) (next : Option ℕ)
            → IfSome next (λ len. (len ≡ length line) × HasNoEnd line_end line
            × (options.whole ≡ false → HasWord search line)) → (text : List ℕ)
            → text ≡ take end bytes ++ next_of line_end next line
            → Takes line_end search options (record { lines = lines; bytes = end; next = next }) line text
        taken line next word text is = record {
          lines = all;
          are = are;
          count = count ∙ ap (count_by is_end) makes.are ∙ feeds_of_lines all makes.whole;
          bytes = sym size ∙ ap (λ (l : List ℕ). length l) makes.are;
          next = word;
          text_is = is ∙ ap (λ l. l ++ next_of line_end next line) makes.are;
        }

        -- are taken alone
        pub takes_lines : IsAhead line_end search options bytes (record { lines = lines; bytes = end; next = None })
        takes_lines = ([], taken [] None tt _ (sym (append-nil (take end bytes))), omega (arith, before, inside))

        -- and with the line of the match there, if it is whole
        pub takes_line : (found : MatchValue) (len : ℕ) → place ≡ found.start → OccursIn bytes found.pattern found.start
            → found.end ≡ found.start + length (pattern_at search.query.patterns found.pattern)
            → LiesInLine line_end bytes end found len
            → IsAhead line_end search options bytes (record { lines = lines; bytes = end; next = Some len })
        takes_line found len is occurs whole lies = (
          line,
          taken line (Some len) (sym long, no_feed, λ part. (found.pattern, found.start - end, word)) _ text_is,
          omega (arith, lies.fed),
        )
          where
            rest : List ℕ
            rest = drop end bytes

            line : List ℕ
            line = take len rest

            long : length line ≡ len
            long = length-take-le len rest (omega (arith, lies.fed, length-drop end bytes))

            text_is : take (end + len + 1) bytes ≡ take end bytes ++ with_end line_end line
            text_is =
                take_more bytes (end + len) 0 lies.fed ∙ ap (λ b. take (end + len) bytes ++ b ∷ []) lies.feed
                ∙ ap (λ l. l ++ line_end ∷ []) (take-add end len bytes)
                ∙ append_assoc (take end bytes) line (line_end ∷ [])

            no_feed : HasNoEnd line_end line
            no_feed k d below =
                let inside : k < len = omega (arith, below, long) in
                subst (λ b. b ≢ line_end)
                (sym (get_or-take len rest k d inside ∙ get_or-drop end bytes k d
                ∙ get_or_default bytes (end + k) d 0 (omega (arith, inside, lies.fed))))
                (lies.whole (end + k) (omega arith) (omega (arith, inside)))

            same : take end bytes ++ (line ++ drop len rest) ≡ bytes
            same = ap (λ l. take end bytes ++ l) (take-append-drop len rest) ∙ take-append-drop end bytes

            word : OccursIn line found.pattern (found.start - end)
            word =
                let at : found.start ≡ length (take end bytes) + (found.start - end) =
                omega (arith, size, before, is) in
                occurs_of_part (take end bytes) line (drop len rest) found.pattern (found.start - end)
                (subst (λ l. OccursIn l found.pattern (length (take end bytes) + (found.start - end))) (sym same)
                (subst (λ n. OccursIn bytes found.pattern n) at occurs))
                (omega (arith, lies.inside, whole, long, before, is))

-- what is not enough is not enough with no more lines
stops_nowhere : (limit : Option ℕ) (before more : ℕ) → more ≡ 0 → is_enough limit before ≡ false
    → is_enough limit (before + more) ≡ false
stops_nowhere limit before more none not_yet =
    let same : before + more ≡ before = omega (arith, none) in
    ap (λ n. is_enough limit n) same ∙ not_yet

-- lines are handled one after another until enough are selected
stops_behind : (limit : Option ℕ) (test : List ℕ → Bool) (seen more : List (List ℕ)) (count : ℕ)
    → count ≡ count_by test seen → StopsAtEnough limit test seen
    → ((n : ℕ) → n < length more → is_enough limit (count + count_by test (take n more)) ≡ false)
    → StopsAtEnough limit test (seen ++ more)
stops_behind limit test seen more count counted before behind n below =
    let enough = λ (lines : List (List ℕ)). is_enough limit (count_by test lines) in
    elim (cases_lt n (length seen)) [
      | inl front ↦ ap enough (take-append-le n seen more (omega (arith, front))) ∙ before n front
      | inr later ↦
          let k = n - length seen in
          let place : n ≡ length seen + k = omega (arith, later) in
          let inside : k < length more = omega (arith, later, below, length-append seen more) in
          let both : count_by test (seen ++ take k more) ≡ count + count_by test (take k more) =
          omega (arith, counted, sum_by-append (λ line. cond {A = ℕ} (test line) 1 0) seen (take k more)) in
          ap enough (ap (λ m. take m (seen ++ more)) place ∙ take-append-add seen more k)
          ∙ ap (λ m. is_enough limit m) both ∙ behind k inside
    ]

-- where no byte was handled no line was
pub none_taken : {search : SearchValue} {options : Options} {name : List ℕ} {lines offset : ℕ} {ahead : Ahead}
    {text : List ℕ} {written now : Option (List ℕ)}
    → (takes : TakesLines search options name lines offset ahead text written now) → ahead.bytes ≡ 0
    → takes.taken ≡ []
none_taken {search} {options} takes none =
    by takes.taken (omega (arith, none, takes.bytes_are, ap (λ (l : List ℕ). length l) takes.text_is))
  where
    by : (taken : List (List ℕ)) → length (flat_map (with_end options.line_end) taken) ≡ 0 → taken ≡ []
    by [] is = refl
    by (line ∷ more) is = absurd (omega (arith, is, length-feeds options.line_end line more))

pub none_counted : {search : SearchValue} {options : Options} {name : List ℕ} {lines offset : ℕ} {ahead : Ahead}
    {text : List ℕ} {written now : Option (List ℕ)}
    → TakesLines search options name lines offset ahead text written now → ahead.bytes ≡ 0 → ahead.count ≡ 0
none_counted {search} {options} takes none =
    takes.counted ∙ ap (count_by (counts search options)) (none_taken takes none)

-- the front of a list looks as the list does
pub ahead_of_front : (line_end : ℕ) (search : SearchValue) (options : Options) (n : ℕ) (bytes : List ℕ)
    (passed : Passed)
    → IsAhead line_end search options (take n bytes) passed → IsAhead line_end search options bytes passed
ahead_of_front line_end search options n bytes passed ahead =
    let front = length-take n bytes in
    let within : len_of passed ≤ n = omega (arith, ahead.2, front) in (
      ahead.0,
      subst (Takes line_end search options passed ahead.0) (take-take (len_of passed) n bytes within) ahead.1,
      omega (arith, ahead.2, front),
    )

-- none was handled
pub nothing_taken : (search : SearchValue) (options : Options) (name : List ℕ) (lines offset : ℕ)
    (written : Option (List ℕ)) (ended : Bool) → offset < 2 ^ 64
    → TakesLines search options name lines offset
    (record { lines = 0; bytes = 0; count = 0; found = false; ended = ended }) [] written written
nothing_taken search options name lines offset written ended small = record {
  taken = [];
  whole = All-nil (HasNoEnd options.line_end);
  text_is = refl;
  lines_are = refl;
  bytes_are = refl;
  small = omega (arith, small);
  counted = refl;
  stops = λ n before not_yet below. absurd (omega (arith, below));
  out = [];
  writes = Appends-nil written;
  printed = prints_none search options name (is_silent options) (lines + 1) offset;
}

-- no line was passed over
pub passes_nothing : (search : SearchValue) (options : Options) (offset : ℕ) (context : Context) → offset < 2 ^ 64
    → IsWell options context
    → PassesAhead search options offset context context (record { lines = 0; bytes = 0; next = None }) []
passes_nothing search options offset context small well = record {
  are = record { whole = All-nil (HasNoEnd options.line_end); none = All-nil (HasNoMatch search options) };
  bytes = refl;
  small = omega (arith, small);
  unselected = λ some. absurd (omega (arith, some));
  over = passes_none options context well;
}

pub len_more : (bytes : ℕ) (next : Option ℕ) → bytes ≤ len_with bytes next
len_more bytes None = omega arith
len_more bytes (Some len) = omega arith

-- the lines without a word are the first bytes
pub front_of : {line_end : ℕ} {search : SearchValue} {options : Options} {line : List ℕ} {passed : Passed}
    (bytes : List ℕ)
    → (takes : Takes line_end search options passed line (take (len_of passed) bytes))
    → take passed.bytes bytes ≡ flat_map (with_end line_end) takes.lines
front_of {line_end} {search} {options} {line} {passed} bytes takes =
    let front = flat_map (with_end line_end) takes.lines in
    let all : take passed.bytes (take (len_of passed) bytes) ≡ front =
    ap (λ n. take n (take (len_of passed) bytes)) takes.bytes ∙ ap (take (length front)) takes.text_is
    ∙ take-append_seam front (next_of line_end passed.next line) in
    sym (take-take passed.bytes (len_of passed) bytes (len_more passed.bytes passed.next)) ∙ all

module _ (search : SearchValue) (options : Options) (name : List ℕ) (lines offset : ℕ) (bytes : List ℕ)
    (passed : Passed) (plain : PassesOthers options)
  where
    counted_front : {line text : List ℕ} → (takes : Takes options.line_end search options passed line text)
        → (others : ℕ)
        → others ≡ cond options.others passed.lines 0 → others ≡ count_by (counts search options) takes.lines
    counted_front takes others is =
        is ∙ ap (λ n. cond options.others n 0) takes.count
        ∙ sym (others_counted search options takes.lines takes.are.none)

    -- the lines without a word
    abbrev front : List (List ℕ)
    front = lines_of options.line_end (take passed.bytes bytes)

    -- what is printed of them
    abbrev shown : List ℕ
    shown = cond (prints_others options) (printed_each options name (lines + 1) offset front) []

    printed_front_lines : {line : List ℕ}
        → (takes : Takes options.line_end search options passed line (take (len_of passed) bytes))
        → PrintsUnlessSilent (is_silent options) search options name (lines + 1) offset takes.lines shown
    printed_front_lines takes =
        let are : front ≡ takes.lines =
        makes_lines options.line_end (record { whole = takes.are.whole; are = front_of bytes takes }) in
        subst (λ these. PrintsUnlessSilent (is_silent options) search options name (lines + 1) offset takes.lines
        (cond (prints_others options) (printed_each options name (lines + 1) offset these) [])) (sym are)
        (others_printed search options name takes.lines takes.are.none (lines + 1) offset)

    stops_front : {line text : List ℕ} → (takes : Takes options.line_end search options passed line text)
        → (n before : ℕ)
        → is_enough (limit_of options) before ≡ false
        → is_enough (limit_of options) (before + count_by (counts search options) (take n takes.lines)) ≡ false
    stops_front takes n before not_yet =
        elim (cases_Bool options.others) [
          | inl others ↦
              ap (λ limit. is_enough limit (before + count_by (counts search options) (take n takes.lines)))
              (plain others)
          | inr kept ↦
              let none = others_counted search options takes.lines takes.are.none
              ∙ cond-false options.others (length takes.lines) 0 kept in
              stops_nowhere (limit_of options) before _
              (omega (arith, none, sum_by-take-le (λ l. cond {A = ℕ} (counts search options l) 1 0) takes.lines n))
              not_yet
        ]

    -- there are no more lines than bytes, and the line behind them is there
    pub with_line : (len : ℕ) → passed.next ≡ Some len → IsAhead options.line_end search options bytes passed
        → (passed.lines ≤ passed.bytes) × (passed.bytes + len + 1 ≤ length bytes)
    with_line len is ahead = (
      omega (arith, ahead.1.count, ahead.1.bytes, length-feeds_most options.line_end ahead.1.lines),
      subst (λ next. len_with passed.bytes next ≤ length bytes) is ahead.2,
    )

    -- and a word is in the line behind them
    pub word_behind : (len : ℕ) → passed.next ≡ Some len
        → (ahead : IsAhead options.line_end search options bytes passed)
        → options.whole ≡ false → HasWord search (slice_range bytes passed.bytes (passed.bytes + len))
    word_behind len is ahead =
        let takes = takes_copy options.line_end search options bytes passed _ len is refl ahead in
        (subst (λ next. IfSome next (λ n. (n ≡ length (slice_range bytes passed.bytes (passed.bytes + len)))
        × HasNoEnd options.line_end (slice_range bytes passed.bytes (passed.bytes + len))
        × (options.whole ≡ false → HasWord search (slice_range bytes passed.bytes (passed.bytes + len))))) is
        takes.next).2

    -- lines without a word are handled
    pub lines_taken : (others : ℕ) → others ≡ cond options.others passed.lines 0 → (written now : Option (List ℕ))
        → Appends written now shown
        → offset + length bytes < 2 ^ 64 → passed.next ≡ None → IsAhead options.line_end search options bytes passed
        → TakesLines search options name lines offset
        (record { lines = passed.lines; bytes = passed.bytes; count = others; found = false; ended = false })
        (take passed.bytes bytes) written now
    lines_taken others others_are written now writes small is ahead =
        let takes = ahead.1 in
        let text_is = front_of bytes takes in
        let counted = counted_front takes others others_are in
        let inside = subst (λ next. len_with passed.bytes next ≤ length bytes) is ahead.2 in
        record {
          taken = takes.lines;
          whole = takes.are.whole;
          text_is = text_is;
          lines_are = takes.count;
          bytes_are = takes.bytes ∙ ap (λ (l : List ℕ). length l) (sym text_is);
          small = omega (arith, small, inside);
          counted = counted;
          stops = λ n before not_yet below. stops_front takes n before not_yet;
          out = shown;
          writes = writes;
          printed = printed_front_lines takes;
        }

    -- and the line behind them, of which this was printed
    pub line_taken : (others : ℕ) → others ≡ cond options.others passed.lines 0 → (written between : Option (List ℕ))
        → Appends written between shown
        → (len : ℕ) (line : List ℕ) → passed.next ≡ Some len
        → Takes options.line_end search options passed line (take (len_of passed) bytes)
        → (number start count : ℕ) → number ≡ lines + passed.lines + 1 → start ≡ offset + passed.bytes
        → offset + (passed.bytes + len + 1) < 2 ^ 64 → count ≡ count_by (counts search options) (line ∷ [])
        → (now : Option (List ℕ)) (out : List ℕ) → Appends between now out
        → PrintsUnlessSilent (is_silent options) search options name number start (line ∷ []) out
        → TakesLines search options name lines offset
        (record {
          lines = passed.lines + 1;
          bytes = passed.bytes + len + 1;
          count = others + count;
          found = true;
          ended = false;
        }) (take (passed.bytes + len + 1) bytes) written now
    line_taken others others_are written between before len line is takes number start count number_is start_is small
        counted now out writes printed =
        let these = takes.lines in
        let word = subst (λ next. IfSome next
        (λ n. (n ≡ length line) × HasNoEnd options.line_end line
        × (options.whole ≡ false → HasWord search line))) is takes.next in
        let text_is : take (passed.bytes + len + 1) bytes ≡ flat_map (with_end options.line_end) (these ++ line ∷ []) =
        ap (λ next. take (len_with passed.bytes next) bytes) (sym is) ∙ takes.text_is
        ∙ ap (λ next. flat_map (with_end options.line_end) these ++ next_of options.line_end next line) is
        ∙ flat_map_more (with_end options.line_end) [] these line in
        let size = length-feeds_push options.line_end these line in
        record {
          taken = these ++ line ∷ [];
          whole = All-push (HasNoEnd options.line_end) these line takes.are.whole word.1;
          text_is = text_is;
          lines_are = omega (arith, takes.count, length_push these line);
          bytes_are = omega (arith, takes.bytes, word.0, size, ap (λ (l : List ℕ). length l) text_is);
          small = small;
          counted = count-append (counts search options) these (line ∷ []) others count
              (counted_front takes others others_are) counted;
          stops = λ n before not_yet below.
              let few : n ≤ length these = omega (arith, below, length_push these line) in
              ap (λ l. is_enough (limit_of options) (before + count_by (counts search options) l))
              (take-append-le n these (line ∷ []) few) ∙ stops_front takes n before not_yet;
          out = shown ++ out;
          writes = Appends-trans written between now shown out before writes;
          printed = prints_more search options name (is_silent options) (lines + 1) offset number start these
              (line ∷ []) shown out (omega (arith, number_is, takes.count)) (omega (arith, start_is, takes.bytes))
              (printed_front_lines takes) printed;
        }

-- a scan has read these lines and printed this of them: so many count, so many they are, and so many bytes they have
pub record SoFar (search : SearchValue) (options : Options) (name : List ℕ) (old new : Option (List ℕ))
    (written now : Option (List ℕ)) (seen : List (List ℕ)) (out : List ℕ) (count lines offset : ℕ) : Type 0 where
  pub whole : All (HasNoEnd options.line_end) seen
  pub read : Consumes old new (flat_map (with_end options.line_end) seen)
  pub lines_are : lines ≡ length seen
  pub offset_is : offset ≡ length (flat_map (with_end options.line_end) seen)
  pub stops : StopsAtEnough (limit_of options) (counts search options) seen
  pub counted : count ≡ count_by (counts search options) seen
  pub written_are : Appends written now out
  pub printed : PrintsUnlessSilent (is_silent options) search options name 1 0 seen out

-- nothing was written since
pub kept_so_far : {search : SearchValue} {options : Options} {name : List ℕ} {old new written now : Option (List ℕ)}
    {seen : List (List ℕ)} {out : List ℕ} {count lines offset : ℕ}
    → SoFar search options name old new written now seen out count lines offset → (next : Option (List ℕ))
    → Keeps now next → SoFar search options name old new written next seen out count lines offset
kept_so_far {written = written} {now = now} {out = out} is next kept = record {
  whole = is.whole;
  read = is.read;
  lines_are = is.lines_are;
  offset_is = is.offset_is;
  stops = is.stops;
  counted = is.counted;
  written_are = Appends-kept written now next out is.written_are kept;
  printed = is.printed;
}

-- no more lines count than there are, and no more are there than bytes
pub few_so_far : {search : SearchValue} {options : Options} {name : List ℕ} {old new written now : Option (List ℕ)}
    {seen : List (List ℕ)} {out : List ℕ} {count lines offset : ℕ}
    → SoFar search options name old new written now seen out count lines offset → (count ≤ lines) × (lines ≤ offset)
few_so_far {search} {options} {seen = seen} is = (
  omega (arith, is.counted, is.lines_are, count_by-le-length (counts search options) seen),
  omega (arith, is.lines_are, is.offset_is, length-feeds_most options.line_end seen),
)

module _ {search : SearchValue} {options : Options} {name : List ℕ} {old new : Option (List ℕ)}
    {written now : Option (List ℕ)} {seen : List (List ℕ)} {out : List ℕ} {count lines offset : ℕ}
    (so_far : SoFar search options name old new written now seen out count lines offset)
    (not_yet : is_enough (limit_of options) count ≡ false)
  where
    not_enough : is_enough (limit_of options) (count_by (counts search options) seen) ≡ false
    not_enough = ap (λ n. is_enough (limit_of options) n) (sym so_far.counted) ∙ not_yet

    -- lines were handled where they are buffered
    pub taken_on : {ahead : Ahead} {text : List ℕ} {next there : Option (List ℕ)} → Consumes new next text
        → (takes : TakesLines search options name lines offset ahead text now there)
        → SoFar search options name old next written there (seen ++ takes.taken) (out ++ takes.out)
        (count + ahead.count) (lines + ahead.lines) (offset + ahead.bytes)
    taken_on {ahead} {text} {next} {there} read takes = record {
      whole = All-append (HasNoEnd options.line_end) seen takes.taken so_far.whole takes.whole;
      read = subst (Consumes old next) (sym (flat_map-append (with_end options.line_end) seen takes.taken))
          (Consumes-trans old new next _ _ so_far.read (subst (Consumes new next) takes.text_is read));
      lines_are = omega (arith, so_far.lines_are, takes.lines_are, length-append seen takes.taken);
      offset_is = omega (
        arith,
        so_far.offset_is,
        takes.bytes_are,
        ap (λ (l : List ℕ). length l) takes.text_is,
        length-append (flat_map (with_end options.line_end) seen) (flat_map (with_end options.line_end) takes.taken),
        ap (λ (l : List ℕ). length l) (flat_map-append (with_end options.line_end) seen takes.taken),
      );
      stops = stops_behind (limit_of options) (counts search options) seen takes.taken count so_far.counted
          so_far.stops (λ n below. takes.stops n count not_yet below);
      counted = count-append (counts search options) seen takes.taken count ahead.count so_far.counted takes.counted;
      written_are = Appends-trans written now there out takes.out so_far.written_are takes.writes;
      printed = prints_more search options name (is_silent options) 1 0 (lines + 1) offset seen takes.taken out
          takes.out (omega (arith, so_far.lines_are)) (omega (arith, so_far.offset_is)) so_far.printed takes.printed;
    }

    -- what was printed behind, of what was read behind: a line, or the end of the text
    pub printed_on : (line part : List ℕ) (fed : Bool) (number start : ℕ) → number ≡ lines + 1 → start ≡ offset
        → PrintsUnlessSilent (is_silent options) search options name number start (lines_read fed line) part
        → PrintsUnlessSilent (is_silent options) search options name 1 0 (seen ++ lines_read fed line) (out ++ part)
    printed_on line part fed number start number_is start_is printed =
        prints_more search options name (is_silent options) 1 0 number start seen (lines_read fed line) out part
        (omega (arith, number_is, so_far.lines_are)) (omega (arith, start_is, so_far.offset_is)) so_far.printed printed

    -- and so the scan stops where it has to
    pub stops_on : (line : List ℕ) (fed : Bool)
        → StopsAtEnough (limit_of options) (counts search options) (seen ++ lines_read fed line)
    stops_on line fed =
        stops_later (limit_of options) (counts search options) seen (lines_read fed line) (length-lines_read fed line)
        so_far.stops not_enough

    pub counted_on : (line : List ℕ) (fed : Bool) (taken : ℕ)
        → taken ≡ count_by (counts search options) (lines_read fed line)
        → count + taken ≡ count_by (counts search options) (seen ++ lines_read fed line)
    counted_on line fed taken is = count-append (counts search options) seen (lines_read fed line) count taken
        so_far.counted is

    -- one line more was read
    pub read_on : {next there : Option (List ℕ)} (line part : List ℕ) (fed : Bool) (number start behind taken : ℕ)
        → fed ≡ true → number ≡ lines + 1 → start ≡ offset → behind ≡ start + length line + 1
        → HasNoEnd options.line_end line
        → Consumes new next (cond fed (with_end options.line_end line) line) → Appends now there part
        → PrintsUnlessSilent (is_silent options) search options name number start (lines_read fed line) part
        → taken ≡ count_by (counts search options) (lines_read fed line)
        → SoFar search options name old next written there (seen ++ line ∷ []) (out ++ part) (count + taken) number
        behind
    read_on {next} {there} line part true number start behind taken is number_is start_is behind_is whole read append
        printed counted = record {
          whole = All-push (HasNoEnd options.line_end) seen line so_far.whole whole;
          read = read_more options.line_end old new next seen line true is so_far.read read;
          lines_are = omega (arith, number_is, so_far.lines_are, length_push seen line);
          offset_is = omega (arith, start_is, behind_is, so_far.offset_is, longer);
          stops = stops_on line true;
          counted = counted_on line true taken counted;
          written_are = Appends-trans written now there out part so_far.written_are append;
          printed = printed_on line part true number start number_is start_is printed;
        }
      where
        longer : length (flat_map (with_end options.line_end) (seen ++ line ∷ []))
            ≡ length (flat_map (with_end options.line_end) seen) + (length line + 1)
        longer =
            ap (λ (l : List _). length l) (sym (flat_map_more (with_end options.line_end) [] seen line))
            ∙ length-append (flat_map (with_end options.line_end) seen) (with_end options.line_end line)
            ∙ ap (λ n. length (flat_map (with_end options.line_end) seen) + n)
            (length-append line (options.line_end ∷ []))
    read_on line part false number start behind taken is number_is start_is behind_is whole read append printed
        counted =
        absurd (cc)

-- what a scan answers of a text that it read
abbrev pub Answers : SearchValue → Options → List ℕ → Option (List ℕ) → Option (List ℕ) → Option (List ℕ)
    → Option (List ℕ) → Scanned → Type 0
Answers search options name old new written now scanned =
    (text out : List ℕ) × Reads scanned.failure (are_enough options scanned) old new text
    × StopsAtEnough (limit_of options) (counts search options) (lines_of options.line_end text)
    × Appends written now out
    × PrintsUnlessSilent (is_silent options) search options name 1 0 (lines_of options.line_end text) out
    × (scanned.count ≡ count_by (counts search options) (lines_of options.line_end text))

module _ {search : SearchValue} {options : Options} {name : List ℕ} {old new : Option (List ℕ)}
    {written now : Option (List ℕ)} {seen : List (List ℕ)} {out : List ℕ} {count lines offset : ℕ}
    (so_far : SoFar search options name old new written now seen out count lines offset)
  where
    -- if that is what it has read so far
    pub scanned_so_far : (next : Option (List ℕ)) (failure : Option ErrorKind)
        → Reads failure (is_enough (limit_of options) count) old next (flat_map (with_end options.line_end) seen)
        → Answers search options name old next written now (record { count = count; failure = failure })
    scanned_so_far next failure reads =
        let are = sym (lines_of-feeds options.line_end seen so_far.whole) in (
          flat_map (with_end options.line_end) seen,
          out,
          reads,
          subst (StopsAtEnough (limit_of options) (counts search options)) are so_far.stops,
          so_far.written_are,
          subst (λ all. PrintsUnlessSilent (is_silent options) search options name 1 0 all out) are so_far.printed,
          so_far.counted ∙ ap (count_by (counts search options)) are,
        )

    -- and if a read failed behind it
    pub failed_so_far : (next : Option (List ℕ)) {failure : Option ErrorKind} (scanned : Scanned)
        → scanned ≡ record { count = count; failure = failure } → IsSome failure
        → Answers search options name old next written now scanned
    failed_so_far next {failure} scanned is failed =
        subst (Answers search options name old next written now) (sym is)
        (scanned_so_far next failure (reads_front failure (is_enough (limit_of options) count) old new next
        (flat_map (with_end options.line_end) seen)
        failed so_far.read))

    -- and after the last end of a line
    pub ended_so_far : is_enough (limit_of options) count ≡ false → (next there : Option (List ℕ)) (line part : List ℕ)
        → (fed : Bool) (number start taken : ℕ) → fed ≡ false → number ≡ lines + 1
        → start ≡ offset → HasNoEnd options.line_end line
        → Consumes new next (cond fed (with_end options.line_end line) line)
        → (fed ≡ false → OnSome new (IsAtEnd next)) → Appends now there part
        → PrintsUnlessSilent (is_silent options) search options name number start (lines_read fed line) part
        → taken ≡ count_by (counts search options) (lines_read fed line)
        → Answers search options name old next written there (record { count = count + taken; failure = None })
    ended_so_far not_yet next there line part true number start taken is number_is start_is whole read ended append
        printed counted =
        absurd (cc)
    ended_so_far not_yet next there line part false number start taken is number_is start_is whole read ended append
        printed counted =
        let are = sym (lines_of-split options.line_end seen line so_far.whole whole) in (
          flat_map (with_end options.line_end) seen ++ line,
          out ++ part,
          reads_any _ old next (flat_map (with_end options.line_end) seen ++ line)
              (read_all options.line_end old new next
              (flat_map (with_end options.line_end) seen) line false is so_far.read read ended),
          subst (StopsAtEnough (limit_of options) (counts search options)) are (stops_on so_far not_yet line false),
          Appends-trans written now there out part so_far.written_are append,
          subst (λ all. PrintsUnlessSilent (is_silent options) search options name 1 0 all (out ++ part)) are
              (printed_on so_far not_yet line part false number start number_is start_is printed),
          counted_on so_far not_yet line false taken counted ∙ ap (count_by (counts search options)) are,
        )
