-- What a stream is searched for: matches, and whole words.
use Rattle.std.proofs.lemmas.Grind.{common_steps}
use Rattle.std.proofs.Common.{◌≡◌, ℕ, ◌+◌, ◌-◌, ◌≤◌, ◌<◌, ◌++◌, ◌∷◌, ◌∙◌, [], Bool, List, None, Option, Some, ap, arith}
use Rattle.std.proofs.Common.{append-nil, append_assoc, inl, inr, length, length-append, subst, sym, take}
use Rattle.std.proofs.lemmas.Bool.{cases_lt}
use Rattle.std.proofs.lemmas.List.{drop-append-le, length-drop, take-append-le}
use Rattle.std.proofs.Math.Seq.{drop-append-add}
use Rattle.std.specs.List.{slice_range}
use Rattle.literal_base.specs.Leftmost.{IsLeftmost}
use Rattle.literal_base.specs.MatchValue.{MatchValue}
use Rattle.literal_base.specs.Occurs.{NoneIsEmpty, Occurs, between, pattern_at, rest_from}
use Rattle.literal_base.specs.Query.{Query}
use Rattle.literal_rows.specs.Patterns.{longest_of}
use Rattle.literal_pieces.specs.Stream.{AnswersSoFar, IsKnownBy}
use Rattle.literal_words.specs.WholeWords.{IsFirstAlone, OccursAlone, WholeWordsValue, is_word_at, is_word_before}
use Rattle.literal_pieces.specs.Inside.Sought.{Answers, AnswersAhead, AreMatches, Begins, IsFirst, margin_of, reach_of}
use Rattle.literal_pieces.specs.Inside.Sought.{search_of, SoughtValue, by_matches, by_words}
use Rattle.literal_pieces.specs.Inside.Stream.{AreHeldFrom, IsSearchIn, IsThrough, IsWindow, block, held, shifted}
use Rattle.literal_pieces.specs.Inside.Stream.{told_later}
use Rattle.literal_leftmost.specs.SoFar.{TellsOf}
use Rattle.literal_pieces.specs.declared.reading.Reading.{Reading}
use Rattle.literal_pieces.specs.declared.sought.BlockSearch.{BlockSearch}
use Rattle.literal_leftmost.specs.declared.so_far.SoFar.{SoFar}
use Rattle.literal_leftmost.specs.declared.so_far.SoFar.TheVariants.{Found, NoneBefore}
use Rattle.literal_pieces.specs.declared.window.Window.{Window}
use Rattle.literal_rows.proofs.lemmas.Longest.{longest_is}
use Rattle.literal_pieces.proofs.lemmas.Streams.{GoesFrom, block_is, gone_long}
use Rattle.literal_leftmost.proofs.lemmas.SoFar.{occurs_prefix}

-- what is searched for goes from an offset on
goes_later : (s : SoughtValue) (text : List ℕ) (from to i p : ℕ) → to ≤ p → Begins s text from i p
    → Begins s text to i p
goes_later (by_matches search) text from to i p later o = grind arith
goes_later (by_words words) text from to i p later o = grind arith

pub goes_after : (s : SoughtValue) (text : List ℕ) (from i p : ℕ) → Begins s text from i p → from ≤ p
goes_after (by_matches search) text from i p o = o.after_start
goes_after (by_words words) text from i p o = o.occurs.after_start

goes_first : (s : SoughtValue) (text : List ℕ) (from to : ℕ) (answer : Option MatchValue) → from ≤ to
    → ((i p : ℕ) → Begins s text from i p → to ≤ p) → IsFirst s text to answer → IsFirst s text from answer
goes_first (by_matches search) text from to None later none nothing = grind (arith, goes_later)
goes_first (by_matches search) text from to (Some found) later none first = grind (arith, goes_later)
goes_first (by_words words) text from to None later none nothing = grind (arith, goes_later)
goes_first (by_words words) text from to (Some found) later none first = grind (arith, goes_later)

pub goes_from : (s : SoughtValue) → GoesFrom (IsFirst s) (Begins s)
goes_from s = record { after = goes_after s; later = goes_later s; first = goes_first s }

pub goes_none : (s : SoughtValue) (text : List ℕ) (from : ℕ) → IsFirst s text from None → AreMatches s text from []
goes_none (by_matches search) text from nothing = nothing
goes_none (by_words words) text from nothing = nothing

pub goes_some : (s : SoughtValue) (text : List ℕ) (from : ℕ) (found : MatchValue) (more : List MatchValue)
    → IsFirst s text from (Some found) → AreMatches s text found.end more → AreMatches s text from (found ∷ more)
goes_some (by_matches search) text from found more first list = (first, list)
goes_some (by_words words) text from found more first list = (first, list)

-- where nothing begins before the end, there is nothing
pub nothing_last : (s : SoughtValue) (text : List ℕ) (from : ℕ) → NoneIsEmpty (search_of s).query.patterns
    → ((i p : ℕ) → Begins s text from i p → length text ≤ p) → IsFirst s text from None
nothing_last (by_matches search) text from some none = grind arith
nothing_last (by_words words) text from some none = grind arith

module _ (word_bytes : List Bool) (before text : List ℕ) where
  -- a byte of a text is the same byte of a longer one
  word_behind : (n : ℕ) → is_word_at word_bytes (before ++ text) (length before + n) ≡ is_word_at word_bytes text n
  word_behind n = grind (arith, common_steps, length-append)

  before_behind : (n : ℕ) → (n ≡ 0 → length before ≡ 0)
      → is_word_before word_bytes (before ++ text) (length before + n) ≡ is_word_before word_bytes text n
  before_behind n first = grind (arith, common_steps, word_behind)

  word_prefix : (n : ℕ) → n < length before → is_word_at word_bytes (before ++ text) n ≡ is_word_at word_bytes before n
  word_prefix n inside = grind (arith, common_steps, length-append)

  before_prefix : (n : ℕ) → n ≤ length before
      → is_word_before word_bytes (before ++ text) n ≡ is_word_before word_bytes before n
  before_prefix n inside = grind (arith, common_steps, word_prefix)

-- a whole word behind whose start the longest pattern and one byte more would fit is a whole word of a longer text too
module _ (words : WholeWordsValue) (text more : List ℕ) where
  abbrev patterns : List (List ℕ)
  patterns = words.search.query.patterns

  alone_prefix : (from i p : ℕ) → p + (longest_of patterns + 1) ≤ length text
      → OccursAlone patterns words.search.ignore_case words.word_bytes (text ++ more) (rest_from (text ++ more) from)
      i p
      → OccursAlone patterns words.search.ignore_case words.word_bytes text (between from (length text)) i p
  alone_prefix from i p inside o =
      let long = longest_is patterns i in record {
        occurs = occurs_prefix patterns words.search.ignore_case text more from i p (omega (arith, long, inside))
            o.occurs;
        alone = grind (arith, before_prefix, word_prefix);
      }

  same_longer : (p n : ℕ) → p + n ≤ length text → slice_range (text ++ more) p (p + n) ≡ slice_range text p (p + n)
  same_longer p n inside = grind (arith, drop-append-le, length-drop, take-append-le)

  alone_longer : (from i p : ℕ) → p + (longest_of patterns + 1) ≤ length text
      → OccursAlone patterns words.search.ignore_case words.word_bytes text (between from (length text)) i p
      → OccursAlone patterns words.search.ignore_case words.word_bytes (text ++ more) (rest_from (text ++ more) from)
      i p
  alone_longer from i p inside o = grind (arith, before_prefix, length-append, longest_is, same_longer, word_prefix)

  -- what is known of a whole word holds whatever follows
  pub word_known : (from : ℕ) (leftmost : Option MatchValue) (answer : SoFar) → TellsOf leftmost answer
      → IsKnownBy (longest_of patterns + 1) (length text) from answer
      → IsFirstAlone words text (between from (length text)) leftmost
      → Answers (by_words words) (text ++ more) from answer
  word_known from leftmost (Found found) tells known first =
      let alone = subst (λ (a : Option MatchValue). IsFirstAlone words text (between from (length text)) a) tells first
      in record {
        occurs = alone_longer from found.pattern found.start known.2 alone.occurs;
        whole = alone.whole;
        earliest = λ i p before o.
            alone.earliest i p before (alone_prefix from i p (omega (arith, before, known.2)) o);
        best = λ i better o. alone.best i better (alone_prefix from i found.start known.2 o);
      }
  word_known from None (NoneBefore offset) tells known nothing = λ i p o.
      let after = o.occurs.after_start in
      elim (cases_lt p offset) [
        | inl early ↦ absurd (nothing i p (alone_prefix from i p (omega (arith, early, known, after)) o))
        | inr late ↦ late
      ]
  word_known from (Some found) (NoneBefore offset) tells known first = λ i p o.
      let after = o.occurs.after_start in
      elim (cases_lt p offset) [
        | inl early ↦
            absurd (first.earliest i p (omega (arith, early, tells))
            (alone_prefix from i p (omega (arith, early, known, after)) o))
        | inr late ↦ late
      ]

module _ (patterns : List (List ℕ)) (ignore_case : Bool) (before text : List ℕ) (from : ℕ) where
  -- a part of what is ahead is the same part of the whole text
  same_ahead : (p n : ℕ) → slice_range (before ++ text) (length before + p) ((length before + p) + n)
      ≡ slice_range text p (p + n)
  same_ahead p n = grind (arith, drop-append-add)

  -- what occurs ahead occurs in the whole text
  occurs_behind : (i p : ℕ) → Occurs patterns ignore_case text (rest_from text from) i p
      → Occurs patterns ignore_case (before ++ text) (rest_from (before ++ text) (length before + from)) i
      (length before + p)
  occurs_behind i p occurs = grind (arith, length-append, same_ahead)

  -- and what occurs in that from there on occurs ahead
  occurs_ahead : (i p : ℕ)
      → Occurs patterns ignore_case (before ++ text) (rest_from (before ++ text) (length before + from)) i
      (length before + p) → Occurs patterns ignore_case text (rest_from text from) i p
  occurs_ahead i p occurs = grind (arith, length-append, same_ahead)

begins_behind : (s : SoughtValue) (before text : List ℕ) (from : ℕ)
    → length before ≡ (length before + from) - margin_of s → (i p : ℕ) → Begins s text from i p
    → Begins s (before ++ text) (length before + from) i (length before + p)
begins_behind (by_matches search) before text from near i p o =
    occurs_behind search.query.patterns search.ignore_case before text from i p o
begins_behind (by_words words) before text from near i p o =
    let patterns = words.search.query.patterns in
    let size : (length before + p) + length (pattern_at patterns i)
    ≡ length before + (p + length (pattern_at patterns i)) = omega arith in
    let after = o.occurs.after_start in
    record {
      occurs = occurs_behind patterns words.search.ignore_case before text from i p o.occurs;
      alone = grind (arith, before_behind, word_behind);
    }

begins_ahead : (s : SoughtValue) (before text : List ℕ) (from : ℕ)
    → length before ≡ (length before + from) - margin_of s → (i p : ℕ)
    → Begins s (before ++ text) (length before + from) i (length before + p) → Begins s text from i p
begins_ahead (by_matches search) before text from near i p o =
    occurs_ahead search.query.patterns search.ignore_case before text from i p o
begins_ahead (by_words words) before text from near i p o =
    let patterns = words.search.query.patterns in
    let size : (length before + p) + length (pattern_at patterns i)
    ≡ length before + (p + length (pattern_at patterns i)) = omega arith in
    let after = o.occurs.after_start in
    record {
      occurs = occurs_ahead patterns words.search.ignore_case before text from i p o.occurs;
      alone = grind (arith, before_behind, word_behind);
    }

-- what begins ahead does so whatever came before
module _ (s : SoughtValue) (gone before ahead : List ℕ) (from : ℕ)
    (near_gone : length gone ≡ (length gone + from) - margin_of s)
    (near : length before ≡ (length before + from) - margin_of s)
  where
    moved : (i p : ℕ) → Begins s (gone ++ ahead) (length gone + from) i (length gone + p)
        → Begins s (before ++ ahead) (length before + from) i (length before + p)
    moved i p o = begins_behind s before ahead from near i p (begins_ahead s gone ahead from near_gone i p o)

    -- and back, by any offset
    moved_back : (i p : ℕ) → Begins s (before ++ ahead) (length before + from) i p
        → Begins s (gone ++ ahead) (length gone + from) i (length gone + (p - length before))
    moved_back i p o =
        let after = goes_after s (before ++ ahead) (length before + from) i p o in
        let is : p ≡ length before + (p - length before) = omega (arith, after) in
        begins_behind s gone ahead from near_gone i (p - length before)
        (begins_ahead s before ahead from near i (p - length before)
        (subst (λ (n : ℕ). Begins s (before ++ ahead) (length before + from) i n) is o))

    module _ (base : ℕ) (sum : base + length gone ≡ length before) where
      -- where nothing begins before an offset, nothing does whatever came before
      none_moved : (offset : ℕ)
          → ((i p : ℕ) → Begins s (gone ++ ahead) (length gone + from) i p → offset ≤ p) → (i p : ℕ)
          → Begins s (before ++ ahead) (length before + from) i p → offset + base ≤ p
      none_moved offset none i p o =
          let after = goes_after s (before ++ ahead) (length before + from) i p o in
          omega (arith, none i (length gone + (p - length before)) (moved_back i p o), after, sum)

      -- a match is the same so many bytes later
      match_moved : (i p : ℕ) → Begins s (gone ++ ahead) (length gone + from) i p
          → Begins s (before ++ ahead) (length before + from) i (p + base)
      match_moved i p o =
          let after = goes_after s (gone ++ ahead) (length gone + from) i p o in
          let here : p ≡ length gone + (p - length gone) = omega (arith, after) in
          let there : length before + (p - length gone) ≡ p + base = omega (arith, after, sum) in
          subst (λ (n : ℕ). Begins s (before ++ ahead) (length before + from) i n) there
          (moved i (p - length gone)
          (subst (λ (n : ℕ). Begins s (gone ++ ahead) (length gone + from) i n) here o))

      match_before : (i p : ℕ) → length gone + from ≤ p
          → Begins s (before ++ ahead) (length before + from) i (p + base)
          → Begins s (gone ++ ahead) (length gone + from) i p
      match_before i p after o =
          let here : length gone + ((p + base) - length before) ≡ p = omega (arith, after, sum) in
          subst (λ (n : ℕ). Begins s (gone ++ ahead) (length gone + from) i n) here (moved_back i (p + base) o)

-- the leftmost match ahead is the same whatever came before
first_moved : (s : SoughtValue) (gone before ahead : List ℕ) (from : ℕ)
    → length gone ≡ (length gone + from) - margin_of s → length before ≡ (length before + from) - margin_of s
    → (base : ℕ) → base + length gone ≡ length before → (found : MatchValue)
    → IsFirst s (gone ++ ahead) (length gone + from) (Some found)
    → IsFirst s (before ++ ahead) (length before + from) (Some (shifted base found))
first_moved (by_matches search) gone before ahead from near_gone near base sum found first =
    let s = by_matches search in
    let after = first.occurs.after_start in
    record {
      occurs = match_moved s gone before ahead from near_gone near base sum found.pattern found.start first.occurs;
      whole = omega (arith, first.whole);
      earliest = λ i p earlier o.
          let later = o.after_start in
          first.earliest i (length gone + (p - length before)) (omega (arith, earlier, later, sum))
          (moved_back s gone before ahead from near_gone near i p o);
      best = λ i better o.
          first.best i better (match_before s gone before ahead from near_gone near base sum i found.start after o);
    }
first_moved (by_words words) gone before ahead from near_gone near base sum found first =
    let s = by_words words in
    let after = first.occurs.occurs.after_start in
    record {
      occurs = match_moved s gone before ahead from near_gone near base sum found.pattern found.start first.occurs;
      whole = omega (arith, first.whole);
      earliest = λ i p earlier o.
          let later = o.occurs.after_start in
          first.earliest i (length gone + (p - length before)) (omega (arith, earlier, later, sum))
          (moved_back s gone before ahead from near_gone near i p o);
      best = λ i better o.
          first.best i better (match_before s gone before ahead from near_gone near base sum i found.start after o);
    }

-- an answer for a text is one for the bytes ahead in it, whatever came before
answers_ahead : (s : SoughtValue) (base at : ℕ) (gone ahead : List ℕ) (answer : SoFar)
    → base + length gone ≡ at - margin_of s → base + length gone ≤ at → Answers s (gone ++ ahead) (at - base) answer
    → AnswersAhead s at ahead (told_later base answer)
answers_ahead s base at gone ahead (Found found) begin later first = λ before len.
    let from = at - (base + length gone) in
    let sum : base + length gone ≡ length before = begin ∙ sym len in
    let at_is : length before + from ≡ at = omega (arith, sum, later) in
    let gone_is : at - base ≡ length gone + from = omega (arith, later) in
    subst (λ (n : ℕ). IsFirst s (before ++ ahead) n (Some (shifted base found))) at_is
    (first_moved s gone before ahead from (omega (arith, begin, later)) (omega (arith, begin, later, sum)) base sum
    found (subst (λ (n : ℕ). IsFirst s (gone ++ ahead) n (Some found)) gone_is first))
answers_ahead s base at gone ahead (NoneBefore offset) begin later none = λ before len i p o.
    let from = at - (base + length gone) in
    let sum : base + length gone ≡ length before = begin ∙ sym len in
    let at_is : length before + from ≡ at = omega (arith, sum, later) in
    let gone_is : at - base ≡ length gone + from = omega (arith, later) in
    none_moved s gone before ahead from (omega (arith, begin, later)) (omega (arith, begin, later, sum)) base sum
    offset (λ i p o. none i p (subst (λ (n : ℕ). Begins s (gone ++ ahead) n i p) (sym gone_is) o)) i p
    (subst (λ (n : ℕ). Begins s (before ++ ahead) n i p) (sym at_is) o)

-- an answer for the block of a window, and what follows, is one for the bytes ahead
pub answers_in_block : (s : SoughtValue) (w : Window) (at base : ℕ) (bytes more : List ℕ) (answer : SoFar) → IsWindow w
    → AreHeldFrom (margin_of s) at w → base ≡ w.offset - w.passed → bytes ≡ block w
    → Answers s (bytes ++ more) (at - base) answer → AnswersAhead s at (held w ++ more) (told_later base answer)
answers_in_block s w at base bytes more answer window from base_is bytes_are answers =
    let gone = take w.passed (block w) in
    let len : length gone ≡ w.passed = gone_long w window in
    let text : bytes ++ more ≡ gone ++ (held w ++ more) =
    ap (λ l. l ++ more) (bytes_are ∙ block_is w window) ∙ append_assoc gone (held w) more in
    let begin = from.begin in
    let begins = window.begins in
    let base_on : base + length gone ≡ at - margin_of s = omega (arith, base_is, len, begin, begins) in
    answers_ahead s base at gone (held w ++ more) answer base_on (omega (arith, base_on))
    (subst (λ (l : List ℕ). Answers s l (at - base) answer) text answers)

-- a search in a window goes on if its block stays
pub search_stays : (s : SoughtValue) (w v : Window) (r : Reading) (at : ℕ) (b : BlockSearch) → block v ≡ block w
    → v.offset - v.passed ≡ w.offset - w.passed → IsSearchIn s w r at b → IsSearchIn s v r at b
search_stays s w v r at b same begins is = record {
  tables = is.tables;
  through = λ begun.
      subst (λ (n : ℕ). IsThrough s (block v) (at - n) b) (sym begins)
      (subst (λ (l : List ℕ). IsThrough s l (at - (w.offset - w.passed)) b) (sym same) (is.through begun));
  long = is.long;
}

-- what is known of the leftmost answer for a text holds whatever follows
pub known_follows : (s : SoughtValue) (text more : List ℕ) (from reach : ℕ) (leftmost : Option MatchValue)
    (answer : SoFar) → reach ≡ reach_of s → IsFirst s text from leftmost → TellsOf leftmost answer
    → IsKnownBy reach (length text) from answer
    → ((query : Query) (ignore_case : Bool) (more : List ℕ) → reach ≡ longest_of query.patterns
    → IsLeftmost query ignore_case text (between from (length text)) leftmost
    → AnswersSoFar query ignore_case (text ++ more) from answer) → Answers s (text ++ more) from answer
known_follows (by_matches search) text more from reach leftmost (Found found) is first tells known follows =
    follows search.query search.ignore_case more (omega (arith, is)) first
known_follows (by_matches search) text more from reach leftmost (NoneBefore offset) is first tells known follows =
    grind arith
known_follows (by_words words) text more from reach leftmost answer is first tells known follows =
    grind (arith, word_known)

-- where nothing follows, and there is nothing in the text, nothing begins
pub nothing_follows : (s : SoughtValue) (text more : List ℕ) (from : ℕ) → more ≡ [] → IsFirst s text from None
    → (i p : ℕ) → Begins s (text ++ more) from i p → length text ≤ p
nothing_follows (by_matches search) text more from empty nothing i p o = grind (arith, append-nil)
nothing_follows (by_words words) text more from empty nothing i p o = grind (arith, append-nil)

-- where nothing begins before a later offset, the matches from there on are those from an earlier one on
pub matches_later : (s : SoughtValue) (text : List ℕ) (from to : ℕ) (matches : List MatchValue) → from ≤ to
    → ((i p : ℕ) → Begins s text from i p → to ≤ p) → AreMatches s text to matches → AreMatches s text from matches
matches_later (by_matches search) text from to [] later none nothing = grind (arith, goes_first)
matches_later (by_matches search) text from to (found ∷ more) later none list = grind (arith, goes_first)
matches_later (by_words words) text from to [] later none nothing = grind (arith, goes_first)
matches_later (by_words words) text from to (found ∷ more) later none list = grind (arith, goes_first)
