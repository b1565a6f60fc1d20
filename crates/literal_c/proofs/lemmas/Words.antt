-- Whole words that are written for C, one after another.
-- For `write_words`, `count_words` and the exports.
use Rattle.std.proofs.Common.{◌≡◌, ℕ, ◌<◌, ◌≤◌, ◌+◌, ◌∙◌, List, [], ◌∷◌, ◌++◌, Option, add-one, ap, append_assoc}
use Rattle.std.proofs.Common.{arith, drop, inl, inr, length, map, refl, subst, sym, take}
use Rattle.std.proofs.lemmas.Bool.{cases_lt}
use Rattle.std.proofs.Math.ListN.{set}
use Rattle.std.proofs.Math.Seq.{take-suc-set}
use Rattle.std.proofs.lemmas.List.{map-append}
use Rattle.literal_base.specs.MatchValue.{MatchValue}
use Rattle.literal_base.specs.Occurs.{between}
use Rattle.literal_base.specs.declared.packed.MatchKind.{MatchKind}
use Rattle.literal_base.specs.declared.search.Span.{Span}
use Rattle.literal_search.specs.Prepared.{IsPrepared}
use Rattle.literal_search.specs.PreparedWords.{ForWholeWords, PreparedWordMatchesBySidesValue, PreparedWordsValue}
use Rattle.literal_search.specs.PreparedWords.{word_matches_by, words_for}
use Rattle.literal_search.specs.SearchValue.{search_by}
use Rattle.literal_search.specs.WholeWords.{AreWholeWordsBy, GivesWholeWordBy, IsFirstAloneBy, IsLeftmostAloneBy}
use Rattle.literal_search.specs.WholeWords.{NothingAloneBy, OccursAloneBy, WholeWordsValue}
use Rattle.literal_c.specs.Answers.{end_of_last, match_of}
use Rattle.literal_c.specs.Arguments.{kind_of}
use Rattle.literal_c.specs.Inside.Given.{AreWordsBy}
use Rattle.literal_c.specs.Words.{ContinueWordsBy, ForAsciiWords, IsWordPageBy}
use Rattle.literal_c.specs.declared.LiteralMatch.{LiteralMatch}
use Rattle.literal_c.specs.declared.LiteralPage.{LiteralPage}

-- what holds of whole words by a kind and the ASCII word bytes, holds of those that C asks for
pub for_ascii : (kind : MatchKind) (number : ℕ) (array : List ℕ) (words : PreparedWordsValue)
    → AreWordsBy kind array words → kind ≡ kind_of number → (P : WholeWordsValue → Type 0) → ForWholeWords words P
    → ForAsciiWords array number P
for_ascii kind number array words are kind_is P holds = λ search is longest.
    let taken : words.kind ≡ kind_of number = are.kind_is ∙ kind_is in (
      words_for search words,
      record {
        search_is = ap (λ k. search_by k search.ignore_case search.query.patterns) taken;
        word_bytes = are.word_bytes;
      },
      holds search (subst (IsPrepared search) (sym are.numbers) is) longest,
    )

-- what an iteration gives that goes on at a place
pub first_by : (m new : PreparedWordMatchesBySidesValue) (words : PreparedWordsValue) (haystack sides : List ℕ)
    (span : Span) (at : ℕ) (answer : Option MatchValue) → m.matches.words ≡ words → m.matches.haystack ≡ haystack
    → m.sides ≡ sides → m.matches.span ≡ span → m.matches.at ≡ at
    → ForWholeWords m.matches.words (λ w.
    GivesWholeWordBy m.sides (word_matches_by m.matches w) answer (word_matches_by new.matches w))
    → ForWholeWords words (λ w. IsFirstAloneBy w haystack sides (between at span.end) answer)
first_by m new words haystack sides span at answer words_is haystack_is sides_is span_is at_is gives =
    λ search given longest.
    let it = m.matches in
    let w = words_for search it.words in
    let is = subst (λ (w : PreparedWordsValue). IsPrepared search w.numbers) (sym words_is) given in
    subst (λ (w : PreparedWordsValue). IsFirstAloneBy (words_for search w) haystack sides (between at span.end) answer)
    words_is
    (subst (λ (h : List ℕ). IsFirstAloneBy w h sides (between at span.end) answer) haystack_is
    (subst (λ (s : List ℕ). IsFirstAloneBy w it.haystack s (between at span.end) answer) sides_is
    (subst (λ (s : Span). IsFirstAloneBy w it.haystack m.sides (between at s.end) answer) span_is
    (subst (λ (n : ℕ). IsFirstAloneBy w it.haystack m.sides (between n it.span.end) answer) at_is
    (gives search is longest).leftmost))))

module _ (words : WholeWordsValue) (haystack sides : List ℕ) (span : Span) where
  abbrev IsWordIn : ℕ → ℕ → ℕ → Type 0
  IsWordIn start i at = OccursAloneBy words.search.query.patterns words.search.ignore_case words.word_bytes haystack
      sides
      (between start span.end) i at

  abbrev IsFirst : ℕ → MatchValue → Type 0
  IsFirst start = IsLeftmostAloneBy words.search.query words.search.ignore_case words.word_bytes haystack sides
      (between start span.end)

  -- a whole word from a place on is one from another, if it begins after that
  from : (start other i at : ℕ) → other ≤ at → IsWordIn start i at → IsWordIn other i at
  from start other i at after word = record {
    occurs = record {
      is_pattern = word.occurs.is_pattern;
      after_start = after;
      before_end = word.occurs.before_end;
      same = word.occurs.same;
    };
    alone = word.alone;
  }

  -- the whole words from the start of the first one on are those from a place before
  pub from_first : (at : ℕ) (found : MatchValue) → IsFirst at found → (more : List MatchValue)
      → AreWholeWordsBy words haystack sides (between found.start span.end) more
      → AreWholeWordsBy words haystack sides (between at span.end) more
  from_first at found first [] none = λ i k word.
      elim (cases_lt k found.start) [
        | inl before ↦ first.earliest i k before word
        | inr after ↦ none i k (from at found.start i k after word)
      ]
  from_first at found first (next ∷ more) (is, rest) = (
    record {
      occurs = from found.start at next.pattern next.start
          (omega (arith, first.occurs.occurs.after_start, is.occurs.occurs.after_start)) is.occurs;
      whole = is.whole;
      earliest = λ i k before word.
          elim (cases_lt k found.start) [
            | inl early ↦ first.earliest i k early word
            | inr late ↦ is.earliest i k before (from at found.start i k late word)
          ];
      best = λ i better word.
          is.best i better (from at found.start i next.start is.occurs.occurs.after_start word);
    },
    rest,
  )

  -- one more whole word follows
  pub continue_on : (done : List MatchValue) (at : ℕ) (found : MatchValue) → ContinueWordsBy words haystack sides span
      done at
      → IsFirst at found → ContinueWordsBy words haystack sides span (done ++ found ∷ []) found.end
  continue_on done at found so_far first = λ more rest.
      subst (AreWholeWordsBy words haystack sides span) (sym (append_assoc done (found ∷ []) more))
      (so_far (found ∷ more) (first, rest))

  -- it is written after the others
  pub written_on : (i at : ℕ) (written : List LiteralMatch) (found : LiteralMatch) → i < length written
      → ContinueWordsBy words haystack sides span (map match_of (take i written)) at → IsFirst at (match_of found)
      → ContinueWordsBy words haystack sides span (map match_of (take (i + 1) (set written i found))) found.end
  written_on i at written found lt so_far first =
      let list : map match_of (take (i + 1) (set written i found))
      ≡ map match_of (take i written) ++ match_of found ∷ [] =
      ap (map match_of) (rw add-one (take-suc-set written i found lt))
      ∙ map-append match_of (take i written) (found ∷ []) in
      subst (λ all. ContinueWordsBy words haystack sides span all found.end) (sym list)
      (continue_on (map match_of (take i written)) at (match_of found) so_far first)

  -- the last page
  pub last_page : (old new : List LiteralMatch) (i : ℕ) (page : LiteralPage) → page.written ≡ i → page.is_last ≡ 1
      → length new ≡ length old → i ≤ length new
      → ContinueWordsBy words haystack sides span (map match_of (take i new)) page.next → drop i new ≡ drop i old
      → page.next ≡ end_of_last span.start (map match_of (take i new))
      → NothingAloneBy words haystack sides (between page.next span.end) → IsWordPageBy words haystack sides span old
      new page
  last_page old new i page count last len fits so_far others next none = record {
    len = len;
    fits = omega (arith, count, fits);
    continue = subst (λ n. ContinueWordsBy words haystack sides span (map match_of (take n new)) page.next) (sym count)
        so_far;
    others = subst (λ n. drop n new ≡ drop n old) (sym count) others;
    rest = inl (
      last,
      subst (λ n. page.next ≡ end_of_last span.start (map match_of (take n new))) (sym count) next,
      none,
    );
  }

  -- a full page, with another whole word after it
  pub full_page : (old new : List LiteralMatch) (i written at : ℕ) (found : MatchValue) → written ≡ i
      → length new ≡ length old → i ≡ length new → ContinueWordsBy words haystack sides span (map match_of (take i
      new)) at
      → drop i new ≡ drop i old → IsFirst at found → IsWordPageBy words haystack sides span old new
      (let p : LiteralPage = record { written = written; next = found.start; is_last = 0 } in p)
  full_page old new i written at found count len full so_far others first = record {
    len = len;
    fits = omega (arith, count, full);
    continue = subst (λ n. ContinueWordsBy words haystack sides span (map match_of (take n new)) found.start) (sym
        count)
        (λ more rest. so_far more (from_first at found first more rest));
    others = subst (λ n. drop n new ≡ drop n old) (sym count) others;
    rest = inr (
      refl,
      omega (arith, count, full),
      found.pattern,
      from at found.start found.pattern found.start (omega arith) first.occurs,
    );
  }
