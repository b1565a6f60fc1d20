-- Whole words that are replaced, one after another.
use Rattle.std.proofs.Common.{◌≡◌, ◌∙◌, ◌++◌, ◌∷◌, ℕ, List, [], None, Option, Some, ap, append-nil}
use Rattle.std.proofs.Common.{◌+◌, ◌<◌, append_assoc, arith, length, length-append, map, slice_range, subst, sym}
use Rattle.std.proofs.lemmas.List.{length-map}
use Rattle.std.specs.Borrow.{Bor}
use Rattle.literal_base.specs.MatchValue.{MatchValue}
use Rattle.literal_base.specs.Occurs.{NoneIsEmpty, between, pattern_at, whole_of}
use Rattle.literal_words.specs.Inside.WholeWords.{AreWordsUpToBy}
use Rattle.literal_search.specs.Replaced.{IsReplacedBy, RefusesToReplaceBy, replaced}
use Rattle.literal_search.specs.WholeWords.{AreWholeWordsBy, AreWordsFromBy, GivesWholeWordBy, GivesWordBySides}
use Rattle.literal_search.specs.WholeWords.{IsFirstAloneBy, WholeWordMatchesValue, WholeWordsValue}
use Rattle.literal_search.specs.WholeWords.{WordMatchesBySidesValue}
use Rattle.literal_search.specs.declared.replace.ReplaceError.TheVariants.{OutOfMemory}
use Rattle.literal_words.proofs.lemmas.WholeWords.{words_exist, words_next_by}

-- what an iteration over whole words gives that goes on at an offset
pub word_at : {words : WholeWordsValue} {haystack sides by : List ℕ} {it o : WholeWordMatchesValue} {at : ℕ}
    {answer : Option MatchValue} → it.words ≡ words → it.haystack ≡ haystack → by ≡ sides
    → it.span ≡ whole_of haystack → it.at ≡ at → GivesWholeWordBy by it answer o
    → IsFirstAloneBy words haystack sides (between at (length haystack)) answer
word_at {words} {haystack} {sides} {by} {it} {o} {at} {answer} words_is haystack_is sides_is span_is at_is step =
    grind arith

-- a text is written up to where an iteration stands: whatever whole words are still to come, it goes on as it has to
pub record AreWordsWrittenTo (words : WholeWordsValue) (haystack sides : List ℕ) (replacements : List (Bor (List ℕ)))
    (it : WordMatchesBySidesValue) (at : ℕ) (text : List ℕ) (done : List MatchValue) : Type 0 where
  pub words_is : it.matches.words ≡ words
  pub haystack_is : it.matches.haystack ≡ haystack
  pub sides_is : it.sides ≡ sides
  pub span_is : it.matches.span ≡ whole_of haystack
  pub at_is : it.matches.at ≡ at
  pub so_far : AreWordsUpToBy words haystack sides (whole_of haystack) done at
  pub goes_on : (more : List MatchValue) → text ++ replaced haystack (map (λ r. r.now) replacements) at more
      ≡ replaced haystack (map (λ r. r.now) replacements) 0 (done ++ more)

module _ {words : WholeWordsValue} {haystack sides : List ℕ} {replacements : List (Bor (List ℕ))}
    {it : WordMatchesBySidesValue} {at : ℕ} {text : List ℕ} {done : List MatchValue}
    (so_far : AreWordsWrittenTo words haystack sides replacements it at text done) where
  abbrev given : List (List ℕ)
  given = map (λ (r : Bor (List ℕ)). r.now) replacements

  -- what the iteration gives next
  pub next_word : {o : WordMatchesBySidesValue} {answer : Option MatchValue} → GivesWordBySides it answer o
      → IsFirstAloneBy words haystack sides (between at (length haystack)) answer
  next_word step = word_at so_far.words_is so_far.haystack_is so_far.sides_is so_far.span_is so_far.at_is step.gives

  -- so it does behind one whole word more
  pub word_written : {o : WordMatchesBySidesValue} {found : MatchValue} → GivesWordBySides it (Some found) o
      → (now all between replacement : List ℕ) (end : ℕ) → now ≡ text ++ between → all ≡ now ++ replacement
      → between ≡ slice_range haystack at found.start → replacement ≡ pattern_at given found.pattern
      → end ≡ found.end → AreWordsWrittenTo words haystack sides replacements o end all (done ++ found ∷ [])
  word_written {o} {found} step now all between replacement end now_is all_is between_is replacement_is end_is =
      let first = next_word step in
      record {
        words_is = ap (λ (m : WholeWordMatchesValue). m.words) step.gives.goes_on ∙ so_far.words_is;
        haystack_is = ap (λ (m : WholeWordMatchesValue). m.haystack) step.gives.goes_on ∙ so_far.haystack_is;
        sides_is = step.same ∙ so_far.sides_is;
        span_is = ap (λ (m : WholeWordMatchesValue). m.span) step.gives.goes_on ∙ so_far.span_is;
        at_is = ap (λ (m : WholeWordMatchesValue). m.at) step.gives.goes_on ∙ sym end_is;
        so_far = subst (AreWordsUpToBy words haystack sides (whole_of haystack) (done ++ found ∷ [])) (sym end_is)
            (words_next_by words haystack sides (whole_of haystack) done at found so_far.so_far first
            step.gives.not_empty);
        goes_on = λ more. grind (arith, append_assoc, slice_range, so_far.goes_on (found ∷ more));
      }

  -- behind the last whole word it is the whole
  pub words_written : {o : WordMatchesBySidesValue} → GivesWordBySides it None o
      → length replacements ≡ length words.search.query.patterns → (answer : List ℕ)
      → answer ≡ text ++ slice_range haystack at (length haystack)
      → IsReplacedBy (AreWordsFromBy words sides) (length words.search.query.patterns) haystack
      given answer
  words_written step count answer is = record {
    one_for_each = grind (arith, length-map);
    matches = done;
    are_matches = subst (AreWholeWordsBy words haystack sides (whole_of haystack)) (append-nil done)
        (so_far.so_far.goes_on [] (next_word step));
    is_replaced = is ∙ (so_far.goes_on [] ∙ ap (replaced haystack given 0) (append-nil done));
  }

  -- memory was refused for some bytes of it, which has more whole words to come
  refused : length replacements ≡ length words.search.query.patterns → (more : List MatchValue)
      → AreWholeWordsBy words haystack sides (between at (length haystack)) more
      → 0 < length (text ++ replaced haystack given at more) → RefusesToReplaceBy (AreWordsFromBy words sides)
      (length words.search.query.patterns) haystack given OutOfMemory
  refused count more are some = grind (arith, length-map)

  -- as those after the last whole word
  pub word_refused_behind : {o : WordMatchesBySidesValue} → GivesWordBySides it None o
      → length replacements ≡ length words.search.query.patterns
      → 0 < length text + length (slice_range haystack at (length haystack))
      → RefusesToReplaceBy (AreWordsFromBy words sides)
      (length words.search.query.patterns) haystack given OutOfMemory
  word_refused_behind step count some =
      refused count [] (next_word step) (omega (arith, length-append text (replaced haystack given at []), some))

  -- or those before a whole word, or its replacement
  pub word_refused : {o : WordMatchesBySidesValue} {found : MatchValue} → GivesWordBySides it (Some found) o
      → length replacements ≡ length words.search.query.patterns → NoneIsEmpty words.search.query.patterns
      → 0 < length text + length (slice_range haystack at found.start) + length (pattern_at given found.pattern)
      → RefusesToReplaceBy (AreWordsFromBy words sides)
      (length words.search.query.patterns) haystack given OutOfMemory
  word_refused {o} {found} step count not_empty some =
      let (more, are) = words_exist words haystack sides not_empty (length haystack) (length haystack) found.end
      (omega arith) in
      let rest = replaced haystack given found.end more in
      let between = slice_range haystack at found.start in
      let replacement = pattern_at given found.pattern in
      refused count (found ∷ more) (next_word step, are) (omega (
        arith,
        some,
        length-append text (between ++ (replacement ++ rest)),
        length-append between (replacement ++ rest),
        length-append replacement rest,
      ))
