-- The whole words that begin at one offset, and what is scanned for them.
use Rattle.std.proofs.Common.{◌≡◌, ◌+◌, ◌-◌, ◌<◌, ◌≤◌, ◌⊎◌, ℕ, Bool, List, [], None, Option, Some, ◌++◌, ◌∷◌}
use Rattle.std.proofs.Common.{append_assoc, arith, inl, inr, length, suc, subst, zero}
use Rattle.std.proofs.Math.Nat.{mul-le-mul_right}
use Rattle.std.proofs.lemmas.Bool.{cases_Bool, cases_lt, false≢true}
use Rattle.literal_base.specs.Counts.{Counts}
use Rattle.literal_base.specs.Leftmost.{IsLeftmostMatch}
use Rattle.literal_base.specs.MatchValue.{MatchValue}
use Rattle.literal_base.specs.Occurs.{NoneIsEmpty, between, pattern_at}
use Rattle.literal_base.specs.declared.packed.MatchKind.TheVariants.{LeftmostLongest}
use Rattle.literal_base.specs.declared.search.Span.{Span}
use Rattle.literal_words.specs.Inside.WholeWords.{AreWordParts, AreWordsFor, AreWordsIn, AreWordsUpTo, AreWordsUpToBy}
use Rattle.literal_words.specs.Inside.WholeWords.{ForWords, IsBestHere, IsBestWord, IsWordAt, ScansEnds, WordParts}
use Rattle.literal_words.specs.Inside.WholeWords.{whole_words_value}
use Rattle.literal_leftmost.specs.Prepared.{IsPrepared}
use Rattle.literal_words.specs.PreparedWords.{PreparedWordsValue}
use Rattle.literal_leftmost.specs.LookUps.{LookUps, ScansNext, ScansRest}
use Rattle.literal_leftmost.specs.SearchValue.{SearchValue, most_scanned}
use Rattle.literal_words.specs.WholeWords.{AreWholeWordsBy, IsAlone, IsFirstAlone, IsFirstAloneBy, IsLeftmostAloneBy}
use Rattle.literal_words.specs.WholeWords.{OccursAloneBy, ScansWordsAtMost, ScansWordsBy, ScansWordsRest}
use Rattle.literal_words.specs.WholeWords.{WholeWordsValue, most_at_start}
use Rattle.literal_words.specs.declared.word_search.Words.{Words}
use Rattle.literal_base.proofs.lemmas.Callers.{none_longer}
use Rattle.literal_base.proofs.lemmas.Exists.{leftmost_or_none}
use Rattle.literal_leftmost.proofs.lemmas.Iterations.{scanned_on}

-- what holds of whatever search is read holds of the one that is
pub for_words : (parts : WordParts) (w : Words) → AreWordsFor parts w → AreWordParts parts → (P : WordParts → Type 0)
    → ForWords w P → P parts
for_words parts w are is P holds = grind arith

-- nor does it matter which of those it is that the array is prepared for
pub for_prepared : (words : PreparedWordsValue) (w : Words) → AreWordsIn words w → (P : WordParts → Type 0)
    → ForWords w P → (search : SearchValue) → IsPrepared search words.numbers → search.query.kind ≡ LeftmostLongest
    → P (record { kind = words.kind; search = search; word_bytes = words.word_bytes })
for_prepared words w are P holds search is longest =
    subst P (are.same search)
    (holds search (are.back.is_for search is)
    (record { longest = longest; some = is.tables.kept.some }))

module _ (p : WordParts) (parts : AreWordParts p) (haystack sides : List ℕ) (at from end : ℕ) (found : MatchValue)
    (leftmost : IsLeftmostMatch p.search.query p.search.ignore_case haystack (between from end) found) where
  -- a pattern occurs after an offset as a whole word
  abbrev IsWordFrom : ℕ → ℕ → Type 0
  IsWordFrom i k =
      OccursAloneBy p.search.query.patterns p.search.ignore_case p.word_bytes haystack sides (between at end) i k

  abbrev size : ℕ → ℕ
  size i = length (pattern_at p.search.query.patterns i)

  -- the same in another span in which it lies
  word_in : {a b : Span} {i k : ℕ}
      → OccursAloneBy p.search.query.patterns p.search.ignore_case p.word_bytes haystack sides a i k
      → b.start ≤ k → k + size i ≤ b.end
      → OccursAloneBy p.search.query.patterns p.search.ignore_case p.word_bytes haystack sides b i k
  word_in o after before = grind arith

  -- what occurs at the start of a longest match lies whole in it
  lies_in : (i : ℕ) → IsWordFrom i found.start → IsWordAt p haystack sides (between found.start found.end) i
  lies_in i word = grind (arith, none_longer, word_in)

  -- it is the best of what lies whole in it, too
  pub best_here : IsBestHere p.search haystack found
  best_here = grind arith

  -- no whole word begins before an offset, nor at the next start
  pub none_further : ((i k : ℕ) → at ≤ k → k < from → ¬ IsWordFrom i k)
      → (at ≤ found.start → (i : ℕ) → ¬ IsWordAt p haystack sides (between found.start found.end) i)
      → (i k : ℕ) → at ≤ k → k < found.start + 1 → ¬ IsWordFrom i k
  none_further none here i k after before word =
      elim (cases_lt k from) [
        | inl early ↦ none i k after early word
        | inr not_early ↦
            elim (cases_lt k found.start) [
              | inl passed ↦ leftmost.earliest i k passed (word_in word not_early word.occurs.before_end).occurs
              | inr not_passed ↦
                  let is : k ≡ found.start = omega (arith, before, not_passed) in
                  here (omega (arith, after, is)) i (lies_in i (subst (λ k. IsWordFrom i k) is word))
            ]
      ]

  -- the best whole word at the next start is the leftmost one
  pub best_is_leftmost : ((i k : ℕ) → at ≤ k → k < from → ¬ IsWordFrom i k) → at ≤ found.start → (word : MatchValue)
      → IsBestWord p.kind p haystack sides (between found.start found.end) word
      → IsLeftmostAloneBy (whole_words_value p).search.query p.search.ignore_case p.word_bytes haystack sides
      (between at end) word
  best_is_leftmost none after word best = grind (arith, cases_lt, lies_in, word_in)

-- what is scanned up to the next start, and for the whole words that begin there
pub words_there : (longest first old : ℕ) (before looked after : LookUps) (found : MatchValue) (t0 t1 t2 t3 : Counts)
    → ScansWordsBy longest first old before looked t0 t1 → ScansNext looked after t1 t2
    → ScansEnds found.start (found.end + 1) t2 t3 → found.end ≤ found.start + longest → old ≤ found.start
    → ScansWordsAtMost longest first (found.start + 1) before.most after.most t0 t3
words_there longest first old before looked after found t0 t1 t2 t3 so_far next ends short on =
    let starts : old + 1 ≤ found.start + 1 = omega (arith, on) in
    let here : t3.scanned ≤ t2.scanned + most_at_start longest = omega (arith, ends.most, short) in
    record {
      others = scanned_on t0 t2 t3 (scanned_on t0 t1 t2 so_far.at_most.others next.others) ends.others;
      most = omega (arith, so_far.at_most.most, next.most, here, mul-le-mul_right (most_at_start longest) starts);
    }

pub words_on : (longest first old : ℕ) (before looked after : LookUps) (found : MatchValue) (t0 t1 t2 t3 : Counts)
    → ScansWordsBy longest first old before looked t0 t1 → ScansNext looked after t1 t2
    → ScansEnds found.start (found.end + 1) t2 t3 → t2.scanned ≤ t3.scanned → found.end ≤ found.start + longest
    → old ≤ found.start → ScansWordsBy longest first (found.start + 1) before after t0 t3
words_on longest first old before looked after found t0 t1 t2 t3 so_far next ends grows short on = record {
  at_most = words_there longest first old before looked after found t0 t1 t2 t3 so_far next ends short on;
  least = omega (arith, so_far.least, next.least, grows);
}

-- what is scanned where there is no further start
pub words_end : (longest first old end : ℕ) (before looked after : LookUps) (t0 t1 t2 : Counts)
    → ScansWordsBy longest first old before looked t0 t1 → ScansNext looked after t1 t2 → old ≤ end
    → ScansWordsBy longest first end before after t0 t2
words_end longest first old end before looked after t0 t1 t2 so_far next inside = record {
  at_most = record {
    others = scanned_on t0 t1 t2 so_far.at_most.others next.others;
    most = omega (arith, so_far.at_most.most, next.most, mul-le-mul_right (most_at_start longest) inside);
  };
  least = omega (arith, so_far.least, next.least);
}

-- it is no more than what may be scanned up to the end of the span
pub words_most : (longest : ℕ) (span : Span) (first at : ℕ) (before after : LookUps) (t0 t1 : Counts)
    → ScansWordsAtMost longest first at before.most after.most t0 t1 → at ≤ span.end
    → after.most ≤ most_scanned longest (span.end - span.start) → ScansWordsRest longest span first before t0 t1
words_most longest span first at before after t0 t1 scans inside few = record {
  others = scans.others;
  most = omega (arith, scans.most, few, mul-le-mul_right (most_at_start longest) inside);
}

-- nor is what is scanned where the next start is not found, since the tables are damaged
pub words_damaged : (longest : ℕ) (span : Span) (first old : ℕ) (before looked : LookUps) (t0 t1 t2 : Counts)
    → ScansWordsBy longest first old before looked t0 t1 → ScansRest longest span looked t1 t2 → old ≤ span.end
    → ScansWordsRest longest span first before t0 t2
words_damaged longest span first old before looked t0 t1 t2 so_far rest inside = record {
  others = scanned_on t0 t1 t2 so_far.at_most.others rest.others;
  most = omega (arith, so_far.at_most.most, rest.most, mul-le-mul_right (most_at_start longest) inside);
}

-- the whole words so far, with the next one
pub words_next_by : (words : WholeWordsValue) (haystack sides : List ℕ) (span : Span) (done : List MatchValue) (at : ℕ)
    (found : MatchValue) → AreWordsUpToBy words haystack sides span done at
    → IsFirstAloneBy words haystack sides (between at span.end) (Some found) → found.start < found.end
    → AreWordsUpToBy words haystack sides span (done ++ found ∷ []) found.end
words_next_by words haystack sides span done at found so_far leftmost some = grind (arith, append_assoc)

-- the same by the bytes of the haystack itself
pub words_next : (words : WholeWordsValue) (haystack : List ℕ) (span : Span) (done : List MatchValue) (at : ℕ)
    (found : MatchValue) → AreWordsUpTo words haystack span done at
    → IsFirstAlone words haystack (between at span.end) (Some found) → found.start < found.end
    → AreWordsUpTo words haystack span (done ++ found ∷ []) found.end
words_next words haystack = words_next_by words haystack haystack

-- whether a part of a haystack is alone
alone_or_not : (word_bytes : List Bool) (haystack : List ℕ) (start end : ℕ)
    → IsAlone word_bytes haystack start end ⊎ ¬ IsAlone word_bytes haystack start end
alone_or_not word_bytes haystack start end = grind (arith, cases_Bool, false≢true)

module _ (words : WholeWordsValue) (haystack sides : List ℕ) where
  -- there is a leftmost whole word, or none
  first_alone : (span : Span) → (answer : Option MatchValue) × IsFirstAloneBy words haystack sides span answer
  first_alone span =
      let patterns = words.search.query.patterns in
      elim (leftmost_or_none words.search.query words.search.ignore_case haystack span
      (λ i at. IsAlone words.word_bytes sides at (at + length (pattern_at patterns i)))
      (λ i at. alone_or_not words.word_bytes sides at (at + length (pattern_at patterns i)))) [
        | inl none ↦ (None, λ i at o. none i at (o.occurs, o.alone))
        | inr found ↦ (
          Some found.0,
          record {
            occurs = record { occurs = found.1.occurs.0; alone = found.1.occurs.1 };
            whole = found.1.whole;
            earliest = λ i at before o. found.1.earliest i at before (o.occurs, o.alone);
            best = λ i better o. found.1.best i better (o.occurs, o.alone);
          },
        )
      ]

  -- and a list of those that do not overlap, if no pattern is empty
  module _ (not_empty : NoneIsEmpty words.search.query.patterns) (end : ℕ) where
    abbrev WordsFrom : ℕ → Type 0
    WordsFrom at = (all : List MatchValue) × AreWholeWordsBy words haystack sides (between at end) all

    words_from : (at : ℕ) → ((to : ℕ) → at < to → WordsFrom to) → (answer : Option MatchValue)
        → IsFirstAloneBy words haystack sides (between at end) answer → WordsFrom at
    words_from at later None nothing = ([], nothing)
    words_from at later (Some found) first =
        let some : 0 < length (pattern_at words.search.query.patterns found.pattern) = grind arith in
        let more = later found.end (omega (arith, first.whole, first.occurs.occurs.after_start)) in
        (found ∷ more.0, (first, more.1))

    pub words_exist : (most at : ℕ) → end ≤ at + most → WordsFrom at
    words_exist zero at h = grind arith
    words_exist (suc most) at h =
        let answer = first_alone (between at end) in
        words_from at (λ to after. words_exist most to (omega arith)) answer.0 answer.1
