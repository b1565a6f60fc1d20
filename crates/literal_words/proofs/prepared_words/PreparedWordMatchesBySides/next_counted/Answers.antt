use Rattle.std.proofs.Common.{arith, rules, subst, sym}
use Rattle.literal_base.specs.Occurs.{between}
use Rattle.literal_leftmost.specs.Inside.Backward.{back_tables_by}
use Rattle.literal_words.specs.Inside.WholeWords.{WordParts, starts_looked_up, whole_words_value}
use Rattle.literal_leftmost.specs.Prepared.{IsPrepared}
use Rattle.literal_words.specs.PreparedWords.{PreparedWordMatchesBySidesValue, word_matches_by, words_for}
use Rattle.literal_words.specs.WholeWords.{GivesWholeWordBy, IsFirstAloneBy}
use Rattle.literal_leftmost.proofs.lemmas.Prepared.{some_by}
use Rattle.literal_words.proofs.lemmas.WholeWords.{for_prepared}
use Rattle.literal_words.proofs.prepared_words.PreparedWordMatchesBySides.next_counted.Goals as goal

pub returns-in-Ok-clause-gives : goal.returns-in-Ok-clause-gives
returns-in-Ok-clause-gives c = record {
  prepared = λ search given longest.
      let m = c.self.inside in
      let is = subst (λ (v : PreparedWordMatchesBySidesValue). IsPrepared search v.matches.words.numbers)
      (sym c.self.view_is) given in
      let told = c.in-Ok.ensures in
      let starts = c.next_word.new.starts in
      let answer = c.in-Ok.answer in
      subst (λ (v : PreparedWordMatchesBySidesValue). GivesWholeWordBy v.sides
      (word_matches_by v.matches (words_for search v.matches.words)) answer
      (record {
        words = words_for search v.matches.words;
        haystack = m.haystack.now;
        span = m.span;
        at = c.offset_after-self-inside.result;
        from = starts.at;
        look_ups = starts_looked_up m.words m.span starts;
      })) c.self.view_is (record {
        leftmost = for_prepared m.prepared.now m.words c.self.invariant.0 (λ (p : WordParts).
            IsFirstAloneBy (whole_words_value p) m.haystack.now m.sides.now (between m.at m.span.end) answer)
            told.leftmost search is longest;
        not_empty = some_by m.words.backward m.span m.at answer told.lies;
        look_ups = starts_looked_up m.words m.span starts;
        goes_on = grind arith;
        looks = grind arith;
      });
  inside = search rules;
  pattern = search rules;
  goes_on = search rules;
  ended = search rules;
  same = search rules;
}

pub returns-in-Err-clause-gives : goal.returns-in-Err-clause-gives
returns-in-Err-clause-gives c = grind (arith, for_prepared)

pub invariant_of-self-in-Err : goal.invariant_of-self-in-Err
invariant_of-self-in-Err c =
    let m = c.self.inside in
    let before = c.self.invariant.1 in (
      c.self.invariant.0,
      record {
        safe = before.safe;
        valid = before.valid;
        cursor = c.end.ensures.cursor m.words.backward.table.longest c.in-Err.ensures.fits;
        knows = λ search is. c.end.ensures.knows (back_tables_by search m.words.backward) m.haystack.now;
      },
      omega (arith, c.end.ensures.at),
      omega arith,
      c.self.invariant.4,
    )
