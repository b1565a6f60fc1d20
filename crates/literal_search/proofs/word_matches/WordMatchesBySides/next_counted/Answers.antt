use Rattle.std.proofs.Common.{arith, refl, subst, ℕ}
use Rattle.literal_base.specs.Occurs.{between}
use Rattle.literal_words.specs.Inside.WholeWords.{WordParts, starts_looked_up, whole_words_value}
use Rattle.literal_search.specs.Inside.OwnedWords.{owned_parts}
use Rattle.literal_search.specs.WholeWords.{GivesWordBySides, IsFirstAloneBy, WholeWordMatchesValue}
use Rattle.literal_search.specs.WholeWords.{WordMatchesBySidesValue}
use Rattle.literal_leftmost.proofs.lemmas.Prepared.{some_by}
use Rattle.literal_words.proofs.lemmas.WholeWords.{for_words}
use Rattle.literal_search.proofs.word_matches.WordMatchesBySides.next_counted.Goals as goal

pub returns-clause-gives : goal.returns-clause-gives
returns-clause-gives c =
    let m = c.self.inside in
    let told = c.in-Ok.ensures in
    let starts = c.next_word-next.new.starts in
    let parts = owned_parts m.parts.now in
    let answer = c.in-Ok.answer in
    let new_at = λ (at from : ℕ). let v : WholeWordMatchesValue = record {
      words = whole_words_value parts;
      haystack = m.haystack.now;
      span = m.span;
      at = at;
      from = from;
      look_ups = starts_looked_up m.words m.span starts;
    } in v in
    subst (λ (v : WordMatchesBySidesValue). GivesWordBySides v answer
    (record { matches = new_at c.offset_after-self-inside.result starts.at; sides = m.sides.now }))
    c.self.view_is (record {
      gives = record {
        leftmost = for_words parts m.words c.self.invariant.1 c.self.invariant.0 (λ (p : WordParts).
            IsFirstAloneBy (whole_words_value p) m.haystack.now m.sides.now (between m.at m.span.end) answer)
            told.leftmost;
        not_empty = some_by m.words.backward m.span m.at answer told.lies;
        look_ups = starts_looked_up m.words m.span starts;
        goes_on = grind arith;
        looks = grind arith;
      };
      same = refl;
    })
