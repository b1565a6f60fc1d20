use Rattle.std.proofs.Common.{refl, subst}
use Rattle.literal_pieces.specs.Inside.Sought.{Begins, IsFirst, SoughtValue, by_words, margin_of}
use Rattle.literal_pieces.specs.Inside.Stream.{stream_value}
use Rattle.literal_search.specs.Stream.{GivesAhead, GivesWordStreamed, WordStreamValue}
use Rattle.literal_search.proofs.word_stream.WholeWordStreamMatches.next_counted.Goals as goal

pub returns-clause-gives : goal.returns-clause-gives
returns-clause-gives g c =
    let old = c.self.inside.stream in
    let new = c.next.new.self in
    let words = c.self.inside.words.now in
    subst (λ (m : WordStreamValue). GivesWordStreamed m c.next.result (record {
      stream = stream_value (by_words words) new.window new.at new.ahead new.reading (g.R.Read.remaining new.reader)
          new.is_over;
      word_bytes = words.word_bytes;
    })) c.self.view_is (record {
      gives = subst (λ (s : SoughtValue). GivesAhead (IsFirst s) (Begins s) (margin_of s)
          (stream_value s old.window old.at old.ahead old.reading (g.R.Read.remaining old.reader) old.is_over)
          c.next.result
          (stream_value s new.window new.at new.ahead new.reading (g.R.Read.remaining new.reader) new.is_over))
          c.by.ensures c.next.ensures.gives;
      same = refl;
    })
