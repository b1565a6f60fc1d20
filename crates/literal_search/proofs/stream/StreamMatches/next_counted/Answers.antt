use Rattle.std.proofs.Common.{subst}
use Rattle.literal_pieces.specs.Inside.Sought.{Begins, IsFirst, SoughtValue, by_matches, margin_of}
use Rattle.literal_pieces.specs.Inside.Stream.{stream_value}
use Rattle.literal_search.specs.Stream.{GivesAhead, GivesStreamed, StreamValue}
use Rattle.literal_search.proofs.stream.StreamMatches.next_counted.Goals as goal

pub returns-clause-gives : goal.returns-clause-gives
returns-clause-gives g c =
    let old = c.self.inside.stream in
    let new = c.next.new.self in
    subst (λ (m : StreamValue). GivesStreamed m c.next.result (stream_value (by_matches c.self.inside.search.now)
    new.window new.at new.ahead new.reading (g.R.Read.remaining new.reader) new.is_over)) c.self.view_is
    (subst (λ (s : SoughtValue). GivesAhead (IsFirst s) (Begins s) (margin_of s)
    (stream_value s old.window old.at old.ahead old.reading (g.R.Read.remaining old.reader) old.is_over) c.next.result
    (stream_value s new.window new.at new.ahead new.reading (g.R.Read.remaining new.reader) new.is_over)) c.by.ensures
    c.next.ensures.gives)
