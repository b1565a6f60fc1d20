use Rattle.std.proofs.Common.{ap}
use Rattle.literal_search.specs.Stream.{StreamValue, WordStreamValue}
use Rattle.literal_search.proofs.whole_words.WholeWords.find_stream.Goals as goal

pub returns : goal.returns
returns g c =
    let words = c.args.self.now in
    ap (λ (s : StreamValue). let m : WordStreamValue = record { stream = s; word_bytes = words.word_bytes } in m)
    (rw c.by.ensures at c.in_ok-stream.ensures.first)
