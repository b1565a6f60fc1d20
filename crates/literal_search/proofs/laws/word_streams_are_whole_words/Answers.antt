use Rattle.std.proofs.Common.{◌≡◌, ◌∷◌, [], Bool, Err, List, None, Ok, Option, Result, Some, ap, arith}
use Rattle.std.proofs.Common.{map, refl, subst, ℕ}
use Rattle.std.specs.Iterator.{Yields}
use Rattle.std.specs.declared.io.Error.{Error}
use Rattle.literal_base.specs.MatchValue.{MatchValue}
use Rattle.literal_base.specs.Occurs.{rest_from}
use Rattle.literal_search.specs.SearchValue.{SearchValue}
use Rattle.literal_search.specs.Stream.{GivesAhead, GivesWordStreamed, IsFirstWordFrom, OccursAloneFrom, StreamValue}
use Rattle.literal_search.specs.Stream.{WordStreamValue, stream_of, word_stream_of}
use Rattle.literal_search.specs.WholeWords.{AreWholeWords, WholeWordsValue}
use Rattle.literal_pieces.specs.Inside.Stream.{GoesThrough}
use Rattle.literal_pieces.proofs.lemmas.Streams.{GoesOverAll, read_all, streamed_all, streamed_failed, streamed_first}
use Rattle.literal_pieces.proofs.lemmas.Streams.{streamed_len, streamed_to}
use Rattle.literal_search.proofs.laws.word_streams_are_whole_words.Goals as goal

module _ (words : WholeWordsValue) where
  -- a step of an iteration over a stream of these words
  abbrev Step : StreamValue → Option (Result MatchValue Error) → StreamValue → Type 0
  Step = GivesAhead (IsFirstWordFrom words) (OccursAloneFrom words) 1

  abbrev In : List ℕ → StreamValue → Type 0
  In bytes = GoesThrough (IsFirstWordFrom words) (OccursAloneFrom words) 1 words.search bytes

  -- the iteration is over these words
  abbrev IsOver : WordStreamValue → Type 0
  IsOver m = (m.stream.search ≡ words.search) × (m.word_bytes ≡ words.word_bytes)

  step_by : (m : WordStreamValue) (answer : Option (Result MatchValue Error)) (n : WordStreamValue) → IsOver m
      → GivesWordStreamed m answer n → Step m.stream answer n.stream
  step_by m answer n is step =
      subst (λ (s : SearchValue). let w : WholeWordsValue =
      record { search = s; word_bytes = words.word_bytes } in
      GivesAhead (IsFirstWordFrom w) (OccursAloneFrom w) 1 m.stream answer n.stream) is.0
      (subst (λ (b : List Bool). let w : WholeWordsValue = record { search = m.stream.search; word_bytes = b } in
      GivesAhead (IsFirstWordFrom w) (OccursAloneFrom w) 1 m.stream answer n.stream) is.1 step.gives)

  -- all steps are of the same words
  steps_by : (m : WordStreamValue) (all : List MatchValue) (n : WordStreamValue) → IsOver m
      → Yields GivesWordStreamed m (map Ok all) n → Yields Step m.stream (map Ok all) n.stream × IsOver n
  steps_by m [] n is run = (
    ap (λ (v : WordStreamValue). v.stream) run,
    subst (λ (v : WordStreamValue). IsOver v) run is,
  )
  steps_by m (found ∷ more) n is run =
      let next : IsOver run.0 = grind arith in
      let rest = steps_by run.0 more n next run.2 in
      ((run.0.stream, step_by m (Some (Ok found)) run.0 is run.1, rest.0), rest.1)

  -- at first it is a prefix of the text
  at_the_start : (bytes : List ℕ) → In bytes (stream_of words.search (Some bytes))
  at_the_start bytes = grind arith

  over_all : GoesOverAll (IsFirstWordFrom words) (λ text at. AreWholeWords words text (rest_from text at))
  over_all = record { none = λ text from nothing. nothing; some = λ text from found more first list. (first, list) }

  module _ (bytes : List ℕ) (all : List MatchValue) (last : WordStreamValue)
      (run : Yields GivesWordStreamed (word_stream_of words (Some bytes)) (map Ok all) last)
    where
      all_steps : Yields Step (stream_of words.search (Some bytes)) (map Ok all) last.stream × IsOver last
      all_steps = steps_by (word_stream_of words (Some bytes)) all last (refl, refl) run

      then_there : In bytes last.stream
      then_there =
          streamed_to _ _ 1 words.search bytes (stream_of words.search (Some bytes)) all last.stream
          (at_the_start bytes) all_steps.0

pub returns-clause-so_far : goal.returns-clause-so_far
returns-clause-so_far c = λ words bytes last all more run list.
    streamed_first _ _ 1 words.search bytes _ (over_all words) (stream_of words.search (Some bytes)) all last.stream
    more (at_the_start words bytes) (all_steps words bytes all last run).0 list

pub returns-clause-whole : goal.returns-clause-whole
returns-clause-whole c = λ words bytes last ended all run ends.
    let steps = all_steps words bytes all last run in
    streamed_all _ _ 1 words.search bytes _ (over_all words) (stream_of words.search (Some bytes)) all last.stream
    ended.stream (at_the_start words bytes) steps.0 (step_by words last None ended steps.1 ends)

pub returns-clause-read : goal.returns-clause-read
returns-clause-read c = λ words bytes last ended all run ends.
    streamed_len _ _ 1 words.search bytes last.stream ended.stream (then_there words bytes all last run)
    (step_by words last None ended (all_steps words bytes all last run).1 ends)

pub returns-clause-failed : goal.returns-clause-failed
returns-clause-failed c = λ words bytes last ended all error run fails i offset occurs.
    omega (
      arith,
      streamed_failed _ _ 1 words.search bytes last.stream error ended.stream (then_there words bytes all last run)
          (step_by words last (Some (Err error)) ended (all_steps words bytes all last run).1 fails) i offset occurs,
    )

pub returns-clause-all_read : goal.returns-clause-all_read
returns-clause-all_read c = λ words unread last ended all run ends.
    let steps = steps_by words (word_stream_of words unread) all last (refl, refl) run in
    let read = read_all (IsFirstWordFrom words) (OccursAloneFrom words) 1
    (λ text at. AreWholeWords words text (rest_from text at)) (over_all words) (stream_of words.search unread) all
    last.stream ended.stream refl steps.0 (step_by words last None ended steps.1 ends) in
    (read.piece, read.reads, omega (arith, read.len), read.are_all [] refl)
