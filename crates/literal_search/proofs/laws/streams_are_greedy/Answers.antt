use Rattle.std.proofs.Common.{◌≡◌, ◌∙◌, ◌∷◌, [], Err, List, None, Ok, Option, Result, Some, ap, arith, map}
use Rattle.std.proofs.Common.{refl, subst, sym, ℕ}
use Rattle.std.specs.Iterator.{Yields}
use Rattle.std.specs.declared.io.Error.{Error}
use Rattle.literal_base.specs.Greedy.{IsGreedy}
use Rattle.literal_base.specs.MatchValue.{MatchValue}
use Rattle.literal_search.specs.SearchValue.{SearchValue}
use Rattle.literal_search.specs.Stream.{GivesAhead, GivesStreamed, IsLeftmostFrom, OccursFrom, StreamValue, stream_of}
use Rattle.literal_pieces.specs.Inside.Stream.{GoesThrough}
use Rattle.literal_pieces.proofs.lemmas.Streams.{GoesOverAll, read_all, streamed_all, streamed_failed, streamed_first}
use Rattle.literal_pieces.proofs.lemmas.Streams.{streamed_len, streamed_to}
use Rattle.literal_search.proofs.laws.streams_are_greedy.Goals as goal

module _ (search : SearchValue) where
  -- a step of an iteration over a stream of this search
  abbrev Step : StreamValue → Option (Result MatchValue Error) → StreamValue → Type 0
  Step = GivesAhead (IsLeftmostFrom search) (OccursFrom search) 0

  abbrev In : List ℕ → StreamValue → Type 0
  In bytes = GoesThrough (IsLeftmostFrom search) (OccursFrom search) 0 search bytes

  step_by : (m : StreamValue) (answer : Option (Result MatchValue Error)) (n : StreamValue) → m.search ≡ search
      → GivesStreamed m answer n → Step m answer n
  step_by m answer n is step =
      subst (λ (s : SearchValue). GivesAhead (IsLeftmostFrom s) (OccursFrom s) 0 m answer n) is step

  -- all steps are of the same search
  steps_by : (m : StreamValue) (all : List MatchValue) (n : StreamValue) → m.search ≡ search
      → Yields GivesStreamed m (map Ok all) n → Yields Step m (map Ok all) n
  steps_by m [] n is run = run
  steps_by m (found ∷ more) n is run = (
    run.0,
    step_by m (Some (Ok found)) run.0 is run.1,
    steps_by run.0 more n (ap (λ (v : StreamValue). v.search) run.1.2.goes_on ∙ is) run.2,
  )

  kept_by : (m : StreamValue) (all : List MatchValue) (n : StreamValue) → m.search ≡ search
      → Yields GivesStreamed m (map Ok all) n → n.search ≡ search
  kept_by m [] n is run = ap (λ (v : StreamValue). v.search) (sym run) ∙ is
  kept_by m (found ∷ more) n is run =
      kept_by run.0 more n (ap (λ (v : StreamValue). v.search) run.1.2.goes_on ∙ is) run.2

  -- at first it is a prefix of the text
  at_the_start : (bytes : List ℕ) → In bytes (stream_of search (Some bytes))
  at_the_start bytes = grind arith

  over_all : GoesOverAll (IsLeftmostFrom search) (IsGreedy search.query search.ignore_case)
  over_all = record { none = λ text from nothing. nothing; some = λ text from found more first list. (first, list) }

  then_there : (bytes : List ℕ) (all : List MatchValue) (last : StreamValue)
      → Yields GivesStreamed (stream_of search (Some bytes)) (map Ok all) last → In bytes last
  then_there bytes all last run =
      streamed_to _ _ 0 search bytes (stream_of search (Some bytes)) all last (at_the_start bytes)
      (steps_by _ all last refl run)

pub returns-clause-so_far : goal.returns-clause-so_far
returns-clause-so_far c = λ search bytes last all more run list.
    streamed_first _ _ 0 search bytes _ (over_all search) (stream_of search (Some bytes)) all last more
    (at_the_start search bytes) (steps_by search _ all last refl run) list

pub returns-clause-whole : goal.returns-clause-whole
returns-clause-whole c = λ search bytes last ended all run ends.
    streamed_all _ _ 0 search bytes _ (over_all search) (stream_of search (Some bytes)) all last ended
    (at_the_start search bytes) (steps_by search _ all last refl run)
    (step_by search last None ended (then_there search bytes all last run).search_is ends)

pub returns-clause-read : goal.returns-clause-read
returns-clause-read c = λ search bytes last ended all run ends. grind (arith, step_by, streamed_len, then_there)

pub returns-clause-failed : goal.returns-clause-failed
returns-clause-failed c = λ search bytes last ended all error run fails i offset occurs.
    let there = then_there search bytes all last run in
    omega (
      arith,
      streamed_failed _ _ 0 search bytes last error ended there
          (step_by search last (Some (Err error)) ended there.search_is fails) i offset occurs,
    )

pub returns-clause-all_read : goal.returns-clause-all_read
returns-clause-all_read c = λ search unread last ended all run ends.
    let is : last.search ≡ search = kept_by search (stream_of search unread) all last refl run in
    let read = read_all (IsLeftmostFrom search) (OccursFrom search) 0 (IsGreedy search.query search.ignore_case)
    (over_all search) (stream_of search unread) all last ended refl (steps_by search _ all last refl run)
    (step_by search last None ended is ends) in
    (read.piece, read.reads, omega (arith, read.len), read.are_all [] refl)
