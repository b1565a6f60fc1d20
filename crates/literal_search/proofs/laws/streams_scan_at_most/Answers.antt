use Rattle.std.proofs.Common.{◌≡◌, ◌∙◌, ◌+◌, ◌*◌, ◌≤◌, ◌∷◌, [], Err, List, None, Ok, Option, Result, Some, ap, arith}
use Rattle.std.proofs.Common.{inl, inr, length, refl, subst, sym, true, ℕ}
use Rattle.std.proofs.iter.Next.{Yields-more}
use Rattle.std.proofs.lemmas.Bool.{cases_Bool}
use Rattle.std.specs.Iterator.{Yields}
use Rattle.std.specs.declared.io.Error.{Error}
use Rattle.literal_base.specs.Counts.{Counts}
use Rattle.literal_base.specs.MatchValue.{MatchValue}
use Rattle.literal_search.specs.Stream.{ScansMore}
use Rattle.literal_search.specs.SearchValue.{ScansListAtMost, SearchValue, longest_of, most_scanned}
use Rattle.literal_search.specs.Stream.{GivesStreamed, GivesStreamedCounted, StreamValue, bytes_read}
use Rattle.literal_search.specs.Stream.{stream_of}
use Rattle.literal_pieces.proofs.lemmas.StreamCounts.{scanned_parts, scans_on}
use Rattle.literal_search.proofs.laws.streams_scan_at_most.Goals as goal

-- a stream of this search has looked up at most twice what a list of all bytes that were read may look up
record HasLookedUp (search : SearchValue) (m : StreamValue) : Type 0 where
  search_is : m.search ≡ search
  few : m.look_ups ≤ 2 * most_scanned (longest_of search.query.patterns) (m.offset + length m.held)
  ended : m.is_over ≡ true → m.held ≡ []

few_by : (search : SearchValue) (m n : StreamValue) → m.search ≡ search
    → n.look_ups ≤ 2 * most_scanned (longest_of m.search.query.patterns) (bytes_read 0 n.offset n.held)
    → n.look_ups ≤ 2 * most_scanned (longest_of search.query.patterns) (n.offset + length n.held)
few_by search m n is few =
    let read : bytes_read 0 n.offset n.held ≡ n.offset + length n.held = omega arith in
    omega (
      arith,
      few,
      ap (λ (s : SearchValue). most_scanned (longest_of s.query.patterns) (bytes_read 0 n.offset n.held)) is,
      ap (most_scanned (longest_of search.query.patterns)) read,
    )

looked_on : (search : SearchValue) (m : StreamValue × Counts) (answer : Option (Result MatchValue Error))
    (n : StreamValue × Counts) → GivesStreamedCounted m answer n → HasLookedUp search m.0 → HasLookedUp search n.0
looked_on search m None n step is = elim (cases_Bool m.0.is_over) [
  | inl over ↦ subst (HasLookedUp search) (sym (step.gives.0 over)) is
  | inr on ↦ record {
    search_is = ap (λ (v : StreamValue). v.search) (step.gives.1 on).over ∙ is.search_is;
    few = few_by search m.0 n.0 is.search_is (step.scans.few on);
    ended = λ _. ap (λ (v : StreamValue). v.held) (step.gives.1 on).over;
  }
]
looked_on search m (Some (Ok found)) n step is = record {
  search_is = ap (λ (v : StreamValue). v.search) step.gives.2.goes_on ∙ is.search_is;
  few = few_by search m.0 n.0 is.search_is (step.scans.few step.gives.0);
  ended = λ over. let still = ap (λ (v : StreamValue). v.is_over) step.gives.2.goes_on in absurd (cc);
}
looked_on search m (Some (Err error)) n step is = record {
  search_is = ap (λ (v : StreamValue). v.search) step.gives.2.over ∙ is.search_is;
  few = few_by search m.0 n.0 is.search_is (step.scans.few step.gives.0);
  ended = λ _. ap (λ (v : StreamValue). v.held) step.gives.2.over;
}

-- so it is after any number of answers
looked_through : (search : SearchValue) (m : StreamValue × Counts) (all : List (Result MatchValue Error))
    (n : StreamValue × Counts) → Yields GivesStreamedCounted m all n → HasLookedUp search m.0
    → HasLookedUp search n.0 × ScansMore m.0.look_ups n.0.look_ups m.1 n.1
looked_through search m [] n run is = subst (λ (v : StreamValue × Counts). HasLookedUp search v.0
    × ScansMore m.0.look_ups v.0.look_ups m.1 v.1) run (is, record { others = refl; most = omega arith })
looked_through search m (one ∷ more) n run is =
    let rest = looked_through search run.0 more n run.2 (looked_on search m (Some one) run.0 run.1 is) in
    (rest.0, scans_on run.1.scans.scans rest.1 refl)

-- without its counts it is an iteration over the stream
streamed_from_counted : (m : StreamValue × Counts) (all : List (Result MatchValue Error)) (n : StreamValue × Counts)
    → Yields GivesStreamedCounted m all n → Yields GivesStreamed m.0 all n.0
streamed_from_counted m [] n stays = ap (λ (v : StreamValue × Counts). v.0) stays
streamed_from_counted m (one ∷ more) n run = (run.0.0, run.1.gives, streamed_from_counted run.0 more n run.2)

module _ (search : SearchValue) (unread : Option (List ℕ)) (first last next : StreamValue × Counts)
    (all : List (Result MatchValue Error)) (answer : Option (Result MatchValue Error))
    (is : first.0 ≡ stream_of search unread) (run : Yields GivesStreamedCounted first all last)
    (step : GivesStreamedCounted last answer next)
  where
    through : HasLookedUp search last.0 × ScansMore first.0.look_ups last.0.look_ups first.1 last.1
    through =
        looked_through search first all last run
        (rw is (record { search_is = refl; few = omega arith; ended = λ over. absurd (cc) }))

    now : HasLookedUp search next.0
    now = looked_on search last answer next step through.0

    scans_all : (read : ℕ) → next.0.offset + length next.0.held ≡ read
        → ScansListAtMost search.query.patterns (2 * read) first.1 next.1
    scans_all read read_is =
        let longest = longest_of search.query.patterns in
        let scans = scans_on through.1 step.scans.scans refl in
        let twice : 2 * read ≡ read + read = omega arith in
        record {
          others = scans.others;
          most = omega (
            arith,
            scans.most,
            ap (λ (v : StreamValue). v.look_ups) is,
            now.few,
            ap (most_scanned longest) read_is,
            ap (most_scanned longest) twice,
            scanned_parts longest read read,
          );
        }

-- after None it has ended
is_over : (m : StreamValue) (n : StreamValue) → GivesStreamed m None n → n.is_over ≡ true
is_over m n gives = elim (cases_Bool m.is_over) [
  | inl over ↦ ap (λ (v : StreamValue). v.is_over) (gives.0 over) ∙ over
  | inr on ↦ ap (λ (v : StreamValue). v.is_over) (gives.1 on).over
]

pub returns-clause-bounded : goal.returns-clause-bounded
returns-clause-bounded c = λ search unread first last next all answer is run step.
    scans_all search unread first last next all answer is run step _ refl

pub returns-clause-ended : goal.returns-clause-ended
returns-clause-ended c = λ search unread first last next all is run step.
    let none = (now search unread first last next all None is run step).ended (is_over last.0 next.0 step.gives) in
    scans_all search unread first last next all None is run step next.0.offset
    (omega (arith, ap (λ (l : List ℕ). length l) none))

pub returns-clause-streamed : goal.returns-clause-streamed
returns-clause-streamed c = λ first last all run. streamed_from_counted first all last run

pub returns-clause-more : goal.returns-clause-more
returns-clause-more c = λ first last next all one run step.
    Yields-more GivesStreamedCounted first all last one next run step
