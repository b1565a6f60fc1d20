-- What callers take from this crate beside its contracts and laws: what an automaton was built of, and iterations over
-- matches. For callers.
use Rattle.std.proofs.Common.{◌≡◌, ◌↔◌, ◌+◌, ◌-◌, ◌<◌, ◌≤◌, ◌++◌, ℕ, Bool, List, [], ◌∷◌, length, map, take, Option}
use Rattle.std.proofs.Common.{None}
use Rattle.std.proofs.Common.{Some, Ok, Result, append-nil, append_assoc, refl, slice_range, sym, ap, ◌∙◌, arith}
use Rattle.std.proofs.Common.{get_or, subst, cond, inl, inr, nat_le, nat_lt, suc, true, zero, ◌&&◌, ⊎_elim}
use Rattle.std.specs.Bool.{IsTrue, ⊤}
use Rattle.std.specs.Borrow.{Bor, MutBor}
use Rattle.std.specs.Fn.{Called}
use Rattle.std.specs.Global.{Vec}
use Rattle.std.specs.Iterator.{AlwaysYields, Yields}
use Rattle.std.specs.Iterator.Adapters.{map_callee, map_source}
use Rattle.std.specs.List.{FoldsTo, IsAmong, filter}
use Rattle.std.specs.Slice.Iter.{iter_rest, iter_steps}
use Rattle.std.specs.declared.alloc.AllocError.{AllocError}
use Rattle.std.specs.declared.iter.Map.{Map}
use Rattle.std.specs.declared.slice.Iter.{Iter}
use Rattle.std.proofs.lemmas.Iterator.{YieldsList, YieldsList-from_map_by, YieldsList-from_slice, items_from_drains}
use Rattle.std.proofs.lemmas.Iterator.{maps}
use Rattle.std.proofs.lemmas.Iterator.Consumers.{YieldsList-so_far, YieldsList-turn}
use Rattle.std.proofs.lemmas.List.{get_or-map, get_or_default, length-map}
use denote.Param.Members.{Mut}
use Rattle.literal_base.specs.declared.packed.MatchKind.{MatchKind}
use Rattle.literal_base.specs.Greedy.{IsGreedy, IsGreedyIn, lies_in_one}
use Rattle.literal_base.specs.Leftmost.{IsLeftmost, IsLeftmostMatch}
use Rattle.literal_base.specs.MatchValue.{MatchValue}
use Rattle.literal_base.specs.Occurs.{NoneIsEmpty, NothingOccurs, Occurs, between, pattern_at, rest_from, whole_of}
use Rattle.literal_base.proofs.lemmas.Callers.{GivesList}
use Rattle.literal_search.specs.SearchValue.{BuildsSearch, SearchValue, GivesAll, GivesNext, NeedTooManyStates}
use Rattle.literal_search.specs.SearchValue.{search_by, MayRefuseList, NeedTooManyReversed, RefusesSearch, longest_of}
use Rattle.literal_search.specs.RefusedList.{RefusesPatterns}
use Rattle.literal_search.specs.declared.BuildError.{BuildError}
use Rattle.literal_search.specs.declared.BuildError.TheVariants.{EmptyPattern, OutOfMemory, TooManyPatterns}
use Rattle.literal_search.specs.declared.BuildError.TheVariants.{TooManyStates}
use Rattle.literal_search.specs.Automaton.{AreAtEnd, EndsText, IsStateAfter}
use Rattle.literal_base.specs.Counts.{Counts}
use Rattle.literal_search.specs.LookUps.{ScansRest, no_look_ups}
use Rattle.literal_search.specs.SearchValue.{ScansListAtMost, most_scanned}
use Rattle.literal_search.specs.MatchesValue.{GivesMatch, GivesThen, MatchesValue}
pub use Rattle.literal_search.specs.MatchesValue.{matches_in, matches_of}
use Rattle.literal_search.specs.Overlapping.{BuildsOverlapping, OverlappingValue, AreAllThat, ComesBefore, IsOccurrence}
use Rattle.literal_search.specs.Overlapping.{IsOverlapping}
use Rattle.literal_search.specs.PreparedOverlapping.{Tables, overlapping_value}
use Rattle.literal_search.specs.Replaced.{IsReplaced, IsWritten, WritesMatch, WritingValue, replaced, replaced_by}
use Rattle.literal_occurrences.proofs.lemmas.Automaton.{all_in_haystack, in_haystack, in_part}
use Rattle.literal_rows.proofs.lemmas.Rows.{none_few, one_class}
use Rattle.literal_rows.proofs.lemmas.Walk.{slice_push}
use Rattle.std.proofs.lemmas.Bool.{and_from, cases_Bool, cases_lt, le-leb, lt-ltb, or_left, or_right}
use Rattle.std.proofs.lemmas.List.Elements.{All-filter, filter_passes}
use Rattle.std.proofs.lemmas.List.Kept.{AllPairs-filter}
use Rattle.literal_base.specs.declared.search.Span.{Span}
use Rattle.literal_rows.proofs.lemmas.Longest.{longest_is}
use Rattle.literal_search.specs.WholeWords.{AreWholeWords, GivesWholeWord, IsFirstAlone, OccursAlone}
use Rattle.literal_search.specs.WholeWords.{WholeWordMatchesValue, WholeWordsValue}
pub use Rattle.literal_leftmost.proofs.lemmas.Iterations.{scanned_on}
pub use Rattle.literal_rows.proofs.lemmas.Arrays.{length_part}
pub use Rattle.literal_occurrences.proofs.lemmas.Pushed.{counts_pushed, match_at_end, pushed}

-- whichever iterator the given value becomes, that gives references to these byte strings and ends
pub record GivesBytes {U T : Type 0} (becomes : U → T → Type 0) (steps : T → Option (Bor (List ℕ)) → T → Type 0)
    (given : U) (list : List (List ℕ)) : Type 0 where
  pub each : (it : T) → becomes given it → YieldsList steps (λ p. p.now) it list

-- `list.iter().map(f)` gives what `h` says of each element, where that is what a call of `f` answers
pub mapped_gives : {A F : Type 0} {given : Map (Iter A) F} (g : Mut F (Bor A × Unit {0}) (Bor (List ℕ)))
    (h : A → List ℕ) (list : List A) {f : F} → iter_rest (map_source given) ≡ list → map_callee given ≡ f
    → ((x : Bor A) (r : Bor (List ℕ)) (q : F) → Called g f (x, tt) r q → (q ≡ f) × (r.now ≡ h x.now))
    → GivesBytes (λ s r. r ≡ s) (maps (iter_steps {A = A}) g) given (map h list)
mapped_gives g h list is callee calls = record {
  each = λ it same.
      YieldsList-from_map_by g (λ r. r.now) h
      (YieldsList-from_slice {s = map_source it} list (ap (λ i. iter_rest (map_source i)) same ∙ is))
      (ap map_callee same ∙ callee) calls;
}

-- a list goes on behind these patterns, its first ones, with one more
pub record GoesOnWith (list patterns : List (List ℕ)) (next : List ℕ) : Type 0 where
  pub are : patterns ≡ take (length patterns) list
  pub within : length patterns < length list
  pub next_is : next ≡ pattern_at list (length patterns)

-- What is built of byte strings that are given, as by `mapped_gives`, is for these.
module _ {U T : Type 0} {becomes : U → T → Type 0} {steps : T → Option (Bor (List ℕ)) → T → Type 0} {given : U}
    {list : List (List ℕ)} (gives : GivesBytes becomes steps given list) where
  -- all the items are the list
  pub all_given : {patterns : List (List ℕ)} → GivesAll becomes steps given patterns → patterns ≡ list
  all_given all = grind (arith, items_from_drains)

  -- the items before one of them are the first of the list, and it is the next
  pub next_given : {patterns : List (List ℕ)} {next : List ℕ} → GivesNext becomes steps given patterns next
      → GoesOnWith list patterns next
  next_given {patterns} {next} one =
      let all = gives.each one.iterator one.is_iterator in
      let turn = YieldsList-turn all one.items one.before one.gave (Some one.item) one.after one.item refl one.gives in
      let count : length patterns ≡ length one.items = grind (arith, length-map) in
      let so_far = YieldsList-so_far all one.items one.before one.gave in
      grind (arith, get_or_default)

  -- an error of what is built of them says why the list is refused
  pub refuses_patterns : (NeedTooMany : List (List ℕ) → Type 0) (error : BuildError)
      → RefusesSearch becomes steps given NeedTooMany error → RefusesPatterns NeedTooMany list error
  refuses_patterns NeedTooMany (EmptyPattern number) (patterns, next, one, empty, is) =
      let on = next_given one in
      grind arith
  refuses_patterns NeedTooMany OutOfMemory (inl one) = let on = next_given one.2 in omega (arith, on.within)
  refuses_patterns NeedTooMany OutOfMemory (inr all) =
      let is = all_given all.1 in omega (arith, all.2, ap (λ (l : List (List ℕ)). length l) is)
  refuses_patterns NeedTooMany TooManyPatterns one =
      let on = next_given one.2 in omega (arith, on.within, one.4)
  refuses_patterns NeedTooMany TooManyStates all = subst NeedTooMany (all_given all.1) all.2

  pub search_is_for_bytes : (kind : MatchKind) (ignore_case : Bool) (built : SearchValue)
      → BuildsSearch becomes steps given kind ignore_case built → built ≡ search_by kind ignore_case list
  search_is_for_bytes kind ignore_case built (patterns, all, is) = is ∙ ap (search_by kind ignore_case) (all_given all)

  -- and so is a search for everything that occurs
  pub overlapping_is_for_bytes : (ignore_case : Bool) (built : OverlappingValue)
      → BuildsOverlapping becomes steps given ignore_case built
      → built ≡ record { patterns = list; ignore_case = ignore_case }
  overlapping_is_for_bytes ignore_case built (patterns, all, is) =
      is ∙ ap (λ (p : List (List ℕ)). let o : OverlappingValue = record { patterns = p; ignore_case = ignore_case }
      in o) (all_given all)

-- the bytes of references
abbrev bytes_in : List (Bor (List ℕ)) → List (List ℕ)
bytes_in list = map (λ (p : Bor (List ℕ)). p.now) list

-- What is built of a list of references that is given, as by `array_gives`, is for their byte strings.
module _ {U T : Type 0} {becomes : U → T → Type 0} {steps : T → Option (Bor (List ℕ)) → T → Type 0} {given : U}
    {list : List (Bor (List ℕ))} (gives : GivesList becomes steps given list) where
  -- the list's byte strings are given
  pub list_gives_bytes : GivesBytes becomes steps given (bytes_in list)
  list_gives_bytes = record { each = λ it is. record { runs = read it list (gives.each it is).runs } }
    where
      read : (it : T) (list : List (Bor (List ℕ))) → AlwaysYields steps (λ x. x) it list
          → AlwaysYields steps (λ (p : Bor (List ℕ)). p.now) it (bytes_in list)
      read it [] runs = runs
      read it (p ∷ list) runs = (
        runs.0,
        λ x next gave.
            let one = runs.1 x next gave in (ap (λ (p : Bor (List ℕ)). p.now) one.0, read next list one.1),
      )

  pub search_is_for : (kind : MatchKind) (ignore_case : Bool) (built : SearchValue)
      → BuildsSearch becomes steps given kind ignore_case built → built ≡ search_by kind ignore_case (bytes_in list)
  search_is_for = search_is_for_bytes list_gives_bytes

  pub overlapping_is_for : (ignore_case : Bool) (built : OverlappingValue)
      → BuildsOverlapping becomes steps given ignore_case built
      → built ≡ record { patterns = bytes_in list; ignore_case = ignore_case }
  overlapping_is_for = overlapping_is_for_bytes list_gives_bytes

-- what an iteration gave, and behind it the greedy list of what is left, is the greedy list from where it stood
pub greedy_after : (m : MatchesValue) (all more : List MatchValue) (n : MatchesValue) → Yields GivesMatch m all n
    → IsGreedyIn n.search.query n.search.ignore_case n.haystack (between n.at n.span.end) more
    → IsGreedyIn m.search.query m.search.ignore_case m.haystack (between m.at m.span.end) (all ++ more)
greedy_after m [] more n stays greedy = grind arith
greedy_after m (found ∷ rest) more n run greedy = grind (arith, greedy_after run.0 rest more n run.2 greedy)

-- so what it gives up to its end is the greedy list
pub greedy_from_yields : (m : MatchesValue) (all : List MatchValue) (n o : MatchesValue) → Yields GivesMatch m all n
    → GivesMatch n None o
    → IsGreedyIn m.search.query m.search.ignore_case m.haystack (between m.at m.span.end) all
greedy_from_yields m all n o run nothing =
    subst (IsGreedyIn m.search.query m.search.ignore_case m.haystack (between m.at m.span.end)) (append-nil all)
    (greedy_after m all [] n run nothing.leftmost)

-- what an iteration over a whole haystack scans
pub scans_whole : (patterns : List (List ℕ)) (haystack : List ℕ) (old new : Counts)
    → ScansRest (longest_of patterns) (whole_of haystack) no_look_ups old new
    → ScansListAtMost patterns (length haystack) old new
scans_whole patterns haystack old new rest =
    let all : length haystack - 0 ≡ length haystack = omega arith in record {
      others = rest.others;
      most = subst (λ n. new.scanned ≤ old.scanned + most_scanned (longest_of patterns) n) all
          (omega (arith, rest.most));
    }

-- the greedy list by an iteration that began at the start of a haystack
pub greedy_from_matches : (searched : SearchValue) (haystack : List ℕ) (m : MatchesValue) (all : List MatchValue)
    (n o : MatchesValue) → m ≡ matches_of searched haystack → Yields GivesMatch m all n
    → GivesMatch n None o → IsGreedy searched.query searched.ignore_case haystack 0 all
greedy_from_matches searched haystack m all n o start run nothing =
    subst (λ (it : MatchesValue). IsGreedyIn it.search.query it.search.ignore_case it.haystack
    (between it.at it.span.end) all) start (greedy_from_yields m all n o run nothing)

-- what a loop over the matches of a haystack carries: the iteration is over them, and goes on from an offset
pub record AreMatchesFrom (search : SearchValue) (haystack : List ℕ) (at : ℕ) (it : MatchesValue) : Type 0 where
  pub search_is : it.search ≡ search
  pub haystack_is : it.haystack ≡ haystack
  pub end_is : it.span.end ≡ length haystack
  pub at_is : it.at ≡ at
  pub within : at ≤ length haystack

module _ {search : SearchValue} {haystack : List ℕ} {at : ℕ} {it next : MatchesValue}
    (from : AreMatchesFrom search haystack at it) where
  -- a step gives the leftmost match from there on
  pub match_from : {to : Span → Option MatchValue → ℕ} (answer : Option MatchValue) → GivesThen to it answer next
      → IsLeftmost search.query search.ignore_case haystack (rest_from haystack at) answer
  match_from answer step = grind arith

  -- and the loop goes on at the match's end
  pub matches_go_on : {found : MatchValue} {to : ℕ} → to ≡ found.end → GivesMatch it (Some found) next
      → AreMatchesFrom search haystack to next
  matches_go_on {found} end step = grind (arith, match_from)

-- a search of which the kind and the case are known is the one by these for its patterns
pub search_kept : (search : SearchValue) {kind : MatchKind} {ignore_case : Bool} → search.query.kind ≡ kind
    → search.ignore_case ≡ ignore_case → search ≡ search_by kind ignore_case search.query.patterns
search_kept search {kind} {ignore_case} kind_is case_is = grind arith

-- A loop over a haystack by the automaton of a search: the state after the part of it that was read.
module _ {search : OverlappingValue} {t : Tables} (is_for : overlapping_value t ≡ search) (haystack : List ℕ)
    (from at : ℕ) (after : from ≤ at) (state : ℕ)
  where
    -- a step leads to the state after the part with one byte more
    pub part_step : at < length haystack → IsStateAfter t (slice_range haystack from at) state → (next : ℕ)
        → ((text : List ℕ) → IsStateAfter t text state → IsStateAfter t (text ++ get_or haystack at 0 ∷ []) next)
        → IsStateAfter t (slice_range haystack from (at + 1)) next
    part_step inside is next step = grind (arith, slice_push)

    -- what `is_match` tells: whether an occurrence ends there
    pub part_tells : at ≤ length haystack → IsStateAfter t (slice_range haystack from at) state → (told : Bool)
        → ((text : List ℕ) → IsStateAfter t text state → IsTrue told ↔ ((i : ℕ) × EndsText t text i))
        → IsTrue told
        ↔ ((i : ℕ) × (offset : ℕ)
        × Occurs search.patterns search.ignore_case haystack (rest_from haystack from) i offset
        × (offset + length (pattern_at search.patterns i) ≡ at))
    part_tells inside is told tells =
        subst (λ (s : OverlappingValue). IsTrue told
        ↔ ((i : ℕ) × (offset : ℕ) × Occurs s.patterns s.ignore_case haystack (rest_from haystack from) i offset
        × (offset + length (pattern_at s.patterns i) ≡ at))) is_for (
          λ yes.
              let (i, ends) = (tells (slice_range haystack from at) is).0 yes in
              let (offset, o, end) = in_haystack t.patterns t.ignore_case haystack from at after inside i ends in (
                i,
                offset,
                record {
                  is_pattern = o.is_pattern;
                  after_start = o.after_start;
                  before_end = omega (arith, end);
                  same = o.same;
                },
                end,
              ),
          λ (i, offset, o, end).
              (tells (slice_range haystack from at) is).1 (
                i,
                in_part t.patterns t.ignore_case haystack from at after inside i (
                  offset,
                  record {
                    is_pattern = o.is_pattern;
                    after_start = o.after_start;
                    before_end = omega (arith, end);
                    same = o.same;
                  },
                  end,
                ),
              ),
        )

    -- what `matches` lists: the occurrences that end there
    pub part_lists : at ≤ length haystack → IsStateAfter t (slice_range haystack from at) state → (all : List ℕ)
        → ((text : List ℕ) → IsStateAfter t text state
        → AreAtEnd t.patterns t.ignore_case text (whole_of text) all)
        → AreAtEnd search.patterns search.ignore_case haystack (between from at) all
    part_lists inside is all lists =
        subst (λ (s : OverlappingValue). AreAtEnd s.patterns s.ignore_case haystack (between from at) all) is_for
        (all_in_haystack t.patterns t.ignore_case haystack from at after inside all
        (lists (slice_range haystack from at) is))

-- where there is no pattern the states are not too many
pub none_need_few : (ignore_case : Bool) → ¬ NeedTooManyStates ignore_case []
unfolding NeedTooManyStates
none_need_few ignore_case (classes, are, tells, many) = grind (arith, none_few, one_class)

-- nor are those of the reversed patterns
pub none_need_few_reversed : (ignore_case : Bool) → ¬ NeedTooManyReversed ignore_case []
unfolding NeedTooManyReversed
none_need_few_reversed ignore_case (classes, are, tells, many) = grind (arith, none_few, one_class)

-- what occurs from an offset on occurs in the haystack
is_occurrence : {search : SearchValue} {haystack : List ℕ} {at : ℕ} {found : MatchValue}
    → IsLeftmostMatch search.query search.ignore_case haystack (rest_from haystack at) found
    → IsOccurrence search.query.patterns search.ignore_case haystack (whole_of haystack) found
is_occurrence is = grind arith

-- two functions that give the same bytes for each match give the same text
pub replaced_same : (search : SearchValue) (haystack : List ℕ) (f g : MatchValue → List ℕ)
    → ((found : MatchValue)
    → IsOccurrence search.query.patterns search.ignore_case haystack (whole_of haystack) found → f found ≡ g found)
    → (at : ℕ) (all : List MatchValue) → IsGreedy search.query search.ignore_case haystack at all
    → replaced_by f haystack at all ≡ replaced_by g haystack at all
replaced_same search haystack f g same at [] nothing = refl
replaced_same search haystack f g same at (found ∷ more) greedy =
    grind (arith, is_occurrence, replaced_same search haystack f g same found.end more greedy.1)

-- what a function gives for each pattern, as replacements, is what it gives for the pattern of each match
pub replaced_by_patterns : (search : SearchValue) (haystack : List ℕ) (f : List ℕ → List ℕ) (all : List MatchValue)
    → IsGreedy search.query search.ignore_case haystack 0 all
    → replaced haystack (map f search.query.patterns) 0 all
    ≡ replaced_by (λ found. f (pattern_at search.query.patterns found.pattern)) haystack 0 all
replaced_by_patterns search haystack f all greedy = grind (arith, get_or-map, replaced_same)

-- `holds` is what holds of the function from call to call, such as that it stays as it was
module _ {F : Type 0}
    (step : F → MatchValue → Bor (List ℕ) → MutBor (Vec ℕ) → Result ⊤ AllocError → MutBor (Vec ℕ) → F → Type 0)
    (searched : SearchValue) (haystack : List ℕ) (bytes_for : MatchValue → List ℕ) (holds : F → Type 0)
    (writes : (f : F) (found : MatchValue) (bytes : Bor (List ℕ)) (before behind : MutBor (Vec ℕ)) (next : F)
    → holds f → IsOccurrence searched.query.patterns searched.ignore_case haystack (whole_of haystack) found
    → bytes.now ≡ slice_range haystack found.start found.end → step f found bytes before (Ok tt) behind next
    → holds next × (behind.now.items ≡ before.now.items ++ bytes_for found)) where
  written_behind : (first last : WritingValue F) (all : List MatchValue) → holds first.writer
      → IsGreedy searched.query searched.ignore_case haystack first.at all
      → FoldsTo (WritesMatch step haystack) first all last
      → last.text.items ++ slice_range haystack last.at (length haystack)
      ≡ first.text.items ++ replaced_by bytes_for haystack first.at all
  written_behind first last [] held nothing stays = grind arith
  written_behind first last (found ∷ more) held greedy run =
      let next = run.0 in
      let one = run.1 in
      let replacement = bytes_for found in
      let between = slice_range haystack first.at found.start in
      let rest = replaced_by bytes_for haystack found.end more in
      let called = writes first.writer found one.bytes one.before one.behind next.writer held
      (is_occurrence greedy.0) one.are_matched one.calls in
      let items_are : next.text.items ≡ (first.text.items ++ between) ++ replacement = grind arith in
      let greedy_on = subst (λ at. IsGreedy searched.query searched.ignore_case haystack at more) (sym one.goes_on)
      greedy.1 in
      written_behind next last more called.0 greedy_on run.2
      ∙ (ap (λ items. items ++ replaced_by bytes_for haystack next.at more) items_are
      ∙ (ap (λ at. ((first.text.items ++ between) ++ replacement) ++ replaced_by bytes_for haystack at more) one.goes_on
      ∙ (append_assoc (first.text.items ++ between) replacement rest
      ∙ append_assoc first.text.items between (replacement ++ rest))))

-- what calls write that put the bytes that a function gives for a match behind what was there is the text with these
pub written_by_calls : {F : Type 0}
    {step : F → MatchValue → Bor (List ℕ) → MutBor (Vec ℕ) → Result ⊤ AllocError → MutBor (Vec ℕ) → F → Type 0}
    {searched : SearchValue} {haystack : List ℕ} {writer : F} {answer : List ℕ}
    → (written : IsWritten step searched haystack writer answer) → (bytes_for : MatchValue → List ℕ)
    → (holds : F → Type 0) → holds writer
    → ((f : F) (found : MatchValue) (bytes : Bor (List ℕ)) (before behind : MutBor (Vec ℕ)) (next : F) → holds f
    → IsOccurrence searched.query.patterns searched.ignore_case haystack (whole_of haystack) found
    → bytes.now ≡ slice_range haystack found.start found.end → step f found bytes before (Ok tt) behind next
    → holds next × (behind.now.items ≡ before.now.items ++ bytes_for found))
    → answer ≡ replaced_by bytes_for haystack 0 written.matches
written_by_calls {step = step} {searched = searched} {haystack = haystack} written bytes_for holds held writes =
    written.ends
    ∙ (written_behind step searched haystack bytes_for holds writes written.first written.last written.matches
    (subst holds (sym written.begins.0) held)
    (subst (λ at. IsGreedy searched.query searched.ignore_case haystack at written.matches)
    (sym written.begins.2) written.are_greedy) written.is_written
    ∙ (ap (λ items. items ++ replaced_by bytes_for haystack written.first.at written.matches) written.begins.1
    ∙ ap (λ at. replaced_by bytes_for haystack at written.matches) written.begins.2))

-- so they replace each match, if that is the replacement of its pattern
pub replaced_by_calls : {F : Type 0}
    {step : F → MatchValue → Bor (List ℕ) → MutBor (Vec ℕ) → Result ⊤ AllocError → MutBor (Vec ℕ) → F → Type 0}
    {searched : SearchValue} {haystack : List ℕ} {writer : F} {answer : List ℕ}
    → IsWritten step searched haystack writer answer → (replacements : List (List ℕ))
    → length replacements ≡ length searched.query.patterns → (holds : F → Type 0) → holds writer
    → ((f : F) (found : MatchValue) (bytes : Bor (List ℕ)) (before behind : MutBor (Vec ℕ)) (next : F) → holds f
    → found.pattern < length searched.query.patterns → step f found bytes before (Ok tt) behind next
    → holds next × (behind.now.items ≡ before.now.items ++ pattern_at replacements found.pattern))
    → IsReplaced searched haystack replacements answer
replaced_by_calls written replacements one_for_each holds held writes = record {
  one_for_each = one_for_each;
  matches = written.matches;
  are_matches = written.are_greedy;
  is_replaced = written_by_calls written (λ found. pattern_at replacements found.pattern) holds held
      (λ f found bytes before behind next held is _ called.
      writes f found bytes before behind next held is.occurs.is_pattern called);
}

-- something occurs only where there is a pattern
pub some_if_occurs : (patterns : List (List ℕ)) (ignore_case : Bool) (haystack : List ℕ) (span : Span)
    → ¬ NothingOccurs patterns ignore_case haystack span → 0 < length patterns
some_if_occurs [] ignore_case haystack span not = absurd (not (λ i at occurs. omega (arith, occurs.is_pattern)))
some_if_occurs (bytes ∷ more) ignore_case haystack span not = omega arith

-- memory for a list is refused only where there is a pattern
pub some_if_refused : (searched : SearchValue) (haystack : List ℕ) (span : Span)
    → MayRefuseList searched haystack span → 0 < length searched.query.patterns
some_if_refused searched haystack span occurs = some_if_occurs _ _ haystack span occurs

-- no pattern is longer than the longest
pub within_longest : (patterns : List (List ℕ)) (i : ℕ) → length (pattern_at patterns i) ≤ longest_of patterns
within_longest = longest_is

among_passing : (test : MatchValue → Bool) (all : List MatchValue) (found : MatchValue) → IsAmong all found
    → test found ≡ true → IsAmong (filter test all) found
among_passing test [] found (i, (below, is)) passes = absurd (omega arith)
among_passing test (one ∷ more) found (zero, (below, is)) passes = grind arith
among_passing test (one ∷ more) found (suc i, (below, is)) passes =
    let (k, rest) = among_passing test more found (i, (omega arith, is)) passes in
    ⊎_elim
    (λ yes. subst (λ b. IsAmong (cond b (one ∷ filter test more) (filter test more)) found) (sym yes)
    (suc k, (omega (arith, rest.0), rest.1)))
    (λ no. subst (λ b. IsAmong (cond b (one ∷ filter test more) (filter test more)) found) (sym no) (k, rest))
    (cases_Bool (test one))

-- those of everything that occurs that pass a test are all that do
pub passing : (test : MatchValue → Bool) (patterns : List (List ℕ)) (ignore_case : Bool) (haystack : List ℕ)
    (span : Span) (all : List MatchValue) → IsOverlapping patterns ignore_case haystack span all
    → AreAllThat test patterns ignore_case haystack span (filter test all)
passing test patterns ignore_case haystack span all overlapping = record {
  each = All-filter test (IsOccurrence patterns ignore_case haystack span) all overlapping.each;
  pass = filter_passes test all;
  ordered = AllPairs-filter ComesBefore test all overlapping.ordered;
  every = λ found occurs passes. among_passing test all found (overlapping.every found occurs) passes;
}

-- what an iteration over whole words gave, followed by those of what is left, are those from where it was
pub words_after : (m : WholeWordMatchesValue) (all more : List MatchValue) (n : WholeWordMatchesValue)
    → Yields GivesWholeWord m all n
    → AreWholeWords n.words n.haystack (between n.at n.span.end) more
    → AreWholeWords m.words m.haystack (between m.at m.span.end) (all ++ more)
words_after m [] more n stays are = grind arith
words_after m (found ∷ rest) more n run are = grind (arith, words_after run.0 rest more n run.2 are)

-- so what it gives up to its end are all of them
pub words_from_yields : (m : WholeWordMatchesValue) (all : List MatchValue) (n o : WholeWordMatchesValue)
    → Yields GivesWholeWord m all n → GivesWholeWord n None o
    → AreWholeWords m.words m.haystack (between m.at m.span.end) all
words_from_yields m all n o run nothing =
    subst (AreWholeWords m.words m.haystack (between m.at m.span.end)) (append-nil all)
    (words_after m all [] n run nothing.leftmost)

-- what a loop over the whole words of a haystack carries: the iteration is over them, and goes on from an offset
pub record AreWordMatchesFrom (words : WholeWordsValue) (haystack : List ℕ) (at : ℕ) (it : WholeWordMatchesValue)
    : Type 0 where
  pub words_is : it.words ≡ words
  pub haystack_is : it.haystack ≡ haystack
  pub end_is : it.span.end ≡ length haystack
  pub at_is : it.at ≡ at
  pub within : at ≤ length haystack

module _ {words : WholeWordsValue} {haystack : List ℕ} {at : ℕ} {it next : WholeWordMatchesValue}
    (from : AreWordMatchesFrom words haystack at it) where
  -- a step gives the leftmost whole word from there on
  pub word_from : (answer : Option MatchValue) → GivesWholeWord it answer next
      → IsFirstAlone words haystack (rest_from haystack at) answer
  word_from answer step = grind arith

  -- and the loop goes on at the word's end
  pub words_go_on : {found : MatchValue} {to : ℕ} → to ≡ found.end → GivesWholeWord it (Some found) next
      → AreWordMatchesFrom words haystack to next
  words_go_on {found} end step = grind (arith, word_from)

-- each whole word of a span shares an offset with one of those that do not overlap
pub words_meet_all : (words : WholeWordsValue) (haystack : List ℕ) (from end : ℕ) (all : List MatchValue) (i at : ℕ)
    → NoneIsEmpty words.search.query.patterns → AreWholeWords words haystack (between from end) all
    → OccursAlone words.search.query.patterns words.search.ignore_case words.word_bytes haystack (between from end) i at
    → (place : ℕ) × at ≤ place × place < at + length (pattern_at words.search.query.patterns i)
    × (lies_in_one all place ≡ true)
words_meet_all words haystack from end [] i at some are o = absurd (are i at o)
words_meet_all words haystack from end (found ∷ more) i at some are o =
    let long : 0 < length (pattern_at words.search.query.patterns i) = some i [] o.occurs.is_pattern in
    elim (cases_lt at found.start) [
      | inl before ↦ absurd (are.0.earliest i at before o)
      | inr after ↦
          elim (cases_lt at found.end) [
            | inl inside ↦ (
              at,
              omega arith,
              omega arith,
              or_left (nat_le found.start at && nat_lt at found.end) (lies_in_one more at)
                  (and_from _ _ (le-leb found.start at after) (lt-ltb at found.end inside)),
            )
            | inr past ↦
                let rest = words_meet_all words haystack found.end end more i at some are.1 (record {
                  occurs = record {
                    is_pattern = o.occurs.is_pattern;
                    after_start = past;
                    before_end = o.occurs.before_end;
                    same = o.occurs.same;
                  };
                  alone = o.alone;
                }) in (
                  rest.0,
                  rest.1,
                  rest.2,
                  or_right (nat_le found.start rest.0 && nat_lt rest.0 found.end) (lies_in_one more rest.0) rest.3,
                )
          ]
    ]
