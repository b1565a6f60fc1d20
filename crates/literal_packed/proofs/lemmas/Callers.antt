-- What callers take from this crate beside its contracts and laws: builders to which patterns are added, all at once or
-- in turn, iterations over patterns, and iterations over matches.
-- For callers.
use Rattle.std.proofs.Common.{◌≡◌, ◌<◌, ℕ, Bool, true, false, cond, nat_lt, List, [], ◌∷◌, length, map}
use Rattle.std.proofs.Common.{Option, Some, None, IfSome, refl, sym, ap, ◌∙◌, subst, ⊎_elim, ◌++◌, ltb, arith}
use Rattle.std.proofs.Common.{Result, Ok, Err, IsOk, OnErr, ◌⊎◌, inl, inr}
use Rattle.std.proofs.Common.{◌&&◌, append_assoc, append-nil, get_or, is_some, nat_le, suc, take, zero}
use Rattle.std.specs.Borrow.{Bor}
use Rattle.std.proofs.lemmas.Bool.{cases_Bool, cond-true, cond-false, ltb-true}
use Rattle.std.proofs.lemmas.Bool.Decides.{nat_tests}
use Rattle.std.proofs.lemmas.List.{length-append, length-map}
use Rattle.std.proofs.lemmas.List.Folds.{list_all-append}
use Rattle.std.proofs.lemmas.List.FromFn.{length-range_with_len}
use Rattle.std.proofs.lemmas.List.Sorted.{length_permutation}
use Rattle.std.specs.Iterator.{Yields}
use Rattle.std.specs.List.{list_all, range_with_len}
use Rattle.literal_base.specs.Counts.{none_yet}
use Rattle.literal_base.specs.MatchValue.{MatchValue}
use Rattle.literal_base.specs.Occurs.{NothingOccurs, pattern_at, rest_from, whole_of}
use Rattle.literal_base.specs.Greedy.{IsGreedy}
use Rattle.literal_base.specs.Query.{Query}
use Rattle.literal_packed.specs.BuilderValue.{BuilderValue, BuildsSearcher, IsBuildable, builder_of, searcher_of}
use Rattle.literal_packed.specs.BuilderValue.{with_added}
use Rattle.literal_packed.specs.ConfigValue.{ConfigValue, default_config}
use Rattle.literal_packed.specs.FindIterValue.{FindIterValue, FindsNext}
use Rattle.literal_packed.specs.Lending.{HoldsAll}
use Rattle.literal_packed.specs.PatternsValue.{PatternsValue, IsWellFormed, in_order}
use Rattle.literal_packed.specs.State.{WouldKeep, kept_of, may_keep, state_after, state_of}
use Rattle.literal_base.proofs.lemmas.Callers.{GivesList, items_are}
use Rattle.literal_base.proofs.lemmas.GreedyLists.{found_occurs}

-- a searcher that is built is for the patterns that were added, and for the builder's kind
module _ (config : ConfigValue) (added : List (List ℕ)) where
  abbrev IsForAdded : Option Query → Type 0
  IsForAdded built = IfSome built (λ query. query ≡ record { kind = config.kind; patterns = added })

  abbrev IsForState : Option (List (List ℕ)) → Type 0
  IsForState state = IsForAdded (searcher_of (record { config = config; state = state }))

  some_searcher : (some : Bool) → IsForAdded (cond some (Some (record { kind = config.kind; patterns = added })) None)
  some_searcher true = refl
  some_searcher false = tt

  pub built_for : (built : Option Query) → built ≡ searcher_of (builder_of config added)
      → IfSome built (λ query. query ≡ record { kind = config.kind; patterns = added })
  built_for built is =
      let may = may_keep config.pattern_limit added in
      subst IsForAdded (sym is) (⊎_elim
      (λ kept. subst IsForState (sym (cond-true may (Some added) None kept))
      (some_searcher (nat_lt 0 (length added))))
      (λ refused. subst IsForState (sym (cond-false may (Some added) None refused)) tt)
      (cases_Bool may))

module _ {U T : Type 0} {becomes : U → T → Type 0} {steps : T → Option (Bor (List ℕ)) → T → Type 0} {given : U}
    {list : List (Bor (List ℕ))} (gives : GivesList becomes steps given list) where
  -- `Searcher::new` builds what a builder of the list does
  pub built_of : (built : Option Query) → BuildsSearcher becomes steps given built
      → built ≡ searcher_of (builder_of default_config (map (λ p. p.now) list))
  built_of built (it, items, is_iterator, drains, is) =
      is ∙ ap (λ (all : List (Bor (List ℕ))). searcher_of (builder_of default_config (map (λ p. p.now) all)))
      (items_are gives it items is_iterator drains)

  -- so a searcher that it builds is for the list
  pub searches_for : (built : Option Query) → BuildsSearcher becomes steps given built
      → IfSome built (λ query. query ≡ record { kind = default_config.kind; patterns = map (λ p. p.now) list })
  searches_for built builds = built_for default_config (map (λ p. p.now) list) built (built_of built builds)

  -- `Builder::extend` adds the list
  pub adds_all : (old new : BuilderValue) → HoldsAll becomes steps given old new
      → new ≡ with_added old (map (λ p. p.now) list)
  adds_all old new (it, items, is_iterator, adds, drains) =
      adds ∙ ap (λ (all : List (Bor (List ℕ))). with_added old (map (λ p. p.now) all))
      (items_are gives it items is_iterator drains)

abbrev has_a_byte : List ℕ → Bool
has_a_byte bytes = ltb 0 (length bytes)

-- what may not be kept may not with more patterns either
past_for_good : (limit : ℕ) (a b : List (List ℕ)) → may_keep limit a ≡ false → may_keep limit (a ++ b) ≡ false
past_for_good limit a b past = grind (arith, nat_tests, list_all-append has_a_byte a b, length-append a b)

after_state : (limit : ℕ) (a b : List (List ℕ)) (first : List ℕ) (kept : Bool) → may_keep limit a ≡ kept
    → state_after limit (cond kept (Some a) None) (first ∷ b) ≡ state_of limit (a ++ first ∷ b)
after_state limit a b first true is = refl
after_state limit a b first false is =
    sym (ap (λ k. cond k (Some (a ++ first ∷ b)) None) (past_for_good limit a (first ∷ b) is))

-- where patterns are kept, the first is not empty
first_if_kept : (limit : ℕ) (first : List ℕ) (more : List (List ℕ)) → is_some (state_of limit (first ∷ more)) ≡ true
    → 0 < length first
first_if_kept limit first more = from (has_a_byte first) refl
  where
    from : (some : Bool) → has_a_byte first ≡ some
        → is_some (cond ((some && list_all has_a_byte more) && nat_le (length (first ∷ more)) limit)
        (Some (first ∷ more)) None) ≡ true
        → 0 < length first
    from true is kept = ltb-true 0 (length first) is
    from false is kept = absurd cc

would_keep_is : (limit : ℕ) (state : Option (List (List ℕ))) (bytes : List ℕ) → WouldKeep limit state bytes
    → (0 < length bytes) × (is_some state ≡ true)
would_keep_is limit (Some kept) bytes keeps = (keeps.0, refl)
would_keep_is limit None bytes keeps = absurd keeps

-- so it is where a later one would be kept after those before it, as a loop over them has it
pub first_if_keeps : {A : Type 0} (limit : ℕ) (f : A → List ℕ) (list : List A) (i : ℕ) (d : A) → i < length list
    → WouldKeep limit (state_of limit (map f (take i list))) (f (get_or list i d))
    → 0 < length (pattern_at (map f list) 0)
first_if_keeps limit f [] i d below keeps = absurd (omega (arith, below))
first_if_keeps limit f (x ∷ more) zero d below keeps = (would_keep_is limit _ (f x) keeps).0
first_if_keeps limit f (x ∷ more) (suc i) d below keeps =
    first_if_kept limit (f x) (map f (take i more)) (would_keep_is limit _ (f (get_or more i d)) keeps).1

kept_is : (state : Option (List (List ℕ))) → 0 < length (kept_of state) → is_some state ≡ true
kept_is (Some kept) some = refl
kept_is None some = absurd (omega (arith, some))

-- and where any is kept
pub first_if_some : (limit : ℕ) (added : List (List ℕ)) → 0 < length (kept_of (state_of limit added))
    → 0 < length (pattern_at added 0)
first_if_some limit [] some = from (nat_le 0 limit) some
  where
    from : (fits : Bool) → 0 < length (kept_of (cond fits (Some []) None)) → 0 < length (pattern_at [] 0)
    from true some = absurd (omega (arith, some))
    from false some = absurd (omega (arith, some))
first_if_some limit (first ∷ more) some =
    first_if_kept limit first more (kept_is (state_of limit (first ∷ more)) some)

-- and where a build is refused memory
pub first_if_refused : {A E : Type 0} (config : ConfigValue) (added : List (List ℕ)) (builder : BuilderValue)
    → builder ≡ builder_of config added → (built : Result A E) → IsOk built ⊎ IsBuildable builder
    → OnErr built (0 < length (pattern_at added 0))
first_if_refused config added builder added_all (Ok answer) why = tt
first_if_refused config added builder added_all (Err error) why =
    let kept : IsBuildable builder = elim why [ inl succeeded ↦ absurd cc | inr able ↦ able ] in
    first_if_some config.pattern_limit added (subst IsBuildable added_all kept)

-- one addition after another is one of both, of the state of any builder with a limit
pub state_after-state_of : (limit : ℕ) (a b : List (List ℕ))
    → state_after limit (state_of limit a) b ≡ state_of limit (a ++ b)
state_after-state_of limit a [] = ap (state_of limit) (sym (append-nil a))
state_after-state_of limit a (first ∷ b) = after_state limit a b first (may_keep limit a) refl

-- two additions in turn are one of both
pub state_after-append : (limit : ℕ) (state : Option (List (List ℕ))) (a b : List (List ℕ))
    → state_after limit (state_after limit state a) b ≡ state_after limit state (a ++ b)
state_after-append limit state [] b = refl
state_after-append limit state (first ∷ a) [] = ap (state_after limit state) (sym (append-nil (first ∷ a)))
state_after-append limit None (first ∷ a) (next ∷ b) = refl
state_after-append limit (Some kept) (first ∷ a) (next ∷ b) =
    state_after-state_of limit (kept ++ first ∷ a) (next ∷ b)
    ∙ ap (state_of limit) (append_assoc kept (first ∷ a) (next ∷ b))

-- the same of a builder
pub added_more : (config : ConfigValue) (a b : List (List ℕ))
    → with_added (builder_of config a) b ≡ builder_of config (a ++ b)
added_more config a b = ap (λ s. record { config = config; state = s }) (state_after-state_of config.pattern_limit a b)

-- a builder with no pattern to which two are added in turn is the builder of both
pub added_two : (config : ConfigValue) (a b : List ℕ) (mid new : BuilderValue)
    → mid ≡ with_added (builder_of config []) (a ∷ [])
    → new ≡ with_added mid (b ∷ []) → new ≡ builder_of config (a ∷ b ∷ [])
added_two config a b mid new first second =
    let one : mid ≡ builder_of config (a ∷ []) = first ∙ added_more config [] (a ∷ []) in
    second ∙ (ap (λ m. with_added m (b ∷ [])) one ∙ added_more config (a ∷ []) (b ∷ []))

-- the number of patterns of an iteration, and their identifiers
pub length_in_order : (c : PatternsValue) → IsWellFormed c → length (in_order c) ≡ length c.patterns
length_in_order c w =
    let n = length c.patterns in
    length-map c.order (λ i. (i, pattern_at c.patterns i))
    ∙ (length_permutation (range_with_len 0 n) c.order w.once ∙ length-range_with_len 0 n)

firsts : (f : ℕ → List ℕ) (ids : List ℕ) → map (λ (p : ℕ × List ℕ). p.0) (map (λ i. (i, f i)) ids) ≡ ids
firsts f [] = refl
firsts f (i ∷ ids) = ap (λ js. i ∷ js) (firsts f ids)

pub map_in_order : (c : PatternsValue) → map (λ (p : ℕ × List ℕ). p.0) (in_order c) ≡ c.order
map_in_order c = firsts (pattern_at c.patterns) c.order

-- an iteration over matches keeps what it searches for, and where
keeps_search : (s : FindIterValue) (all : List MatchValue) (t : FindIterValue) → Yields FindsNext s all t
    → (t.query ≡ s.query) × (t.haystack ≡ s.haystack)
keeps_search s [] t stays = (sym (ap (λ f. f.query) stays), sym (ap (λ f. f.haystack) stays))
keeps_search s (found ∷ more) t run =
    let rest = keeps_search run.0 more t run.2 in
    (rest.0 ∙ ap (λ f. f.query) run.1.goes_on, rest.1 ∙ ap (λ f. f.haystack) run.1.goes_on)

-- where one that began at the start of a haystack gives a match, a pattern occurs there
pub occurs_from_run : (query : Query) (haystack : List ℕ) (s : FindIterValue) (all : List MatchValue)
    (t u : FindIterValue) (found : MatchValue)
    → s ≡ record { query = query; haystack = haystack; at = 0; counts = none_yet }
    → Yields FindsNext s all t → FindsNext t (Some found) u
    → ¬ NothingOccurs query.patterns false haystack (whole_of haystack)
occurs_from_run query haystack s all t u found start run gives =
    let kept = keeps_search s all t run in
    subst (λ (q : Query). ¬ NothingOccurs q.patterns false haystack (whole_of haystack))
    (kept.0 ∙ ap (λ f. f.query) start)
    (subst (λ h. ¬ NothingOccurs t.query.patterns false h (whole_of h)) (kept.1 ∙ ap (λ f. f.haystack) start)
    (found_occurs t.query false t.haystack (rest_from t.haystack t.at) found refl gives.leftmost))

-- what an iteration over matches gives up to its end is the greedy list from where it stood
greedy_from_yields : (s : FindIterValue) (all : List MatchValue) (t u : FindIterValue) → Yields FindsNext s all t
    → FindsNext t None u → IsGreedy s.query false s.haystack s.at all
greedy_from_yields s [] t u stays nothing =
    subst (λ (f : FindIterValue). NothingOccurs f.query.patterns false f.haystack (rest_from f.haystack f.at))
    (sym stays) nothing.leftmost
greedy_from_yields s (found ∷ more) t u run nothing = (
  run.1.leftmost,
  subst (λ (f : FindIterValue). IsGreedy f.query false f.haystack f.at more) run.1.goes_on
      (greedy_from_yields run.0 more t u run.2 nothing),
)

-- the same of one that began at the start of a haystack
pub greedy_from_run : (query : Query) (haystack : List ℕ) (s : FindIterValue) (all : List MatchValue)
    (t u : FindIterValue) → s ≡ record { query = query; haystack = haystack; at = 0; counts = none_yet }
    → Yields FindsNext s all t → FindsNext t None u → IsGreedy query false haystack 0 all
greedy_from_run query haystack s all t u start run nothing =
    subst (λ (f : FindIterValue). IsGreedy f.query false f.haystack f.at all) start
    (greedy_from_yields s all t u run nothing)
