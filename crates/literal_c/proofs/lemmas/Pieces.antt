-- The ends at which a buffer can be cut, and its pieces.
-- For `Pieces`, `are_ends`, `can_be_searched`, `search_for` and `answer_each`.
use Rattle.std.proofs.Common.{◌≡◌, ◌↔◌, ℕ, ◌+◌, ◌<◌, ◌≤◌, List, [], ◌∷◌, ◌++◌, length, map, Bor, suc}
use Rattle.std.proofs.Common.{refl, sym, ap, ◌∙◌, subst, arith, add-one}
use Rattle.std.proofs.Common.{Bool, inl, inr, take, append_assoc}
use Rattle.std.proofs.Math.ListN.{set}
use Rattle.std.proofs.Math.Seq.{take-suc-set}
use Rattle.std.proofs.lemmas.List.{length-append, length-map, map-append}
use Rattle.std.proofs.lemmas.List.Elements.{All-cons}
use Rattle.std.proofs.lemmas.Iterator.Consumers.{YieldsList-from_first}
use Rattle.std.specs.Iterator.{YieldsFirstRef}
use Rattle.std.specs.List.{AllZip}
use Rattle.literal_base.specs.declared.packed.MatchKind.{MatchKind}
use Rattle.literal_base.specs.Occurs.{NoneIsEmpty}
use Rattle.literal_search.specs.Overlapping.{BuildsOverlapping, OverlappingValue}
use Rattle.literal_c.specs.Overlapping.{overlapping_for}
use Rattle.literal_search.specs.SearchValue.{BuildsSearch, SearchValue, GivesNext, RefusesSearch, search_by}
use Rattle.literal_search.specs.declared.BuildError.{BuildError}
use Rattle.literal_search.specs.declared.BuildError.TheVariants.{EmptyPattern, OutOfMemory, TooManyPatterns}
use Rattle.literal_search.specs.declared.BuildError.TheVariants.{TooManyStates}
use Rattle.literal_search.proofs.lemmas.Callers.{GivesBytes, all_given, next_given, overlapping_is_for_bytes}
use Rattle.literal_search.proofs.lemmas.Callers.{search_is_for_bytes}
use Rattle.literal_c.specs.declared.LiteralAnswer.{LiteralAnswer}
use Rattle.literal_c.specs.Pieces.{AreEnds, pieces}

-- the place from which a buffer can be cut lies in it
pub end_within : (len from : ℕ) (ends : List ℕ) → AreEnds len from ends → from ≤ len
end_within len from [] cut = cut
end_within len from (end ∷ more) cut =
    let first : from ≤ end = cut.0 in
    let rest : end ≤ len = end_within len end more cut.1 in
    omega arith

-- the next end, and those behind it
pub next_end : (len from : ℕ) (ends : List ℕ) (end : ℕ) (others : List ℕ) → ends ≡ end ∷ others
    → AreEnds len from ends → (from ≤ end) × (end ≤ len) × AreEnds len end others
next_end len from ends end others split cut =
    let both : (from ≤ end) × AreEnds len end others = subst (λ es. AreEnds len from es) split cut in
    (both.0, end_within len end others both.1, both.1)

-- there are as many pieces as ends
pub pieces_are_as_many : (buffer : List ℕ) (from : ℕ) (ends : List ℕ) → length (pieces buffer from ends) ≡ length ends
pieces_are_as_many buffer from [] = refl
pieces_are_as_many buffer from (end ∷ more) = ap suc (pieces_are_as_many buffer end more)

-- pieces that are handed over one after another are given
pieces_given : (left : List (List ℕ))
    → GivesBytes (λ (patterns it : List (List ℕ)). it ≡ patterns) (YieldsFirstRef (λ (s : List (List ℕ)). s)) left left
pieces_given left = record { each = λ it is. YieldsList-from_first (λ p. p.now) (λ s. s) left is }

-- what is built for them
pub built_for : (kind : MatchKind) (ignore_case : Bool) (left : List (List ℕ)) (built : SearchValue)
    → BuildsSearch (λ (patterns it : List (List ℕ)). it ≡ patterns) (YieldsFirstRef (λ (s : List (List ℕ)). s)) left
    kind ignore_case built → built ≡ search_by kind ignore_case left
built_for kind ignore_case left = search_is_for_bytes (pieces_given left) kind ignore_case

pub all_built_for : (ignore_case : Bool) (left : List (List ℕ)) (built : OverlappingValue)
    → BuildsOverlapping (λ (patterns it : List (List ℕ)). it ≡ patterns) (YieldsFirstRef (λ (s : List (List ℕ)). s))
    left ignore_case built → built ≡ overlapping_for left ignore_case
all_built_for ignore_case left = overlapping_is_for_bytes (pieces_given left) ignore_case

-- where there is no search for pieces that are handed over, since they need too many states, they do need them
pub too_many_for : (P : List (List ℕ) → Type 0) (left : List (List ℕ)) (error : BuildError)
    → RefusesSearch (λ (patterns it : List (List ℕ)). it ≡ patterns) (YieldsFirstRef (λ (s : List (List ℕ)). s)) left P
    error → error ≡ TooManyStates → P left
too_many_for P left TooManyStates (patterns, all, too_many) is =
    subst P (all_given (pieces_given left) all) too_many
too_many_for P left (EmptyPattern number) refused is = absurd (cc)
too_many_for P left TooManyPatterns refused is = absurd (cc)
too_many_for P left OutOfMemory refused is = absurd (cc)

given_next : (left patterns : List (List ℕ)) (next : List ℕ)
    → GivesNext (λ (patterns it : List (List ℕ)). it ≡ patterns) (YieldsFirstRef (λ (s : List (List ℕ)). s)) left
    patterns next → 0 < length left
given_next left patterns next one = let on = next_given (pieces_given left) one in omega (arith, on.within)

-- where there is no search for pieces, there is one of them, if none do not need too many states
pub some_for : (P : List (List ℕ) → Type 0) (left : List (List ℕ)) (error : BuildError)
    → RefusesSearch (λ (patterns it : List (List ℕ)). it ≡ patterns) (YieldsFirstRef (λ (s : List (List ℕ)). s)) left P
    error → ¬ P [] → 0 < length left
some_for P left TooManyStates refused few = by left (too_many_for P left TooManyStates refused refl)
  where
    by : (list : List (List ℕ)) → P list → 0 < length list
    by [] too_many = absurd (few too_many)
    by (piece ∷ more) too_many = omega arith
some_for P left (EmptyPattern number) refused few = given_next left refused.0 refused.1 refused.2
some_for P left TooManyPatterns refused few = given_next left refused.0 refused.1 refused.2
some_for P left OutOfMemory (inl one) few = given_next left one.0 one.1 one.2
some_for P left OutOfMemory (inr (patterns, all, some)) few =
    omega (arith, some, ap (λ (l : List (List ℕ)). length l) (all_given (pieces_given left) all))

-- whether a pattern is empty, among those that are left and those behind the first of these
pub tail_not_empty : (first : List ℕ) (more : List (List ℕ)) → NoneIsEmpty (first ∷ more) → NoneIsEmpty more
tail_not_empty first more all = λ k d lt. let lt' : suc k < length (first ∷ more) = omega arith in all (suc k) d lt'

pub more_not_empty : (left : List (List ℕ)) (first : List ℕ) (more : List (List ℕ)) → left ≡ first ∷ more
    → 0 < length first → NoneIsEmpty left ↔ NoneIsEmpty more
more_not_empty left first more split some = (
  λ all. tail_not_empty first more (subst NoneIsEmpty split all),
  λ all. subst NoneIsEmpty (sym split) (All-cons (λ (bytes : List ℕ). 0 < length bytes) first more some all),
)

-- answers for one haystack more, behind those for the haystacks before it
module _ (P : List ℕ → LiteralAnswer → Type 0) where
  push : (xs : List (List ℕ)) (ys : List LiteralAnswer) (x : List ℕ) (y : LiteralAnswer) → AllZip P xs ys → P x y
      → AllZip P (xs ++ x ∷ []) (ys ++ y ∷ [])
  push [] [] x y all here = (here, tt)
  push [] (b ∷ bs) x y all here = absurd all
  push (a ∷ xs) [] x y all here = absurd all
  push (a ∷ xs) (b ∷ bs) x y all here = (all.0, push xs bs x y all.1 here)

  pub one_more_answer : (done : List (List ℕ)) (i : ℕ) (answers : List LiteralAnswer) (haystack : List ℕ)
      (answer : LiteralAnswer) → i < length answers → AllZip P done (take i answers) → P haystack answer
      → AllZip P (done ++ haystack ∷ []) (take (i + 1) (set answers i answer))
  one_more_answer done i answers haystack answer lt before here =
      let list : take (i + 1) (set answers i answer) ≡ take i answers ++ answer ∷ [] =
      rw add-one (take-suc-set answers i answer lt) in
      subst (AllZip P (done ++ haystack ∷ [])) (sym list) (push done (take i answers) haystack answer before here)

-- haystacks that were taken, the next, and those that are left are all of them
pub map_more : (taken : List (Bor (List ℕ))) (item : Bor (List ℕ))
    → map (λ p. p.now) (taken ++ item ∷ []) ≡ map (λ p. p.now) taken ++ item.now ∷ []
map_more taken item = map-append (λ (p : Bor (List ℕ)). p.now) taken (item ∷ [])

pub split_more : (taken : List (Bor (List ℕ))) (item : Bor (List ℕ)) (state left all : List (List ℕ))
    → map (λ p. p.now) taken ++ state ≡ all → state ≡ item.now ∷ left
    → map (λ p. p.now) (taken ++ item ∷ []) ++ left ≡ all
split_more taken item state left all split next =
    ap (λ ps. ps ++ left) (map_more taken item)
    ∙ (append_assoc (map (λ p. p.now) taken) (item.now ∷ []) left
    ∙ (ap (λ ps. map (λ p. p.now) taken ++ ps) (sym next) ∙ split))

pub taken_more : (taken : List (Bor (List ℕ))) (item : Bor (List ℕ)) (left all : List (List ℕ))
    → map (λ p. p.now) (taken ++ item ∷ []) ++ left ≡ all → length taken < length all
taken_more taken item left all split = omega (
  arith,
  ap length split,
  length-append (map (λ (p : Bor (List ℕ)). p.now) (taken ++ item ∷ [])) left,
  length-map (taken ++ item ∷ []) (λ p. p.now),
  length-append taken (item ∷ []),
)
