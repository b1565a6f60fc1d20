-- Why there is no search for folded patterns.
use Rattle.std.proofs.Common.{◌≡◌, ℕ, false, List, [], length, Result, Ok, Err, IfErr, sym, ap, arith}
use Rattle.std.proofs.Common.{◌∷◌, suc, zero, subst, inl, inr, Option, map}
use Rattle.std.proofs.lemmas.List.{length-map}
use Rattle.std.specs.Borrow.{Bor}
use Rattle.std.specs.Result.{IsErrAnd}
use Rattle.literal_base.specs.Occurs.{NoneIsEmpty}
use Rattle.literal_search.specs.SearchValue.{CanBeKept, NeedTooManyReversed, RefusesSearch}
use Rattle.literal_search.specs.declared.BuildError.{BuildError}
use Rattle.literal_search.specs.declared.BuildError.TheVariants.{EmptyPattern, OutOfMemory, TooManyPatterns}
use Rattle.literal_search.specs.declared.BuildError.TheVariants.{TooManyStates}
use Rattle.literal_search.proofs.lemmas.Callers.{GivesBytes, all_given, next_given}
use Rattle.literal_folding.specs.FoldedSearchValue.{RefusesFolded}
use Rattle.literal_folding.specs.Folding.{folded}
use Rattle.literal_folding.proofs.lemmas.Texts.{length-folded}

module _ {U T : Type 0} {becomes : U → T → Type 0} {steps : T → Option (Bor (List ℕ)) → T → Type 0} {given : U}
    {list : List (List ℕ)} (gives : GivesBytes becomes steps given list) where
  -- of patterns that can be kept, none is refused alone
  refuses_folded : CanBeKept list → (error : BuildError)
      → RefusesSearch becomes steps given (NeedTooManyReversed false) error → RefusesFolded list error
  refuses_folded kept (EmptyPattern number) (patterns, next, one, empty, is) =
      let on = next_given gives one in
      omega (arith, kept.some (length patterns) [] on.within, ap (λ (l : List ℕ). length l) on.next_is, empty)
  refuses_folded kept OutOfMemory (inl one) = let on = next_given gives one.2 in omega (arith, on.within)
  refuses_folded kept OutOfMemory (inr all) =
      let is = all_given gives all.1 in omega (arith, all.2, ap (λ (l : List (List ℕ)). length l) is)
  refuses_folded kept TooManyPatterns one =
      let on = next_given gives one.2 in omega (arith, on.within, one.4, kept.few)
  refuses_folded kept TooManyStates all = subst (NeedTooManyReversed false) (all_given gives all.1) all.2

  -- so with an answer that is an error
  pub refuses_list : {V : Type 0} → CanBeKept list → (error : BuildError)
      → RefusesSearch becomes steps given (NeedTooManyReversed false) error → (r : Result V BuildError)
      → IsErrAnd r (λ e. e ≡ error) → IfErr r (RefusesFolded list)
  refuses_list kept error refused (Ok value) is = tt
  refuses_list kept error refused (Err e) is =
      subst (RefusesFolded list) (sym is) (refuses_folded kept error refused)

none_empty : (patterns : List (List ℕ)) → NoneIsEmpty patterns → NoneIsEmpty (map folded patterns)
none_empty [] some k d below = absurd (omega arith)
none_empty (bytes ∷ more) some zero d below = omega (arith, some 0 [] (omega arith), length-folded bytes)
none_empty (bytes ∷ more) some (suc k) d below =
    none_empty more (λ i e p. some (suc i) e (omega arith)) k d (omega arith)

-- patterns that can be kept can be kept once they are folded
pub folded_kept : (patterns : List (List ℕ)) → CanBeKept patterns → CanBeKept (map folded patterns)
folded_kept patterns kept =
    record { some = none_empty patterns kept.some; few = omega (arith, kept.few, length-map patterns folded) }
