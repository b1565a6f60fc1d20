-- Why there is no search for a list that is given as a slice.
-- For `search_for`, `all_that_occurs` and `search`.
use Rattle.std.proofs.Common.{◌≡◌, ◌<◌, Err, IfErr, List, Ok, Option, Result, length, subst, sym, ℕ}
use Rattle.std.specs.Borrow.{Bor}
use Rattle.std.specs.Result.{IsErrAnd}
use Rattle.literal_base.proofs.lemmas.Callers.{GivesList}
use Rattle.literal_search.specs.RefusedList.{RefusesPatterns}
use Rattle.literal_search.specs.SearchValue.{RefusesSearch}
use Rattle.literal_search.proofs.lemmas.Callers.{list_gives_bytes, refuses_patterns}
use Rattle.literal_search.specs.declared.BuildError.{BuildError}
use Rattle.literal_search.specs.declared.BuildError.TheVariants.{EmptyPattern, OutOfMemory, TooManyPatterns}
use Rattle.literal_search.specs.declared.BuildError.TheVariants.{TooManyStates}
use Rattle.search_promise.specs.AnyList.{NeedTooManyForAny, RefusesAnyList, searched_for}
use Rattle.search_promise.specs.declared.AnySearch.{AnySearch}

-- an answer that is an error
module _ {V : Type 0} (asked : AnySearch) (result : Result V BuildError) where
  error_is : (error : BuildError) → RefusesAnyList asked error → (r : Result V BuildError)
      → IsErrAnd r (λ e. e ≡ error) → IfErr r (RefusesAnyList asked)
  error_is error refused (Ok value) is = tt
  error_is error refused (Err e) is = subst (RefusesAnyList asked) (sym is) refused

  pub refuses_any : {U T : Type 0} {becomes : U → T → Type 0} {steps : T → Option (Bor (List ℕ)) → T → Type 0}
      {given : U} → GivesList becomes steps given asked.patterns.now → (NeedTooMany : List (List ℕ) → Type 0)
      → ((patterns : List (List ℕ)) → NeedTooMany patterns → NeedTooManyForAny asked patterns) → (error : BuildError)
      → RefusesSearch becomes steps given NeedTooMany error → IsErrAnd result (λ e. e ≡ error)
      → IfErr result (RefusesAnyList asked)
  refuses_any gives NeedTooMany weaker error refuses is =
      error_is error (by error (refuses_patterns (list_gives_bytes gives) NeedTooMany error refuses)) result is
    where
      by : (error : BuildError) → RefusesPatterns NeedTooMany (searched_for asked).query.patterns error
          → RefusesAnyList asked error
      by (EmptyPattern number) refused = refused
      by OutOfMemory refused = refused
      by TooManyPatterns refused = refused
      by TooManyStates refused = weaker (searched_for asked).query.patterns refused

  pub refused_memory : 0 < length (searched_for asked).query.patterns → IsErrAnd result (λ e. e ≡ OutOfMemory)
      → IfErr result (RefusesAnyList asked)
  refused_memory some is = error_is OutOfMemory some result is
