-- Why there is no search for a list of words. For `words`.
use Rattle.std.proofs.Common.{◌≡◌, ℕ, Bool, List, length, take, Option}
use Rattle.std.proofs.Common.{sym, ap, ◌∙◌, arith, subst, inl, inr}
use Rattle.std.specs.Borrow.{Bor}
use Rattle.std.proofs.lemmas.List.{nil_from_length}
use Rattle.literal_base.specs.Occurs.{NoneIsEmpty, pattern_at}
use Rattle.literal_search.specs.SearchValue.{NeedTooManyReversed, RefusesSearch}
use Rattle.literal_search.specs.declared.BuildError.{BuildError}
use Rattle.literal_search.specs.declared.BuildError.TheVariants.{EmptyPattern, OutOfMemory, TooManyPatterns}
use Rattle.literal_search.specs.declared.BuildError.TheVariants.{TooManyStates}
use Rattle.literal_search.proofs.lemmas.Callers.{GivesBytes, all_given, next_given}
use Rattle.litscan.specs.Fault.{RefusesWords, build_fault}

module _ {U T : Type 0} {becomes : U → T → Type 0} {steps : T → Option (Bor (List ℕ)) → T → Type 0} {given : U}
    {list : List (List ℕ)} (gives : GivesBytes becomes steps given list) where
  -- an error of an automaton that is built of the list
  pub refuses_words : (ignore_case : Bool) (error : BuildError)
      → RefusesSearch becomes steps given (NeedTooManyReversed ignore_case) error
      → RefusesWords ignore_case list (build_fault error)
  refuses_words ignore_case (EmptyPattern number) (patterns, next, one, empty, is) =
      let on = next_given gives one in
      let here : number ≡ length patterns = is in (
        omega (arith, on.within, here),
        ap (pattern_at list) here ∙ sym on.next_is ∙ nil_from_length next empty,
        subst NoneIsEmpty (on.are ∙ ap (λ n. take n list) (sym here)) one.can_be_kept.some,
      )
  refuses_words ignore_case OutOfMemory (inl one) =
      let on = next_given gives one.2 in omega (arith, on.within)
  refuses_words ignore_case OutOfMemory (inr all) =
      let is = all_given gives all.1 in omega (arith, all.2, ap (λ (l : List (List ℕ)). length l) is)
  refuses_words ignore_case TooManyPatterns one =
      let on = next_given gives one.2 in inl (omega (arith, on.within, one.4))
  refuses_words ignore_case TooManyStates all =
      inr (subst (NeedTooManyReversed ignore_case) (all_given gives all.1) all.2)
