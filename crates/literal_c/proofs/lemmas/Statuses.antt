-- What a status says of a search that is done, or of one by an array that C lends. For the exports.
use Rattle.std.proofs.Common.{◌≡◌, ◌<◌, ◌==◌, ℤ, ℕ, false, List, [], ◌∷◌, arith, inl, inr, length, refl}
use Rattle.literal_search.specs.SearchValue.{CanBeKept}
use Rattle.literal_c.specs.Arguments.{IsStatus, IsStatusOf}
use Rattle.literal_c.specs.declared.TheConstants.{LITERAL_DAMAGED, LITERAL_OK}

-- an array that is prepared for nothing
pub damaged : (has_parts : Type 0) (IfPrepared : Type 0 → Type 0) (agree : Type 0) (IsDone : ℤ → Type 0) → agree
    → IfPrepared (¬ (LITERAL_DAMAGED ≡ LITERAL_DAMAGED)) → IsStatusOf has_parts IfPrepared agree IsDone LITERAL_DAMAGED
damaged has_parts IfPrepared agree IsDone do_agree none = record {
  bad_arguments = (λ is. absurd (cc), λ refused. absurd (refused do_agree));
  searched = λ _. inr refl;
  damaged = λ _ _. refl;
  prepared = none;
}

-- a search for patterns that is done
pub done : (agree : Type 0) (patterns : List (List ℕ)) (are_too_large : Type 0) → agree → CanBeKept patterns
    → IsStatus agree patterns are_too_large LITERAL_OK
done agree patterns are_too_large do_agree kept = record {
  bad_arguments = (λ is. absurd (cc), λ refused. absurd (refused do_agree));
  no_searcher = (λ is. absurd (cc), λ refused. absurd (refused.1 kept));
  searched = (λ _. (do_agree, kept), λ _. inl refl);
  out_of_memory = λ is. absurd (cc);
  too_large = λ is. absurd (cc);
}

-- a list that is not empty
pub some_room : {A : Type 0} (list : List A) → false ≡ (length list == 0) → 0 < length list
some_room [] not_empty = absurd (cc)
some_room (first ∷ more) not_empty = omega arith
