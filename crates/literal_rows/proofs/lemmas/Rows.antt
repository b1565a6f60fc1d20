-- Rows before the classes, and those where there is no pattern.
use Rattle.std.proofs.Common.{◌≡◌, ◌+◌, ◌*◌, ◌-◌, ◌<◌, ◌≤◌, ℕ, suc, zero, Bool, List, [], ◌∷◌, ◌++◌, ap, arith}
use Rattle.std.proofs.Common.{get_or, length, min, refl}
use Rattle.std.proofs.lemmas.List.{get_or_past, length-take}
use Rattle.std.specs.List.{count_by, range_with_len, repeat}
use Rattle.std.specs.Option.{unwrap_or}
use Rattle.literal_rows.specs.Patterns.{is_in_patterns, width_for}
use Rattle.literal_rows.specs.Inside.Classes.{AreClasses}
use Rattle.literal_rows.specs.Inside.Rows.{rows_of}
use Rattle.literal_rows.specs.States.{AreStates, HasTooManyStates, IsRowsLength}
use Rattle.literal_rows.specs.Table.{LeadsTo, Recognises, nothing}
use Rattle.literal_rows.specs.Words.{ending, live_suffix, word_of}
use Rattle.literal_rows.proofs.lemmas.States.{few_states}

-- how many they are
pub rows_long : (numbers : List ℕ) → length (rows_of numbers) ≡ length numbers - 256
rows_long numbers = omega (arith, length-take (length numbers - 256) numbers)

-- where there is one class each byte has it
zeros_at : (n k : ℕ) → let zero : List ℕ = 0 ∷ [] in get_or (repeat n zero) k 0 ≡ 0
zeros_at zero k = refl
zeros_at (suc n) zero = refl
zeros_at (suc n) (suc k) = zeros_at n k

pub zeros_classes : AreClasses (repeat 256 (0 ∷ [])) 1
zeros_classes = record {
  each = refl;
  some = omega arith;
  few = omega arith;
  below = λ byte before. omega (arith, zeros_at 256 byte);
}

-- there is one class where there is no pattern
none_counted : (ignore_case : Bool) (bytes : List ℕ) → count_by (is_in_patterns ignore_case []) bytes ≡ 0
none_counted ignore_case [] = refl
none_counted ignore_case (byte ∷ more) = none_counted ignore_case more

pub one_class : (ignore_case : Bool) → width_for ignore_case [] ≡ 1
unfolding width_for
one_class ignore_case = ap (λ n. min (n + 1) 256) (none_counted ignore_case (range_with_len 0 256))

-- whose one symbol leads from the empty word back to it
leads : (state symbol : ℕ) → state < 1 → symbol < 1
    → LeadsTo [] ([] ∷ []) 1 (get_or (0 ∷ nothing ∷ []) (state * 2 + symbol) 0)
    (live_suffix [] (word_of ([] ∷ []) state ++ symbol ∷ []))
leads zero zero first one = record { state = 0; is_state = first; word_is = refl; code_is = refl }
leads zero (suc symbol) first one = absurd (omega (arith, one))
leads (suc state) symbol first one = absurd (omega (arith, first))

pub none_recognised : Recognises [] 1 (0 ∷ nothing ∷ [])
none_recognised = record {
  words = [] ∷ [];
  some = omega arith;
  root = refl;
  full = refl;
  few = omega arith;
  leads = leads;
  ends = ends;
}
  where
    ends : (state : ℕ) → state < 1 → get_or (0 ∷ nothing ∷ []) (state * 2 + 1) 0
        ≡ unwrap_or (ending [] (word_of ([] ∷ []) state)) nothing
    ends zero first = refl
    ends (suc state) first = absurd (omega (arith, first))

-- there is no state but that of the empty word
one_state : (texts : List (List ℕ)) → AreStates [] texts → length texts ≤ 1
unfolding none_recognised
one_state = grind (arith, few_states, get_or_past, none_recognised)

pub none_long : IsRowsLength [] 1 2
unfolding IsRowsLength
none_long = (
  1,
  record {
    texts = [] ∷ [];
    are_states = grind arith;
    count_is = refl;
    most = one_state;
  },
  refl,
)

pub none_few : HasTooManyStates [] 1 → ⊥
none_few many = grind (arith, one_state)
