-- What an automaton is built of, and why one is not built.
use Rattle.std.proofs.Common.{arith, ◌≡◌, ◌∙◌, ℕ, Bool, List, Result, Ok, Err, IfErr, map, sym}
use Rattle.std.proofs.lemmas.Simd.{map-map}
use Rattle.std.specs.Global.{Global}
use Rattle.std.specs.Result.{IsErrAnd}
use Rattle.std.specs.declared.vec.Vec.{Vec}
use Rattle.literal_rows.specs.Patterns.{HoldsInClasses, width_for}
use Rattle.literal_rows.specs.Inside.Classes.{AreClasses, Tells, symbols_in}
use Rattle.literal_rows.specs.declared.grow.GrowError.{GrowError}
use Rattle.literal_rows.specs.declared.grow.GrowError.TheVariants as grow_error

-- the texts of the patterns that are lent are those of the patterns
pub same_texts : (classes : List ℕ) (lent patterns : List (Vec ℕ Global)) → lent ≡ patterns
    → map (λ (pattern : Vec ℕ Global). symbols_in classes pattern.items) lent
    ≡ map (symbols_in classes) (map (λ (pattern : Vec ℕ Global). pattern.items) patterns)
same_texts classes lent patterns same = grind (arith, map-map)

-- what holds in classes that were made for patterns
pub holds_in : (P : List (List ℕ) → ℕ → Type 0) (ignore_case : Bool) (classes : List ℕ) (width : ℕ)
    (patterns : List (List ℕ)) → AreClasses classes width → Tells ignore_case classes patterns
    → width ≡ width_for ignore_case patterns → P (map (symbols_in classes) patterns) width
    → HoldsInClasses P ignore_case patterns
holds_in P ignore_case classes width patterns are tells width_is holds = grind arith

-- where a refusal of rows is passed on
pub passed_on : {V : Type 0} (P : Type 0) (refused : GrowError) → (refused ≡ grow_error.TooManyStates → P)
    → (result : Result V GrowError) → IsErrAnd result (λ error. error ≡ refused)
    → IfErr result (λ error. error ≡ grow_error.TooManyStates → P)
passed_on P refused needs (Ok value) is = tt
passed_on P refused needs (Err error) is = λ too_many. needs (sym is ∙ too_many)
