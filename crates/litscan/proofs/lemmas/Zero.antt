-- Reads and writes after a look ahead for a zero byte. For `device` and `files`.
use Rattle.std.proofs.Common.{◌≡◌, ◌==◌, ◌∙◌, ◌++◌, ℕ, Bool, true, false, List, [], ◌∷◌, IfSome, Option, None, Some}
use Rattle.std.proofs.Common.{ap, drop, length, refl, subst, sym, take-append-drop}
use Rattle.std.proofs.lemmas.Bool.{both_ways, eq-eqb, or_left}
use Rattle.std.proofs.lemmas.List.Folds.{list_any-append}
use Rattle.std.specs.Io.{StartsWith}
use Rattle.std.specs.Io.KnownBytes.{Appends, Keeps}
use Rattle.std.specs.List.{list_any}
use Rattle.std.specs.declared.io.ErrorKind.{ErrorKind}
use Rattle.litscan.specs.Printed.{Reads}
use Rattle.litscan.specs.Scans.{BeginsWithoutZero, HasZero}

-- if the bytes of a reader are not known, any text may be read
reads_unknown : (failure : Option ErrorKind) (enough : Bool) (new : Option (List ℕ)) (text : List ℕ)
    → Reads failure enough None new text
reads_unknown (Some error) enough new text = tt
reads_unknown None true new text = tt
reads_unknown None false new text = tt

-- a text that is read after a step that consumes nothing is read from the bytes before that step
pub reads_kept : (failure : Option ErrorKind) (enough : Bool) (old between new : Option (List ℕ)) (text : List ℕ)
    → Keeps old between → Reads failure enough between new text → Reads failure enough old new text
reads_kept failure enough None between new text kept is = reads_unknown failure enough new text
reads_kept failure enough (Some bytes) None new text kept is = absurd kept
reads_kept failure enough (Some bytes) (Some same) new text kept is =
    subst (λ bytes. Reads failure enough (Some bytes) new text) kept is

none_in_front : (text rest : List ℕ) → [] ≡ text ++ rest → text ≡ []
none_in_front [] rest is = refl
none_in_front (byte ∷ more) rest is = absurd (cc)

-- from no bytes, only the empty text is read
pub reads_nothing : (failure : Option ErrorKind) (enough : Bool) (bytes : List ℕ) (new : Option (List ℕ))
    (text : List ℕ) → bytes ≡ [] → Reads failure enough (Some bytes) new text → text ≡ []
reads_nothing (Some error) enough bytes new text none is = none_in_front text is.0 (sym none ∙ is.1)
reads_nothing None true bytes None text none is = absurd is
reads_nothing None true bytes (Some rest) text none is = none_in_front text rest (sym none ∙ is)
reads_nothing None false bytes new text none is = sym is.0 ∙ none

-- a zero byte in the first of the known bytes is a zero byte in all of them
pub zero_in : (known : Option (List ℕ)) (front : List ℕ) → IfSome known (λ bytes. StartsWith bytes front)
    → HasZero front → IfSome known HasZero
zero_in None front begins zero = tt
zero_in (Some bytes) front begins zero =
    let is_zero = λ (byte : ℕ). byte == 0 in
    let behind = drop (length front) bytes in
    let parts : bytes ≡ front ++ behind =
    sym (take-append-drop (length front) bytes) ∙ ap (λ part. part ++ behind) begins in
    ap (list_any is_zero) parts ∙ list_any-append is_zero front behind ∙ or_left _ _ zero

-- known bytes do not begin with a zero byte if none is in a front of them that is empty only if they are
pub begins_without_zero : (known : Option (List ℕ)) (front : List ℕ)
    → IfSome known (λ bytes. StartsWith bytes front) → IfSome known (λ bytes. length front ≡ 0 → bytes ≡ [])
    → list_any (λ byte. byte == 0) front ≡ false → IfSome known BeginsWithoutZero
begins_without_zero None front begins empty none = tt
begins_without_zero (Some []) front begins empty none = tt
begins_without_zero (Some (byte ∷ more)) [] begins empty none =
    absurd (let all : byte ∷ more ≡ [] = empty refl in cc)
begins_without_zero (Some (byte ∷ more)) (first ∷ rest) begins empty none = λ zero.
    let same : first ≡ byte = cc in
    both_ways _ none (or_left (first == 0) (list_any (λ byte. byte == 0) rest) (eq-eqb first 0 (same ∙ zero)))

-- what is appended after a step that writes nothing is appended after the bytes before that step
pub appends_kept : (old between new : Option (List ℕ)) (bytes : List ℕ) → Keeps old between
    → Appends between new bytes → Appends old new bytes
appends_kept None between new bytes kept is = tt
appends_kept (Some first) None new bytes kept is = absurd kept
appends_kept (Some first) (Some same) None bytes kept is = absurd is
appends_kept (Some first) (Some same) (Some all) bytes kept is = is ∙ ap (λ front. front ++ bytes) kept
