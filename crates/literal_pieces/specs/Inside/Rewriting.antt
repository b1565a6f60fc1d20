-- A text that is read in pieces, and written with its matches replaced.
use Rattle.std.specs.Prelude.{◌≡◌, ⊤, ℕ, ◌-◌, ◌++◌, [], Bool, true, List, Option, Result, Some, drop}
use Rattle.std.specs.Borrow.{Bor, MutBor}
use Rattle.std.specs.Io.KnownBytes.{Consumes}
use Rattle.std.specs.IoError.{error_kind}
use Rattle.std.specs.declared.io.Error.{Error}
use Rattle.std.specs.declared.io.ErrorKind.{ErrorKind}
use Rattle.literal_base.specs.MatchValue.{MatchValue}
use Rattle.literal_pieces.specs.ReplacedStream.{AreRewritten}
use Rattle.literal_pieces.specs.Inside.Sought.{AreMatches, margin_of, SoughtValue}
use Rattle.literal_pieces.specs.declared.replace_stream.ReplaceStreamError.{ReplaceStreamError}
use Rattle.literal_pieces.specs.declared.replace_stream.ReplaceStreamError.TheVariants.{NotOneForEach, OutOfMemory}
use Rattle.literal_pieces.specs.declared.replace_stream.ReplaceStreamError.TheVariants.{ReadFailed, WriteFailed}

-- a text was read, and its matches before an offset are rewritten by calls; the bytes from there on are held, and
-- those before it that may decide about a match
module _ {F W : Type 0} (contents : W → Option (List ℕ))
    (step : F → MatchValue → Bor (List ℕ) → MutBor W → Result ⊤ Error → MutBor W → F → Type 0)
  where
    pub record HasRewritten (sought : SoughtValue) (is_whole : Bool) (at : ℕ) (ahead : List ℕ)
        (unread left : Option (List ℕ)) (replace : F) (held : Option (List ℕ)) (now : F) (written : Option (List ℕ))
        : Type 0 where
      pub text : List ℕ
      pub matches : List MatchValue
      pub reads : Consumes unread left text
      pub ahead_is : ahead ≡ drop (at - margin_of sought) text
      pub are_rewritten : AreRewritten contents step text matches replace held at written
      pub replace_is : are_rewritten.last.replace ≡ now
      pub come_first : (more : List ℕ) (behind : List MatchValue) → (is_whole ≡ true → more ≡ [])
          → AreMatches sought (text ++ more) at behind → AreMatches sought (text ++ more) 0 (matches ++ behind)

-- this is the error with which reading or writing failed, by its kind
abbrev pub IsOfFailure : Option ErrorKind → Option ErrorKind → ReplaceStreamError → Type 0
IsOfFailure reading writing NotOneForEach = ⊥
IsOfFailure reading writing OutOfMemory = ⊥
IsOfFailure reading writing (ReadFailed error) = reading ≡ Some (error_kind error)
IsOfFailure reading writing (WriteFailed error) = writing ≡ Some (error_kind error)

-- the same, or nothing was read or written
abbrev pub MayBeOfFailure : Option ErrorKind → Option ErrorKind → ReplaceStreamError → Type 0
MayBeOfFailure reading writing NotOneForEach = ⊤
MayBeOfFailure reading writing OutOfMemory = ⊤
MayBeOfFailure reading writing (ReadFailed error) = reading ≡ Some (error_kind error)
MayBeOfFailure reading writing (WriteFailed error) = writing ≡ Some (error_kind error)
