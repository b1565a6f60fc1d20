-- A text in which matches are made unreadable.
use Rattle.std.specs.Prelude.{◌≡◌, ◌≤◌, ℕ, ◌+◌, ◌++◌, ◌-◌, List, Option, length, replicate}
use Rattle.std.specs.Io.KnownBytes.{Appends, Consumes, IsAtEnd}
use Rattle.literal_base.specs.Greedy.{IsGreedy}
use Rattle.literal_base.specs.MatchValue.{MatchValue}
use Rattle.literal_search.specs.Replaced.{replaced_by}
use Rattle.literal_search.specs.SearchValue.{SearchValue, longest_of}
use Rattle.literal_pieces.specs.declared.replace_stream.ReplaceStreamError.{ReplaceStreamError}
use Rattle.literal_pieces.specs.declared.replace_stream.ReplaceStreamError.TheVariants.{NotOneForEach, OutOfMemory}
use Rattle.literal_pieces.specs.declared.replace_stream.ReplaceStreamError.TheVariants.{ReadFailed, WriteFailed}

-- the text from an offset on, with each byte of a match replaced by an asterisk
abbrev pub redacted : List ℕ → ℕ → List MatchValue → List ℕ
redacted = replaced_by (λ found. replicate (found.end - found.start) 42)

-- a text is read to its end, and written with each byte of a match replaced by an asterisk
pub record Redacts (search : SearchValue) (unread left held written : Option (List ℕ)) : Type 0 where
  pub text : List ℕ
  pub matches : List MatchValue
  pub reads : Consumes unread left text
  pub end : IsAtEnd left
  pub are_greedy : IsGreedy search.query search.ignore_case text 0 matches
  pub writes : Appends held written (redacted text 0 matches)

-- The text that was read is written so up to an offset. Fewer bytes are behind this than the longest pattern has.
-- Whatever follows: what is written, followed by the rest with its matches unreadable, is the whole
pub record RedactsPart (search : SearchValue) (unread left held written : Option (List ℕ)) : Type 0 where
  pub text : List ℕ
  pub at : ℕ
  pub answer : List ℕ
  pub reads : Consumes unread left text
  pub within : at ≤ length text
  pub far : length text ≤ at + (longest_of search.query.patterns - 1)
  pub writes : Appends held written answer
  pub goes_on : (more : List ℕ) (behind : List MatchValue)
      → IsGreedy search.query search.ignore_case (text ++ more) at behind
      → (matches : List MatchValue) × IsGreedy search.query search.ignore_case (text ++ more) 0 matches
      × (answer ++ redacted (text ++ more) at behind ≡ redacted (text ++ more) 0 matches)

-- why it is not written so: memory was refused, and nothing is read or written; or a read failed, after the known part
-- was written; or a write failed, after a text was read
abbrev pub StopsRedacting : SearchValue → Option (List ℕ) → Option (List ℕ) → Option (List ℕ) → Option (List ℕ)
    → ReplaceStreamError → Type 0
StopsRedacting search unread left held written NotOneForEach = ⊥
StopsRedacting search unread left held written OutOfMemory = (left ≡ unread) × (written ≡ held)
StopsRedacting search unread left held written (ReadFailed error) = RedactsPart search unread left held written
StopsRedacting search unread left held written (WriteFailed error) = (text : List ℕ) × Consumes unread left text
