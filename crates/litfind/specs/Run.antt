-- The input and output of a run. Contracts know the bytes left in a reader, and the bytes held by a writer, before the
-- run and after it, if the reader or writer specifies them.
use Rattle.std.specs.Prelude.{◌≡◌, ◌≢◌, ℕ, ◌↔◌, List, [], ◌++◌, Bool, IsTrue, Option}
use Rattle.std.specs.Io.KnownBytes.{Appends, Consumes, IsAtEnd}
use Rattle.litfind.specs.Lines.{AreLines}

-- these bytes were read, up to the end, if the reader specifies its bytes
pub record ReadsToEnd (had has : Option (List ℕ)) (input : List ℕ) : Type 0 where
  pub bytes : Consumes had has input
  pub end : IsAtEnd has

-- a prefix of the text was written, possibly all of it
pub record IsFront (held holds : Option (List ℕ)) (text : List ℕ) : Type 0 where
  pub front : List ℕ
  pub rest : List ℕ
  pub split : text ≡ front ++ rest
  pub written : Appends held holds front

-- bytes were read, possibly none
pub record ReadSome (had has : Option (List ℕ)) : Type 0 where
  pub input : List ℕ
  pub bytes : Consumes had has input

-- at least one byte was read
pub record ReadBytes (had has : Option (List ℕ)) : Type 0 where
  pub input : List ℕ
  pub some : input ≢ []
  pub bytes : Consumes had has input

-- the input was read to its end, and there is a line to print
pub record HasLine (words : List (List ℕ)) (had has : Option (List ℕ)) : Type 0 where
  pub input : List ℕ
  pub read : ReadsToEnd had has input
  pub line : ¬ AreLines words input []

-- the input was read to its end, all its lines were written, and the answer says whether there is a line
pub record WroteLines (words : List (List ℕ)) (had has held holds : Option (List ℕ)) (printed : Bool) : Type 0 where
  pub input : List ℕ
  pub text : List ℕ
  pub read : ReadsToEnd had has input
  pub lines : AreLines words input text
  pub written : Appends held holds text
  pub answer : IsTrue printed ↔ (text ≢ [])

-- the input was read to its end, and a prefix of its lines was written
pub record WroteFront (words : List (List ℕ)) (had has held holds : Option (List ℕ)) : Type 0 where
  pub input : List ℕ
  pub text : List ℕ
  pub read : ReadsToEnd had has input
  pub lines : AreLines words input text
  pub written : IsFront held holds text
