-- The lines of a text, each ended by the same byte.
use Rattle.std.specs.Prelude.{◌≡◌, ◌≢◌, ◌==◌, ℕ, ◌++◌, List, [], ◌∷◌, if◌then◌else◌}
use Rattle.std.specs.List.{All, flat_map, onto_first}

-- the lines of a text with one more byte at its front: the byte that ends lines adds an empty line, any other byte
-- extends the first line
abbrev pub with_byte : ℕ → ℕ → List (List ℕ) → List (List ℕ)
with_byte line_end byte lines = if byte == line_end then [] ∷ lines else onto_first byte lines

-- the lines of a text: each byte of this value ends a line, and the text after the last one is a line if it is not
-- empty
abbrev pub lines_of : ℕ → List ℕ → List (List ℕ)
lines_of line_end [] = []
lines_of line_end (byte ∷ more) = with_byte line_end byte (lines_of line_end more)

-- no byte ends a line
abbrev pub HasNoEnd : ℕ → List ℕ → Type 0
HasNoEnd line_end bytes = All (λ byte. byte ≢ line_end) bytes

-- a line followed by the byte that ends lines
abbrev pub with_end : ℕ → List ℕ → List ℕ
with_end line_end line = line ++ line_end ∷ []

-- a line followed by a line feed
abbrev pub with_feed : List ℕ → List ℕ
with_feed line = with_end 10 line

-- the text after the last line that has an end, as a line if it is not empty
abbrev pub last_line : List ℕ → List (List ℕ)
last_line [] = []
last_line (byte ∷ more) = (byte ∷ more) ∷ []

-- a text consists of lines, each followed by the byte that ends lines, and the text after the last such byte. No line
-- contains that byte
pub record AreLinesOf (line_end : ℕ) (text : List ℕ) (lines : List (List ℕ)) : Type 0 where
  pub before : List (List ℕ)
  pub last : List ℕ
  pub text_is : text ≡ flat_map (with_end line_end) before ++ last
  pub lines_are : lines ≡ before ++ last_line last
  pub before_whole : All (HasNoEnd line_end) before
  pub last_whole : HasNoEnd line_end last
