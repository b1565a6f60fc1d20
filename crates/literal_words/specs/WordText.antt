-- The sides of a text: bytes that tell which of its characters are word characters.
use Rattle.std.specs.Prelude.{ℕ, ◌||◌, Bool, List, flat_map, if◌then◌else◌, nat_lt, replicate}
use Rattle.std.specs.Char.{len_utf8}
use Rattle.std.specs.Char.Unicode.Alphabetic.{is_alphabetic}
use Rattle.std.specs.Char.Unicode.Numeric.{is_numeric}
use Rattle.std.specs.Str.{chars}

-- whether a character is a letter or a digit, as `char::is_alphanumeric` says
abbrev pub is_alphanumeric : ℕ → Bool
is_alphanumeric c = is_alphabetic c || is_numeric c

-- the byte that stands for a character at the side of an occurrence: an ASCII character itself, the letter a for other
-- letters and digits, and a space for all other characters
abbrev pub side_of : ℕ → ℕ
side_of c = if nat_lt c 0x80 then c else (if is_alphanumeric c then 97 else 32)

-- the side of a character, as many times as it has bytes in UTF-8
abbrev pub sides_of_char : ℕ → List ℕ
sides_of_char c = replicate (len_utf8 c) (side_of c)

-- the sides of a text: those of its characters, one after another, as many bytes as the text has
unfoldable pub sides_of : List ℕ → List ℕ
sides_of text = flat_map sides_of_char (chars text)
