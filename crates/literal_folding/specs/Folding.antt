-- Unicode's simple case folding, where it keeps lengths: of characters, and of texts, which may be any bytes.
use Rattle.std.specs.Prelude.{◌≡◌, ◌≢◌, ℕ, ◌<◌, ◌+◌, ◌-◌, ◌*◌, ◌%◌, ◌==◌, ◌&&◌, Bool, List, [], ◌∷◌, ◌++◌, None}
use Rattle.std.specs.Prelude.{Option, Some}
use Rattle.std.specs.Prelude.{drop, if◌then◌else◌, nat_eq, nat_le, length, nat_lt, slice_index}
use Rattle.std.specs.Bool.{then_some}
use Rattle.std.specs.Char.{IsScalar, encode_utf8, len_utf8}
use Rattle.std.specs.List.{starts_with}
use Rattle.std.specs.Str.{all_scalars}
use Rattle.literal_folding.specs.declared.foldings.TheConstants.{FOLDINGS}

-- a row of `FOLDINGS`: the first and the last of some characters, the step between them, and the folding of the first
abbrev pub Row : Type 0
Row = ℕ × ℕ × ℕ × ℕ

-- whether a row has a character
abbrev pub is_in : Row → ℕ → Bool
is_in row c = nat_le row.0 c && nat_le c row.1 && (c - row.0) % row.2 == 0

-- the folding of a character by the row that has it: as far from the folding of the first character as the character is
-- from the first
abbrev pub folded_in : Row → ℕ → ℕ
folded_in row c = row.3 + (c - row.0)

-- the folding of a character by the first row that has it, or the character itself if none does
abbrev pub folded_by : List Row → ℕ → ℕ
folded_by [] c = c
folded_by (row ∷ rows) c = if is_in row c then folded_in row c else folded_by rows c

-- the simple case folding of a character if it has the same length in UTF-8, otherwise the character itself
unfoldable pub folded_char : ℕ → ℕ
folded_char c = folded_by FOLDINGS c

-- the number encoded by the first bytes of a text, if they are a character. The first byte says how many bytes it has
abbrev pub first_code_of : List ℕ → ℕ
first_code_of text = let lead = slice_index text 0 in
    let bits : ℕ → ℕ = λ k. slice_index text k - 0x80 in
    if nat_lt lead 0x80 then lead else
    (if nat_lt lead 0xE0 then (lead - 0xC0) * 0x40 + bits 1 else
    (if nat_lt lead 0xF0 then ((lead - 0xE0) * 0x40 + bits 1) * 0x40 + bits 2 else
    (((lead - 0xF0) * 0x40 + bits 1) * 0x40 + bits 2) * 0x40 + bits 3))

-- the first character of a text, if the text begins with a whole one
unfoldable pub first_char_of : List ℕ → Option ℕ
first_char_of text = let c = first_code_of text in
    then_some (all_scalars (c ∷ []) && starts_with nat_eq text (encode_utf8 c)) c

-- the text with its first character, if there is one, replaced by its folding
abbrev pub with_first : Option ℕ → List ℕ → List ℕ
with_first None text = text
with_first (Some c) text = encode_utf8 (folded_char c) ++ drop (len_utf8 c) text

-- the text with its first character folded, if it begins with a whole one
unfoldable pub with_first_folded : List ℕ → List ℕ
with_first_folded text = with_first (first_char_of text) text

-- the text with each whole, valid character folded, and all other bytes unchanged
unfoldable pub folded : List ℕ → List ℕ
folded [] = []
folded (byte ∷ text) = with_first_folded (byte ∷ folded text)

-- no character crosses the cut between two texts, with its first bytes at the end of the one and the rest at the start
-- of the other
abbrev pub NoneGoesOver : List ℕ → List ℕ → Type 0
NoneGoesOver before behind = (c : ℕ) (front left right rest : List ℕ) → IsScalar c → encode_utf8 c ≡ left ++ right
    → 0 < length left → 0 < length right → before ≡ front ++ left → behind ≢ right ++ rest
