-- The sides of a text.
-- For `WordText`.
use Rattle.std.proofs.Common.{◌≡◌, ◌<◌, ◌∙◌, ℕ, List, [], ◌∷◌, ◌++◌, ap, arith, flat_map, length}
use Rattle.std.proofs.Common.{length-append, refl, suc}
use Rattle.std.proofs.lemmas.Bool.Decides.{nat_tests}
use Rattle.std.proofs.lemmas.List.{length-replicate}
use Rattle.std.proofs.lemmas.Str.{chars-IsAscii, encodes-chars, length-encode}
use Rattle.std.specs.Str.{IsAscii, IsUtf8, chars, encode_utf8_all}
use Rattle.literal_words.specs.Inside.WholeWords.{AreSidesOf}
use Rattle.literal_words.specs.WordText.{sides_of, sides_of_char}

-- the sides of some characters are as many bytes as the characters have
length_sides : (cs : List ℕ) → length (flat_map sides_of_char cs) ≡ length (encode_utf8_all cs)
length_sides [] = refl
length_sides (c ∷ cs) = grind (arith, length-append, length-encode, length-replicate, length_sides cs)

pub length-sides_of : (text : List ℕ) → IsUtf8 text → length (sides_of text) ≡ length text
unfolding sides_of
length-sides_of text utf8 = length_sides (chars text) ∙ ap length (encodes-chars text utf8)

-- an ASCII character is its own side
side_ascii : (c : ℕ) → c < 128 → sides_of_char c ≡ c ∷ []
side_ascii c ascii = grind (arith, nat_tests)

sides_ascii : (cs : List ℕ) → IsAscii cs → flat_map sides_of_char cs ≡ cs
sides_ascii [] ascii = refl
sides_ascii (c ∷ cs) ascii =
    ap (λ front. front ++ flat_map sides_of_char cs) (side_ascii c (ascii 0))
    ∙ ap (λ rest. c ∷ rest) (sides_ascii cs (λ i. ascii (suc i)))

-- a text of ASCII is its own sides
sides_of-ascii : (text : List ℕ) → IsAscii text → sides_of text ≡ text
unfolding sides_of
sides_of-ascii text ascii = ap (flat_map sides_of_char) (chars-IsAscii text ascii) ∙ sides_ascii text ascii

pub ascii_sides : (text : List ℕ) → IsUtf8 text → IsAscii text → AreSidesOf text []
ascii_sides text utf8 ascii = grind (arith, length-sides_of, sides_of-ascii)

-- two lists with no elements
empty_same : (xs ys : List ℕ) → length xs ≡ 0 → length ys ≡ 0 → xs ≡ ys
empty_same [] [] _ _ = refl
empty_same [] (y ∷ ys) _ some = absurd (omega arith)
empty_same (x ∷ xs) ys some _ = absurd (omega arith)

-- the sides that a loop over the characters of a text has written
pub sides_written : (text sides : List ℕ) → IsUtf8 text → sides ≡ flat_map sides_of_char (chars text)
    → AreSidesOf text sides
unfolding sides_of
sides_written text sides utf8 is = grind (arith, empty_same, length-sides_of)
