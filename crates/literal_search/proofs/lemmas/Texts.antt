-- Matches of texts in a text begin and end between characters.
use Rattle.std.proofs.Common.{◌≡◌, ℕ, ◌+◌, ◌<◌, ◌≤◌, Bool, true, false, List, [], ap, arith, drop, get_or, length, map}
use Rattle.std.proofs.Common.{refl, subst, sym, take, IsCharBoundary, IsUtf8, ◌∷◌, ◌++◌, ◌&&◌, Some, append-nil}
use Rattle.std.proofs.Common.{inl, inr}
use Rattle.std.proofs.lemmas.List.{drop-map, get_or-drop, get_or-map, get_or-take, get_or_past, length-drop, length-map}
use Rattle.std.proofs.lemmas.List.{take-map}
use Rattle.std.proofs.lemmas.Bool.{cases_lt, ltb-true}
use Rattle.std.proofs.lemmas.Str.{IsUtf8-append, IsUtf8-from_ascii, IsUtf8-nil, encode_ascii, IsCharBoundary-from_rest}
use Rattle.std.proofs.lemmas.Str.{IsCharBoundary-from_take, IsCharBoundary-start, IsUtf8-drop}
use Rattle.std.specs.Char.{to_ascii_lowercase}
use Rattle.std.specs.List.{All, slice_range}
use Rattle.std.proofs.Math.Utf8.{encode, encodes, scalar, scalars}
use Rattle.literal_base.specs.Leftmost.{IsLeftmostMatch}
use Rattle.literal_base.specs.MatchValue.{MatchValue}
use Rattle.literal_base.specs.Occurs.{NoneIsEmpty, Occurs, between, case_folded, pattern_at, rest_from}
use Rattle.literal_base.specs.declared.search.Span.{Span}
use Rattle.literal_search.specs.MatchesValue.{GivesMatch, MatchesValue}
use Rattle.literal_search.specs.SearchValue.{SearchValue}
use Rattle.literal_search.specs.WholeWords.{IsFirstAloneBy, WholeWordsValue}

-- two tests that both hold
both_true : (x y : Bool) → (x && y) ≡ true → (x ≡ true) × (y ≡ true)
both_true x y is = grind arith

large_char : (c : ℕ) → 128 ≤ c → map to_ascii_lowercase (encode c) ≡ encode c
unfolding encode
large_char c large = grind (arith, ltb-true)

lower_small : (byte : ℕ) → byte < 128 → to_ascii_lowercase byte < 128
lower_small byte small = grind arith

one_ascii : (byte : ℕ) → byte < 128 → (i : ℕ) → get_or (byte ∷ []) i 0 < 128
one_ascii byte small is = grind (arith, get_or_past)

lowered_char : (c : ℕ) → scalar c ≡ true → IsUtf8 (map to_ascii_lowercase (encode c))
lowered_char c is = elim (cases_lt c 128) [
  | inl small ↦ subst (λ (l : List ℕ). IsUtf8 (map to_ascii_lowercase l)) (sym (encode_ascii c small))
      (IsUtf8-from_ascii (to_ascii_lowercase c ∷ [])
      (one_ascii (to_ascii_lowercase c) (lower_small c small)))
  | inr large ↦ subst IsUtf8 (sym (large_char c large))
      (c ∷ [], (ap (λ t. t && true) is, append-nil (encode c)))
]

map_append : (f : ℕ → ℕ) (xs ys : List ℕ) → map f (xs ++ ys) ≡ map f xs ++ map f ys
map_append f [] ys = refl
map_append f (x ∷ xs) ys = ap (λ l. f x ∷ l) (map_append f xs ys)

lowered_chars : (cs : List ℕ) → scalars cs ≡ true → IsUtf8 (map to_ascii_lowercase (encodes cs))
lowered_chars [] are = IsUtf8-nil
lowered_chars (c ∷ cs) are =
    subst IsUtf8 (sym (map_append to_ascii_lowercase (encode c) (encodes cs)))
    (IsUtf8-append (map to_ascii_lowercase (encode c)) (map to_ascii_lowercase (encodes cs))
    (lowered_char c (both_true (scalar c) (scalars cs) are).0)
    (lowered_chars cs (both_true (scalar c) (scalars cs) are).1))

lowered : (bytes : List ℕ) → IsUtf8 bytes → IsUtf8 (map to_ascii_lowercase bytes)
lowered bytes is = subst (λ (l : List ℕ). IsUtf8 (map to_ascii_lowercase l)) is.1.1 (lowered_chars is.0 is.1.0)

-- a text stays one where case is ignored
folded_utf8 : (ignore_case : Bool) (bytes : List ℕ) → IsUtf8 bytes → IsUtf8 (case_folded ignore_case bytes)
folded_utf8 true bytes is = lowered bytes is
folded_utf8 false bytes is = is

folded_length : (ignore_case : Bool) (bytes : List ℕ) → length (case_folded ignore_case bytes) ≡ length bytes
folded_length ignore_case bytes = grind (arith, length-map)

-- and its characters begin at the same offsets
folded_boundary : (ignore_case : Bool) (bytes : List ℕ) (i : ℕ) → IsCharBoundary (case_folded ignore_case bytes) i
    → IsCharBoundary bytes i
folded_boundary ignore_case bytes i is = grind (arith, length-map, get_or-map)

-- a part of it is the part, with case ignored
folded_part : (ignore_case : Bool) (bytes : List ℕ) (from to : ℕ)
    → slice_range (case_folded ignore_case bytes) from to ≡ case_folded ignore_case (slice_range bytes from to)
folded_part ignore_case bytes from to = grind (arith, drop-map, take-map)

-- where a text stands in a text, its ends lie between characters
module _ (text pattern : List ℕ) (at : ℕ) (is_text : IsUtf8 text) (is_pattern : IsUtf8 pattern)
    (some : 0 < length pattern) (fits : at + length pattern ≤ length text)
    (same : slice_range text at (at + length pattern) ≡ pattern) where
  part_same : take (length pattern) (drop at text) ≡ pattern
  part_same = grind arith

  begins_between : IsCharBoundary text at
  begins_between = grind (arith, IsCharBoundary-start, get_or-drop, get_or-take, part_same)

  ends_between : IsCharBoundary text (at + length pattern)
  ends_between =
      IsCharBoundary-from_rest text at (length pattern) (omega (arith, fits))
      (IsCharBoundary-from_take (drop at text) (length pattern) (IsUtf8-drop text at is_text begins_between)
      (omega (arith, fits, length-drop at text)) (subst IsUtf8 (sym part_same) is_pattern))

-- so do those of a match
pub occurs_between : (patterns : List (List ℕ)) (ignore_case : Bool) (text : List ℕ) (span : Span) (i at : ℕ)
    → All IsUtf8 patterns → NoneIsEmpty patterns → IsUtf8 text → span.end ≤ length text
    → Occurs patterns ignore_case text span i at
    → IsCharBoundary text at × IsCharBoundary text (at + length (pattern_at patterns i))
occurs_between patterns ignore_case text span i at texts not_empty is_text inside occurs =
    let pattern = pattern_at patterns i in
    let folded = case_folded ignore_case pattern in
    let whole = case_folded ignore_case text in
    let len = folded_length ignore_case pattern in
    let long = folded_length ignore_case text in
    let same : slice_range whole at (at + length folded) ≡ folded = grind (arith, folded_part) in
    let utf8 = folded_utf8 ignore_case text is_text in
    let pattern_utf8 = folded_utf8 ignore_case pattern (texts i [] occurs.is_pattern) in (
      grind (arith, folded_boundary, begins_between),
      folded_boundary ignore_case text (at + length pattern)
          (grind (arith, ends_between)),
    )

-- and of one that an iteration gives
pub found_between : (search : SearchValue) (haystack : List ℕ) (m n : MatchesValue) (found : MatchValue)
    → m.search ≡ search → m.haystack ≡ haystack → m.span.end ≡ length m.haystack → GivesMatch m (Some found) n
    → All IsUtf8 search.query.patterns → NoneIsEmpty search.query.patterns → IsUtf8 haystack
    → IsCharBoundary haystack found.start × IsCharBoundary haystack found.end
found_between search haystack m n found search_is haystack_is to_end step texts not_empty is_text =
    let here : IsLeftmostMatch search.query search.ignore_case haystack (rest_from haystack m.at) found = grind arith in
    let both = occurs_between search.query.patterns search.ignore_case haystack (rest_from haystack m.at) found.pattern
    found.start texts not_empty is_text (omega arith) here.occurs in
    (both.0, subst (IsCharBoundary haystack) (sym here.whole) both.1)

-- and of a whole word that is the first from an offset on
pub word_between : (words : WholeWordsValue) (haystack sides : List ℕ) (at : ℕ) (found : MatchValue)
    → IsFirstAloneBy words haystack sides (between at (length haystack)) (Some found)
    → All IsUtf8 words.search.query.patterns → NoneIsEmpty words.search.query.patterns → IsUtf8 haystack
    → IsCharBoundary haystack found.start × IsCharBoundary haystack found.end
word_between words haystack sides at found first texts not_empty is_text =
    let both = occurs_between words.search.query.patterns words.search.ignore_case haystack
    (between at (length haystack)) found.pattern found.start texts not_empty is_text (omega arith)
    first.occurs.occurs in
    (both.0, subst (IsCharBoundary haystack) (sym first.whole) both.1)
