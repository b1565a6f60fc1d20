-- The matches of an iteration about which little is known, and the rest of one.
use Rattle.std.specs.Prelude.{◌≡◌, ◌⊎◌, ℕ, ◌≤◌, List, length, take}
use Rattle.std.specs.List.{All}
use Rattle.literal_base.specs.Bytes.{contains}
use Rattle.literal_base.specs.MatchValue.{MatchValue}
use Rattle.literal_base.specs.Occurs.{between}
use Rattle.literal_base.specs.declared.packed.MatchKind.{MatchKind}
use Rattle.literal_base.specs.declared.search.Span.{Span}
use Rattle.literal_search.specs.PreparedWords.{PreparedWordsValue}
use Rattle.literal_search.specs.WholeWords.{is_ascii_word_byte}
use Rattle.literal_c.specs.Answers.{match_of}
use Rattle.literal_c.specs.declared.LiteralMatch.{LiteralMatch}
use Rattle.literal_c.specs.declared.LiteralPage.{LiteralPage}

-- the offset is where an iteration began, or the end of a match that it may give
abbrev pub IsReached : (MatchValue → Type 0) → ℕ → ℕ → Type 0
IsReached MayGive start next = (next ≡ start) ⊎ ((found : MatchValue) × MayGive found × (next ≡ found.end))

-- the matches of a page may be given, the page ends where they do, and it is the last page, or the array is full
pub record AreGiven (MayGive : MatchValue → Type 0) (start : ℕ) (new : List LiteralMatch) (page : LiteralPage)
    : Type 0 where
  pub fits : page.written ≤ length new
  pub matches : All (λ found. MayGive (match_of found)) (take page.written new)
  pub reached : IsReached MayGive start page.next
  pub rest : (page.is_last ≡ 1) ⊎ ((page.is_last ≡ 0) × (page.written ≡ length new))

-- the rest of an iteration over leftmost matches: a span of a haystack, and the number of patterns
pub record Rest : Type 0 where
  pub haystack : List ℕ
  pub span : Span
  pub patterns : ℕ

-- the rest from an offset on
abbrev pub behind : Rest → ℕ → Rest
behind rest at = record rest { span = between at rest.span.end }

-- a search for whole words by an array, a match kind, and the ASCII word bytes
pub record AreWordsBy (kind : MatchKind) (array : List ℕ) (words : PreparedWordsValue) : Type 0 where
  pub numbers : words.numbers ≡ array
  pub kind_is : words.kind ≡ kind
  pub word_bytes : (b : ℕ) → contains words.word_bytes b ≡ is_ascii_word_byte b
