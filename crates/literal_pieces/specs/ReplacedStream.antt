-- A text that is read in pieces, and written with each match replaced by what a function writes for it.
use Rattle.std.specs.Prelude.{◌≡◌, ⊤, ℕ, ◌+◌, ◌-◌, ◌<◌, ◌≤◌, ◌++◌, List, length, Ok, Option, Result}
use Rattle.std.specs.Borrow.{Bor, MutBor}
use Rattle.std.specs.Io.KnownBytes.{Appends, Consumes, IsAtEnd}
use Rattle.std.specs.List.{FoldsTo, slice_range}
use Rattle.std.specs.declared.io.Error.{Error}
use Rattle.literal_base.specs.Greedy.{IsGreedy}
use Rattle.literal_base.specs.MatchValue.{MatchValue}
use Rattle.literal_leftmost.specs.SearchValue.{SearchValue}
use Rattle.literal_rows.specs.Patterns.{longest_of}
use Rattle.literal_words.specs.WholeWords.{AreWordsFrom, WholeWordsValue}
use Rattle.literal_pieces.specs.declared.replace_stream.ReplaceStreamError.{ReplaceStreamError}
use Rattle.literal_pieces.specs.declared.replace_stream.ReplaceStreamError.TheVariants as stream

-- the progress of rewriting a text by calls of a function: the function, the bytes that the writer holds, if they are
-- known, and the offset up to which the text is written
pub record RewritingValue (F : Type 0) : Type 0 where
  pub replace : F
  pub written : Option (List ℕ)
  pub at : ℕ

-- the matches that come before an offset: with those from there on they are all, whatever follows the text
abbrev pub ComeFirst : (List ℕ → ℕ → List MatchValue → Type 0) → List ℕ → ℕ → List MatchValue → Type 0
ComeFirst AreMatches text at matches = (more : List ℕ) (behind : List MatchValue)
    → AreMatches (text ++ more) at behind → AreMatches (text ++ more) 0 (matches ++ behind)

module _ {F W : Type 0} (contents : W → Option (List ℕ))
    (step : F → MatchValue → Bor (List ℕ) → MutBor W → Result ⊤ Error → MutBor W → F → Type 0) where
  -- the bytes up to a match are written unchanged, followed by what a call with the match and its bytes writes
  pub record RewritesMatch (text : List ℕ) (old : RewritingValue F) (found : MatchValue) (new : RewritingValue F)
      : Type 0 where
    pub bytes : Bor (List ℕ)
    pub before : MutBor W
    pub behind : MutBor W
    pub after : old.at ≤ found.start
    pub some : found.start < found.end
    pub inside : found.end ≤ length text
    pub are_matched : bytes.now ≡ slice_range text found.start found.end
    pub between : Appends old.written (contents before.now) (slice_range text old.at found.start)
    pub calls : step old.replace found bytes before (Ok tt) behind new.replace
    pub leaves : new.written ≡ contents behind.now
    pub goes_on : new.at ≡ found.end

  -- the matches are rewritten by one call each, in order, and then the text is written up to an offset
  pub record AreRewritten (text : List ℕ) (matches : List MatchValue) (replace : F) (held : Option (List ℕ)) (at : ℕ)
      (written : Option (List ℕ)) : Type 0 where
    pub last : RewritingValue F
    pub calls : FoldsTo (RewritesMatch text) (record { replace = replace; written = held; at = 0 }) matches last
    pub upto : last.at ≤ at
    pub inside : at ≤ length text
    pub rest : Appends last.written written (slice_range text last.at at)

  -- What is searched for: the matches of a text from an offset on. So many bytes decide about one, from its start on.
  module _ (AreMatches : List ℕ → ℕ → List MatchValue → Type 0) (reach : ℕ) (replace : F)
      (unread left held written : Option (List ℕ))
    where
      -- a text is read to its end, and its matches are rewritten
      pub record RewritesAllOf : Type 0 where
        pub text : List ℕ
        pub matches : List MatchValue
        pub reads : Consumes unread left text
        pub end : IsAtEnd left
        pub are_matches : AreMatches text 0 matches
        pub are_rewritten : AreRewritten text matches replace held (length text) written

      -- the text that was read is written with its matches rewritten, except for some of its last bytes, fewer than
      -- decide about a match
      pub record RewritesPartOf : Type 0 where
        pub text : List ℕ
        pub matches : List MatchValue
        pub at : ℕ
        pub reads : Consumes unread left text
        pub far : length text ≤ at + (reach - 1)
        pub come_first : ComeFirst AreMatches text at matches
        pub are_rewritten : AreRewritten text matches replace held at written

      -- why a text is not written so: memory was refused, and nothing is read or written; or a read failed, after the
      -- known part was written; or a write or a call failed, after a text was read
      abbrev pub StopsRewritingOf : ReplaceStreamError → Type 0
      StopsRewritingOf stream.NotOneForEach = ⊥
      StopsRewritingOf stream.OutOfMemory = (left ≡ unread) × (written ≡ held)
      StopsRewritingOf (stream.ReadFailed error) = RewritesPartOf
      StopsRewritingOf (stream.WriteFailed error) = (text : List ℕ) × Consumes unread left text

  -- `RewritesAllOf` for the greedy list, about whose matches the bytes of the longest pattern decide
  abbrev pub RewritesAllBy : SearchValue → F → Option (List ℕ) → Option (List ℕ) → Option (List ℕ)
      → Option (List ℕ) → Type 0
  RewritesAllBy search =
      RewritesAllOf (IsGreedy search.query search.ignore_case) (longest_of search.query.patterns)

  -- `StopsRewritingOf` for the greedy list
  abbrev pub StopsRewritingBy : SearchValue → F → Option (List ℕ) → Option (List ℕ) → Option (List ℕ)
      → Option (List ℕ) → ReplaceStreamError → Type 0
  StopsRewritingBy search =
      StopsRewritingOf (IsGreedy search.query search.ignore_case) (longest_of search.query.patterns)

  -- `RewritesAllOf` for whole words, about which one byte more decides
  abbrev pub RewritesWordsBy : WholeWordsValue → F → Option (List ℕ) → Option (List ℕ) → Option (List ℕ)
      → Option (List ℕ) → Type 0
  RewritesWordsBy words = RewritesAllOf (AreWordsFrom words) (longest_of words.search.query.patterns + 1)

  -- `StopsRewritingOf` for whole words
  abbrev pub StopsRewritingWordsBy : WholeWordsValue → F → Option (List ℕ) → Option (List ℕ) → Option (List ℕ)
      → Option (List ℕ) → ReplaceStreamError → Type 0
  StopsRewritingWordsBy words = StopsRewritingOf (AreWordsFrom words) (longest_of words.search.query.patterns + 1)
