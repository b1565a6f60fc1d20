-- The known part of a search for C in a text that may continue.
use Rattle.std.specs.Prelude.{◌≡◌, ◌⊎◌, ℕ, ℤ, ◌+◌, ◌-◌, ◌<◌, ◌≤◌, ◌++◌, ⊤, Bool, false, true, List, [], drop, length}
use Rattle.std.specs.Prelude.{map, max, slice_index, take}
use Rattle.std.specs.List.{All}
use Rattle.literal_base.specs.MatchValue.{MatchValue}
use Rattle.literal_search.specs.Prepared.{ForPrepared, longest_in}
use Rattle.literal_search.specs.SearchValue.{SearchValue}
use Rattle.literal_search.specs.Stream.{AnswersSoFar, IsKnownBy, MayBeKnown}
use Rattle.literal_leftmost.specs.declared.so_far.SoFar.{SoFar}
use Rattle.literal_leftmost.specs.declared.so_far.SoFar.TheVariants.{Found, NoneBefore}
use Rattle.literal_c.specs.Answers.{AreNext, end_of_last, match_of}
use Rattle.literal_c.specs.declared.LiteralMatch.{LiteralMatch}
use Rattle.literal_c.specs.declared.LiteralPage.{LiteralPage}
use Rattle.literal_c.specs.declared.TheConstants.{LITERAL_NONE, LITERAL_OK}

-- the bytes that may follow: any, if more may follow, otherwise none
abbrev pub MayFollow : Bool → List ℕ → Type 0
MayFollow true behind = ⊤
MayFollow false behind = behind ≡ []

-- an answer is given, if more may follow, once it is known; otherwise it is a match that is not empty and lies in the
-- text, or there is none before the text's end
abbrev pub IsTold : Bool → ℕ → ℕ → ℕ → SoFar → Type 0
IsTold true longest len at answer = IsKnownBy longest len at answer
IsTold false longest len at (Found found) = (found.start < found.end) × (found.end ≤ len)
IsTold false longest len at (NoneBefore place) = place ≡ len

-- the status of an answer and what is written: a match and its end, or the offset before which none begins
abbrev pub IsToldBy : SoFar → ℤ → LiteralMatch → ℕ → Type 0
IsToldBy (Found it) status found next = (status ≡ LITERAL_OK) × (match_of found ≡ it) × (next ≡ it.end)
IsToldBy (NoneBefore place) status found next = (status ≡ LITERAL_NONE) × (next ≡ place)

-- an answer by an array. By a prepared array it is right, whatever may follow. By any array it is given when the length
-- of its longest pattern says so, lies in the haystack, and names one of its patterns
pub record IsRight (numbers : List ℕ) (haystack : List ℕ) (start : ℕ) (more : Bool) (answer : SoFar) : Type 0 where
  pub prepared : ForPrepared numbers (λ search. (behind : List ℕ) → MayFollow more behind
      → AnswersSoFar search.query search.ignore_case (haystack ++ behind) start answer)
  pub told : IsTold more (longest_in numbers) (length haystack) start answer
  pub inside : MayBeKnown (slice_index numbers 3) start answer

-- a right answer is given
abbrev pub TellsSoFar : List ℕ → List ℕ → ℕ → Bool → ℤ → LiteralMatch → ℕ → Type 0
TellsSoFar numbers haystack start more status found next =
    (answer : SoFar) × IsToldBy answer status found next × IsRight numbers haystack start more answer

-- how many bytes, from its first one on, decide whether a match is known: as many as the longest pattern has, or none
-- if nothing may follow
abbrev pub deciding_len : Bool → ℕ → ℕ
deciding_len true longest = longest
deciding_len false longest = 0

-- the matches are the first ones of the text from an offset on, whatever may follow the haystack, and after them none
-- begins before `next`
abbrev pub AreFirstSoFar : SearchValue → List ℕ → ℕ → Bool → List MatchValue → ℕ → Type 0
AreFirstSoFar search haystack start more all next = (behind : List ℕ) → MayFollow more behind
    → AreNext search.query search.ignore_case (haystack ++ behind) (length (haystack ++ behind)) start all next

-- a page of known matches: for each match on it, the bytes that decide lie in the `len` known ones. The rest of the
-- array is unchanged. Either the array is full, and `next` is the end of the last match; or it is not, and `next` is
-- the first offset, not before that end, at which a match may begin that is not known. Without a match, that end is
-- the offset where the page begins
pub record IsKnownPage (deciding len start : ℕ) (old new : List LiteralMatch) (page : LiteralPage) : Type 0 where
  pub same : length new ≡ length old
  pub known : All (λ found. found.start + deciding ≤ len) (take page.written new)
  pub others : drop page.written new ≡ drop page.written old
  pub rest : let last = end_of_last start (map match_of (take page.written new)) in
      ((page.is_last ≡ 0) × (page.written ≡ length new) × (page.next ≡ last))
      ⊎ ((page.is_last ≡ 1) × (page.written < length new) × (page.next ≡ max last (len - (deciding - 1))))
