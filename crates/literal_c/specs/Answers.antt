-- What a call writes to the memory that C lends it.
use Rattle.std.specs.Prelude.{◌≡◌, ◌⊎◌, ℕ, ◌<◌, ◌≤◌, Bool, List, [], ◌∷◌, length, map, take, drop, Option, Some, None}
use Rattle.std.specs.Prelude.{IfSome}
use Rattle.std.specs.List.{All}
use Rattle.literal_base.specs.Leftmost.{IsLeftmost, IsLeftmostMatch}
use Rattle.literal_base.specs.MatchValue.{MatchValue}
use Rattle.literal_base.specs.Occurs.{NothingOccurs, Occurs, between, whole_of}
use Rattle.literal_base.specs.Query.{Query}
use Rattle.literal_base.specs.declared.search.Span.{Span}
use Rattle.literal_search.specs.Prepared.{LiesIn}
use Rattle.literal_c.specs.declared.LiteralAnswer.{LiteralAnswer}
use Rattle.literal_c.specs.declared.LiteralMatch.{LiteralMatch}
use Rattle.literal_c.specs.declared.LiteralPage.{LiteralPage}
use Rattle.literal_c.specs.declared.TheConstants.{LITERAL_NONE, LITERAL_OK}

-- a match of C as other contracts see it
abbrev pub match_of : LiteralMatch → MatchValue
match_of found = record { pattern = found.pattern; start = found.start; end = found.end }

-- a match as C has it
abbrev pub match_for_c : MatchValue → LiteralMatch
match_for_c found = record { pattern = found.pattern; start = found.start; end = found.end }

-- no match in the haystack between an offset and an end begins before `next`
abbrev pub BeginsNone : Query → Bool → List ℕ → ℕ → ℕ → ℕ → Type 0
BeginsNone query ignore_case haystack end at next =
    (at ≤ next) × ((i p : ℕ) → p < next → ¬ Occurs query.patterns ignore_case haystack (between at end) i p)

-- each match is the leftmost one of the haystack after the previous match, up to an end; the first is the leftmost one
-- from an offset on. After the last, or from that offset on if there is none, no match begins before `next`
abbrev pub AreNext : Query → Bool → List ℕ → ℕ → ℕ → List MatchValue → ℕ → Type 0
AreNext query ignore_case haystack end at [] next = BeginsNone query ignore_case haystack end at next
AreNext query ignore_case haystack end at (found ∷ more) next =
    IsLeftmostMatch query ignore_case haystack (between at end) found
    × AreNext query ignore_case haystack end found.end more next

-- the end of the last match, or an offset if there is none
abbrev pub end_of_last : ℕ → List MatchValue → ℕ
end_of_last at [] = at
end_of_last at (found ∷ more) = end_of_last found.end more

-- a page of the matches in a span: `written` matches are written, and the rest of the array is unchanged. Either
-- nothing occurs after them, and it is the last page, whose `next` is the end of its last match, or the span's start
-- without one; or the array is full, and the next match begins at `next`
pub record IsPage (query : Query) (ignore_case : Bool) (haystack : List ℕ) (span : Span) (old new : List LiteralMatch)
    (page : LiteralPage) : Type 0 where
  pub len : length new ≡ length old
  pub fits : page.written ≤ length new
  pub matches : AreNext query ignore_case haystack span.end span.start (map match_of (take page.written new)) page.next
  pub others : drop page.written new ≡ drop page.written old
  pub rest : ((page.is_last ≡ 1) × (page.next ≡ end_of_last span.start (map match_of (take page.written new)))
      × NothingOccurs query.patterns ignore_case haystack (between page.next span.end))
      ⊎ ((page.is_last ≡ 0) × (page.written ≡ length new)
      × (i : ℕ) × Occurs query.patterns ignore_case haystack (between page.next span.end) i page.next)

-- a match lies in the span, is not empty, and its pattern number is below the number of patterns
pub record MayBeFound (span : Span) (patterns : ℕ) (found : MatchValue) : Type 0 where
  pub lies : LiesIn span found
  pub pattern : found.pattern < patterns

-- what holds of a page by any array: its matches lie in the span and name one of the patterns, the offset from which
-- the next page continues is in the span, and it is the last page or the array is full
pub record MayBePage (span : Span) (patterns : ℕ) (new : List LiteralMatch) (page : LiteralPage) : Type 0 where
  pub fits : page.written ≤ length new
  pub matches : All (λ found. MayBeFound span patterns (match_of found)) (take page.written new)
  pub start : span.start ≤ page.next
  pub end : page.next ≤ span.end
  pub rest : (page.is_last ≡ 1) ⊎ ((page.is_last ≡ 0) × (page.written ≡ length new))

-- the number of matches in a span that do not overlap: the first is its leftmost match, each other one the leftmost
-- match after the previous one, and nothing occurs after the last
abbrev pub IsCount : Query → Bool → List ℕ → Span → ℕ → Type 0
IsCount query ignore_case haystack span count =
    (all : List MatchValue) × (next : ℕ) × AreNext query ignore_case haystack span.end span.start all next
    × NothingOccurs query.patterns ignore_case haystack (between next span.end) × (count ≡ length all)

-- the answer of a search for C: `LITERAL_OK` and the match, or `LITERAL_NONE` and a match of zeros
abbrev pub answer_for_c : Option MatchValue → LiteralAnswer
answer_for_c None = record { status = LITERAL_NONE; found = record { pattern = 0; start = 0; end = 0 } }
answer_for_c (Some found) = record { status = LITERAL_OK; found = match_for_c found }

-- the answer of a search of the whole haystack, for C
abbrev pub IsAnswerForC : Query → Bool → List ℕ → LiteralAnswer → Type 0
IsAnswerForC query ignore_case haystack answer =
    (found : Option MatchValue) × IsLeftmost query ignore_case haystack (whole_of haystack) found
    × (answer ≡ answer_for_c found)

-- the answer is a match that lies in the haystack and names one of the patterns, or that nothing is found
abbrev pub MayBeAnswer : ℕ → List ℕ → LiteralAnswer → Type 0
MayBeAnswer patterns haystack answer =
    (found : Option MatchValue) × IfSome found (MayBeFound (whole_of haystack) patterns) × (answer ≡ answer_for_c found)
