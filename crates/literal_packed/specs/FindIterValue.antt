-- An iteration over all matches: `FindIter`, as contracts see it.
use Rattle.std.specs.Prelude.{◌≡◌, ℕ, ◌-◌, ◌<◌, false, List, length, Option, IfSome}
use Rattle.std.specs.Iterator.{Count, at_most}
use Rattle.literal_base.specs.Counts.{Counts}
use Rattle.literal_base.specs.MatchValue.{MatchValue}
use Rattle.literal_base.specs.Greedy.{place_after}
use Rattle.literal_base.specs.Occurs.{rest_from}
use Rattle.literal_base.specs.Leftmost.{IsLeftmost}
use Rattle.literal_base.specs.Query.{Query}
use Rattle.literal_packed.specs.Pairs.{counts_after}

-- a `FindIter` as contracts see it: the query, the haystack, the offset from which it continues, and the counts so far
pub record FindIterValue : Type 0 where
  pub query : Query
  pub haystack : List ℕ
  pub at : ℕ
  pub counts : Counts

-- the iteration after an answer, which counts as one search of the rest
abbrev pub after_answer : FindIterValue → Option MatchValue → FindIterValue
after_answer f answer = record f {
  at = place_after f.haystack answer;
  counts = counts_after f.counts f.query f.haystack (rest_from f.haystack f.at) answer;
}

-- a step of `next`: the answer is the leftmost match of the rest, which is not empty, or None if nothing occurs there
pub record FindsNext (old : FindIterValue) (answer : Option MatchValue) (new : FindIterValue) : Type 0 where
  pub leftmost : IsLeftmost old.query false old.haystack (rest_from old.haystack old.at) answer
  pub not_empty : IfSome answer (λ found. found.start < found.end)
  pub goes_on : new ≡ after_answer old answer

-- the iteration is at the end of the haystack
abbrev pub StandsAtEnd : FindIterValue → Type 0
StandsAtEnd f = f.at ≡ length f.haystack

-- the number of bytes that are left: an upper bound on the matches to come, since each has at least one byte
abbrev pub bytes_left : FindIterValue → Count
bytes_left f = at_most (length f.haystack - f.at)
