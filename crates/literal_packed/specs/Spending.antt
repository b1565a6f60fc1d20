-- The counts of several searches together.
use Rattle.std.specs.Prelude.{◌≡◌, ℕ, ◌+◌, ◌-◌, ◌≤◌, List, [], ◌∷◌, length, Some, None}
use Rattle.literal_base.specs.Counts.{Counts}
use Rattle.literal_base.specs.MatchValue.{MatchValue}
use Rattle.literal_base.specs.Occurs.{rest_from, whole_of}
use Rattle.literal_base.specs.Query.{Query}
use Rattle.literal_packed.specs.Pairs.{counts_after, equal_pairs, bucket_pairs}

-- the counts after successive searches with these matches as their answers, and None at last. Each searches the rest
-- from the end of the previous match on. An iteration counts like this up to its first None
-- (`literal_packed::laws::iterations_count_as_lists`)
abbrev pub counts_after_all : Counts → Query → List ℕ → ℕ → List MatchValue → Counts
counts_after_all old query haystack at [] =
    counts_after old query haystack (rest_from haystack at) None
counts_after_all old query haystack at (found ∷ more) =
    counts_after_all (counts_after old query haystack (rest_from haystack at) (Some found)) query haystack found.end
    more

-- the counts after successive searches that find these matches: the first in the haystack from an offset on, each of
-- the others from the end of the previous match on
abbrev pub counts_after_matches : Counts → Query → List ℕ → ℕ → List MatchValue → Counts
counts_after_matches old query haystack at [] = old
counts_after_matches old query haystack at (found ∷ more) =
    counts_after_matches (counts_after old query haystack (rest_from haystack at) (Some found)) query haystack found.end
    more

-- the three counts of a packed search do not decrease, and the others are unchanged
pub record CountsOn (old new : Counts) : Type 0 where
  pub hashed : old.hashed ≤ new.hashed
  pub entries : old.entries ≤ new.entries
  pub compared : old.compared ≤ new.compared
  pub others : new ≡ record old { hashed = new.hashed; entries = new.entries; compared = new.compared }

-- a search that continues from one offset to a later one counts at most this: hashed ≤ H(from) - H(to), entries ≤
-- B(from) - B(to), compared ≤ E(from) - E(to). H, B and E are the bytes, the `bucket_pairs` and the `equal_pairs` of
-- the rest from an offset on. Each call of `next` keeps within it (`literal_packed::laws::next_is_bounded`)
pub record SpendsAtMost (query : Query) (haystack : List ℕ) (from to : ℕ) (old new : Counts) : Type 0 where
  pub hashed : new.hashed + (length haystack - to) ≤ old.hashed + (length haystack - from)
  pub entries : new.entries + bucket_pairs query.patterns haystack (rest_from haystack to)
      ≤ old.entries + bucket_pairs query.patterns haystack (rest_from haystack from)
  pub compared : new.compared + equal_pairs query.patterns haystack (rest_from haystack to)
      ≤ old.compared + equal_pairs query.patterns haystack (rest_from haystack from)
  pub counts_on : CountsOn old new

-- a search of a whole haystack counts at most its bytes, its `bucket_pairs` and its `equal_pairs`
pub record SpendsWithin (query : Query) (haystack : List ℕ) (old new : Counts) : Type 0 where
  pub hashed : new.hashed ≤ old.hashed + length haystack
  pub entries : new.entries ≤ old.entries + bucket_pairs query.patterns haystack (whole_of haystack)
  pub compared : new.compared ≤ old.compared + equal_pairs query.patterns haystack (whole_of haystack)
  pub counts_on : CountsOn old new
