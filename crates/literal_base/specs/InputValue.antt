-- The parameters of a search.
use Rattle.std.specs.Prelude.{ℕ, ◌+◌, ◌≤◌, Bool, List, length}
use Rattle.literal_base.specs.declared.search.Anchored.{Anchored}

-- an `Input` as contracts see it: the haystack, the offsets from which and up to which it is searched, whether a match
-- has to begin at the first of these (`anchored`), and whether any match will do as soon as one is known (`earliest`)
pub record InputValue : Type 0 where
  pub haystack : List ℕ
  pub start : ℕ
  pub end : ℕ
  pub anchored : Anchored
  pub earliest : Bool

-- the offsets are valid bounds of a search: the end is at most the haystack's length, and the start at most one more
-- than the end. If the start is one more than the end, the search is over
pub record AreBounds (haystack : List ℕ) (start end : ℕ) : Type 0 where
  pub in_haystack : end ≤ length haystack
  pub start_at_most : start ≤ end + 1
