-- The patterns of a builder: those that were added, as long as none is empty and there are not too many. Every builder
-- uses these definitions, each with its own limit.
use Rattle.std.specs.Prelude.{ℕ, ◌<◌, Bool, ◌&&◌, nat_lt, nat_le, if◌then◌else◌, List, [], ◌∷◌, ◌++◌, length, Option}
use Rattle.std.specs.Prelude.{Some, None, IfSome, IsSomeAnd, IsTrue, unwrap_or}
use Rattle.std.specs.List.{list_all}

-- no pattern is empty, and there are at most `limit` patterns
abbrev pub may_keep : ℕ → List (List ℕ) → Bool
may_keep limit added = list_all (λ (bytes : List ℕ). nat_lt 0 (length bytes)) added && nat_le (length added) limit

-- the state of a builder after these patterns were added: the patterns, or None if one of them is empty or there are
-- too many. From then on it keeps none
abbrev pub state_of : ℕ → List (List ℕ) → Option (List (List ℕ))
state_of limit added = if may_keep limit added then Some added else None

-- the patterns that a builder keeps in a state
abbrev pub kept_of : Option (List (List ℕ)) → List (List ℕ)
kept_of state = unwrap_or state []

-- the state after more patterns were added. It is unchanged if there are none, or if the builder keeps none any more;
-- otherwise it is the state of the kept patterns followed by these
abbrev pub state_after : ℕ → Option (List (List ℕ)) → List (List ℕ) → Option (List (List ℕ))
state_after limit state [] = state
state_after limit None (first ∷ more) = None
state_after limit (Some kept) (first ∷ more) = state_of limit (kept ++ first ∷ more)

-- in this state, the builder may keep the patterns that it keeps
abbrev pub IsState : ℕ → Option (List (List ℕ)) → Type 0
IsState limit state = IfSome state (λ kept. IsTrue (may_keep limit kept))

-- in this state the builder would keep a pattern: it still keeps patterns, this one is not empty, and there is room.
-- Only then does adding it take memory
abbrev pub WouldKeep : ℕ → Option (List (List ℕ)) → List ℕ → Type 0
WouldKeep limit state bytes = IsSomeAnd state (λ kept. (0 < length bytes) × (length kept < limit))
