-- What an iteration gives in a text that may continue.
use Rattle.std.specs.Prelude.{ℕ, ◌+◌, ◌<◌, IfSome, Option}
use Rattle.literal_base.specs.MatchValue.{MatchValue}

-- there is no match, or not all of the bytes that decide about it lie before the end
abbrev pub IsUnknown : Option MatchValue → ℕ → ℕ → Type 0
IsUnknown found end deciding = IfSome found (λ it. end < it.start + deciding)
