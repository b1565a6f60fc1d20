-- A text that is cut into tokens.
use Rattle.std.specs.Prelude.{◌≡◌, ⊤, ℕ, ◌<◌, ◌⊎◌, List, [], ◌∷◌, ◌++◌, Option, Some, None, IsSome, nat_lt}
use Rattle.std.specs.Prelude.{if◌then◌else◌}
use Rattle.literal_base.specs.declared.search.Span.{Span}
use Rattle.literal_base.specs.MatchValue.{MatchValue}
use Rattle.literal_examples.specs.declared.tokens.Token.{Token}

-- the tokens are, in order, the part of a text from one offset to another, and none of them is empty
abbrev pub Tiles : ℕ → ℕ → List Token → Type 0
Tiles from to [] = from ≡ to
Tiles from to (token ∷ more) = (token.span.start ≡ from) × (from < token.span.end) × Tiles token.span.end to more

-- the match of a token, if it is one
abbrev pub match_in : Span → Option ℕ → List MatchValue
match_in span None = []
match_in span (Some pattern) = record { pattern = pattern; start = span.start; end = span.end } ∷ []

-- the matches among the tokens
abbrev pub matched : List Token → List MatchValue
matched [] = []
matched (token ∷ more) = match_in token.span token.pattern ++ matched more

-- the bytes between two offsets as a token, if there are any
abbrev pub gap : ℕ → ℕ → List Token
gap from to = if nat_lt from to then record { span = record { start = from; end = to }; pattern = None } ∷ [] else []

-- the bytes between two matches are at most one token: of two neighbouring tokens one is a match
abbrev pub GapsAreWhole : List Token → Type 0
GapsAreWhole [] = ⊤
GapsAreWhole (token ∷ []) = ⊤
GapsAreWhole (token ∷ (next ∷ more)) = (IsSome token.pattern ⊎ IsSome next.pattern) × GapsAreWhole (next ∷ more)
