-- Tokens, one more at a time.
-- For `tokens`.
use Rattle.std.proofs.Common.{◌≡◌, ℕ, ◌<◌, ◌≤◌, Bool, true, false, List, [], ◌∷◌, ◌++◌, None, IsSome, nat_lt, cond}
use Rattle.std.proofs.Common.{append-nil, append_assoc, refl, inl, inr, sym, ap, ◌∙◌, subst, arith}
use Rattle.std.proofs.lemmas.Bool.{ltb-true, ltb-false}
use Rattle.literal_examples.specs.Tokens.{GapsAreWhole, Tiles, gap, match_in, matched}
use Rattle.literal_examples.specs.declared.tokens.Token.{Token}

-- one token more
pub tiles_push : (from to : ℕ) (tokens : List Token) (token : Token) → Tiles from to tokens → token.span.start ≡ to
    → to < token.span.end → Tiles from token.span.end (tokens ++ token ∷ [])
tiles_push from to [] token tiles start some =
    (start ∙ sym tiles, subst (λ at. at < token.span.end) (sym tiles) some, refl)
tiles_push from to (first ∷ more) token tiles start some =
    (tiles.0, tiles.1, tiles_push first.span.end to more token tiles.2 start some)

-- what lies between two offsets more
pub tiles_gap : (from at to : ℕ) (tokens : List Token) → Tiles from at tokens → at ≤ to
    → Tiles from to (tokens ++ gap at to)
tiles_gap from at to tokens tiles ordered = by_test (nat_lt at to) refl
  where
    by_test : (some : Bool) → nat_lt at to ≡ some → Tiles from to (tokens ++ cond some (record {
      span = record { start = at; end = to };
      pattern = None;
    } ∷ []) [])
    by_test true is = tiles_push from at tokens _ tiles refl (ltb-true at to is)
    by_test false is = subst (λ ts. Tiles from to ts) (sym (append-nil tokens))
        (subst (λ end. Tiles from end tokens) (omega (arith, ltb-false at to is, ordered)) tiles)

pub matched-append : (a b : List Token) → matched (a ++ b) ≡ matched a ++ matched b
matched-append [] b = refl
matched-append (token ∷ more) b =
    ap (λ ms. match_in token.span token.pattern ++ ms) (matched-append more b)
    ∙ sym (append_assoc (match_in token.span token.pattern) (matched more) (matched b))

-- what lies between two offsets is no match
pub matched-gap : (at to : ℕ) (tokens : List Token) → matched (tokens ++ gap at to) ≡ matched tokens
matched-gap at to tokens =
    matched-append tokens (gap at to) ∙ (ap (λ ms. matched tokens ++ ms) (by_test (nat_lt at to))
    ∙ append-nil (matched tokens))
  where
    by_test : (some : Bool) → matched (cond some (record {
      span = record { start = at; end = to };
      pattern = None;
    } ∷ []) []) ≡ []
    by_test true = refl
    by_test false = refl

-- the front of whole gaps
whole_front : (tokens : List Token) (next : Token) → GapsAreWhole (tokens ++ next ∷ []) → GapsAreWhole tokens
whole_front [] next whole = tt
whole_front (first ∷ []) next whole = tt
whole_front (first ∷ (second ∷ more)) next whole = (whole.0, whole_front (second ∷ more) next whole.1)

-- whatever comes next, the gaps are whole behind a match
whole_behind : (tokens : List Token) (token next : Token) → IsSome token.pattern → GapsAreWhole (tokens ++ token ∷ [])
    → GapsAreWhole ((tokens ++ token ∷ []) ++ next ∷ [])
whole_behind [] token next is_match whole = (inl is_match, tt)
whole_behind (first ∷ []) token next is_match whole = (whole.0, (inl is_match, tt))
whole_behind (first ∷ (second ∷ more)) token next is_match whole =
    (whole.0, whole_behind (second ∷ more) token next is_match whole.1)

-- a match may stand behind any token
whole_before : (tokens : List Token) (token : Token) → IsSome token.pattern → GapsAreWhole tokens
    → GapsAreWhole (tokens ++ token ∷ [])
whole_before [] token is_match whole = tt
whole_before (first ∷ []) token is_match whole = (inr is_match, tt)
whole_before (first ∷ (second ∷ more)) token is_match whole =
    (whole.0, whole_before (second ∷ more) token is_match whole.1)

-- one gap may stand where any token may
pub whole_gap : (at to : ℕ) (tokens : List Token) → ((next : Token) → GapsAreWhole (tokens ++ next ∷ []))
    → GapsAreWhole (tokens ++ gap at to)
whole_gap at to tokens whole = by_test (nat_lt at to)
  where
    by_test : (some : Bool) → GapsAreWhole (tokens ++ cond some (record {
      span = record { start = at; end = to };
      pattern = None;
    } ∷ []) [])
    by_test true = whole _
    by_test false = subst GapsAreWhole (sym (append-nil tokens))
        (whole_front tokens (record { span = record { start = at; end = to }; pattern = None }) (whole _))

-- a match more, and then any token may stand behind it
pub whole_push : (tokens : List Token) (token : Token) → IsSome token.pattern → GapsAreWhole tokens
    → (next : Token) → GapsAreWhole ((tokens ++ token ∷ []) ++ next ∷ [])
whole_push tokens token is_match whole next =
    whole_behind tokens token next is_match (whole_before tokens token is_match whole)
