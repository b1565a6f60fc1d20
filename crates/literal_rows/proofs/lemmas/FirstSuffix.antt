-- The pattern that ends with a text: the first of those that are a suffix of it.
use Rattle.std.proofs.lemmas.Grind.{common_steps}
use Rattle.std.proofs.Common.{◌≡◌, ℕ, ◌+◌, ◌-◌, ◌<◌, ◌≤◌, List, [], ◌∷◌, ◌++◌, length, drop}
use Rattle.std.proofs.Common.{Option, Some, None, inl, ◌⊎◌, append_assoc, length-append, refl, ap, ◌∙◌, arith}
use Rattle.std.proofs.lemmas.Bool.{and_parts}
use Rattle.std.proofs.Math.Seq.{drop-append_seam}
use Rattle.std.proofs.lemmas.List.{take-append-drop}
use Rattle.std.proofs.lemmas.List.Quantifiers.{position-Some}
use Rattle.std.proofs.lemmas.List.Sums.{fails_before_first}
use Rattle.std.specs.Option.{option_or}
use Rattle.literal_base.specs.Occurs.{NoneIsEmpty, pattern_at}
use Rattle.literal_rows.specs.Inside.Suffixes.{HasSuffix, IsSuffix, IsFirstSuffix}
use Rattle.literal_rows.specs.Words.{ending, first_equal}
use Rattle.literal_rows.proofs.lemmas.Ends.{equal_if, whole_if_long}

-- a suffix of a suffix is one
pub ends_on : (text middle end : List ℕ) → HasSuffix text middle → HasSuffix middle end → HasSuffix text end
ends_on text middle end one other =
    record {
      prefix = one.prefix ++ other.prefix;
      split = grind (arith, append_assoc);
    }

pub ends_length : (text end : List ℕ) (is : HasSuffix text end) → length text ≡ length is.prefix + length end
ends_length text end is = ap (λ (l : List ℕ). length l) is.split ∙ length-append is.prefix end

-- of two suffixes of a text the shorter is a suffix of the longer
pub ends_within : (text short long : List ℕ) → HasSuffix text short → HasSuffix text long → length short ≤ length long
    → HasSuffix long short
ends_within text short long one other shorter =
    let n = length other.prefix in
    let m = length one.prefix - n in
    let sizes : n ≤ length one.prefix =
    omega (arith, ends_length text short one, ends_length text long other) in
    let rest : drop n text ≡ long = ap (drop n) other.split ∙ drop-append_seam other.prefix long in
    grind (arith, common_steps, take-append-drop)

empty_prefix : (prefix rest : List ℕ) → length prefix ≡ 0 → prefix ++ rest ≡ rest
empty_prefix prefix rest none = grind (arith, common_steps)

-- of one length they are equal
pub ends_same : (text a b : List ℕ) → HasSuffix text a → HasSuffix text b → length a ≡ length b → a ≡ b
ends_same text a b one other same =
    let within = ends_within text a b one other (omega arith) in
    grind (arith, ends_length, empty_prefix)

-- each pattern is a suffix of itself
pub end_of_itself : (patterns : List (List ℕ)) (i : ℕ) → i < length patterns
    → IsSuffix patterns (pattern_at patterns i) i
end_of_itself patterns i below = record { is_pattern = below; ends = record { prefix = []; split = refl } }

module _ (patterns : List (List ℕ)) (some : NoneIsEmpty patterns) where
  -- a suffix of a text is the text, or a suffix of what is behind its first symbol
  end_splits : (symbol : ℕ) (more : List ℕ) (i : ℕ) → IsSuffix patterns (symbol ∷ more) i
      → (symbol ∷ more ≡ pattern_at patterns i) ⊎ IsSuffix patterns more i
  end_splits symbol more i is =
      by_prefix is.ends.prefix is.ends.split
    where
      by_prefix : (prefix : List ℕ) → symbol ∷ more ≡ prefix ++ pattern_at patterns i
          → (symbol ∷ more ≡ pattern_at patterns i) ⊎ IsSuffix patterns more i
      by_prefix [] split = inl split
      by_prefix (x ∷ prefix) split = grind arith

  longer_end : (symbol : ℕ) (more : List ℕ) (i : ℕ) → IsSuffix patterns more i → IsSuffix patterns (symbol ∷ more) i
  longer_end symbol more i is = record {
    is_pattern = is.is_pattern;
    ends = ends_on (symbol ∷ more) more (pattern_at patterns i)
        (record { prefix = symbol ∷ []; split = refl }) is.ends;
  }

  pub no_end_of_nothing : (i : ℕ) → ¬ IsSuffix patterns [] i
  no_end_of_nothing i is =
      let long = some i [] is.is_pattern in
      omega (arith, ends_length [] (pattern_at patterns i) is.ends)

  not_equal : (text : List ℕ) (i : ℕ) → first_equal patterns text ≡ None → i < length patterns
      → ¬ (text ≡ pattern_at patterns i)
  not_equal text i none below same = grind (arith, fails_before_first, equal_if)

  -- the first that is a text
  equal_is_first : (text : List ℕ) (first : ℕ) → first_equal patterns text ≡ Some first
      → IsFirstSuffix patterns text first
  equal_is_first text first is = grind (arith, common_steps, position-Some, and_parts, whole_if_long)

  -- where no pattern ends none is a suffix of the text
  pub none_ends : (text : List ℕ) → ending patterns text ≡ None → (i : ℕ) → ¬ IsSuffix patterns text i
  none_ends [] none i is = no_end_of_nothing i is
  none_ends (symbol ∷ more) none i is = grind (arith, end_splits, not_equal, none_ends more)

  -- and where one does it comes first of all that are
  pub first_ends : (text : List ℕ) (first : ℕ) → ending patterns text ≡ Some first
      → IsFirstSuffix patterns text first
  first_ends [] first is = cc
  first_ends (symbol ∷ more) first is =
      by_first (first_equal patterns (symbol ∷ more)) refl is (first_ends more)
    where
      by_first : (o : Option ℕ) → first_equal patterns (symbol ∷ more) ≡ o
          → option_or o (ending patterns more) ≡ Some first
          → ((first : ℕ) → ending patterns more ≡ Some first → IsFirstSuffix patterns more first)
          → IsFirstSuffix patterns (symbol ∷ more) first
      by_first (Some equal) whole found further =
          equal_is_first (symbol ∷ more) first (whole ∙ found)
      by_first None none found further =
          let rest = further first found in
          grind (arith, end_splits, longer_end, not_equal)

  -- the first of the ends of a text is the first of its own
  pub first_is_own : (text : List ℕ) (first : ℕ) → IsFirstSuffix patterns text first
      → ending patterns (pattern_at patterns first) ≡ Some first
  first_is_own text first is = by (ending patterns (pattern_at patterns first)) refl
    where
      own : IsSuffix patterns (pattern_at patterns first) first
      own = end_of_itself patterns first is.is.is_pattern

      by : (o : Option ℕ) → ending patterns (pattern_at patterns first) ≡ o → o ≡ Some first
      by None none = absurd (none_ends (pattern_at patterns first) none first own)
      by (Some other) found =
          let one = first_ends (pattern_at patterns first) other found in
          let end : IsSuffix patterns text other = grind (arith, ends_on) in
          grind arith

  -- the ends of a text are those of the first of them
  pub ends_of_first : (text : List ℕ) (first : ℕ) → IsFirstSuffix patterns text first → (i : ℕ)
      → IsSuffix patterns text i → IsSuffix patterns (pattern_at patterns first) i
  ends_of_first text first is i end = grind (arith, ends_within)
