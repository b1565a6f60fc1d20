-- Which patterns the sets of a builder take in, one pattern more.
-- For `Running`.
use Rattle.std.proofs.Common.{◌≡◌, ℕ, ◌<◌, ◌≤◌, ◌&&◌, not, Bool, true, false, cond, List, [], ◌∷◌, ◌++◌, length}
use Rattle.std.proofs.Common.{nat_le, refl, append-nil, sym, ap, ◌∙◌, arith}
use Rattle.std.specs.List.{take_while}
use Rattle.std.proofs.lemmas.Bool.{le-leb, lt-leb}
use Rattle.std.proofs.lemmas.List.Sums.{fold_push, take_while-cons}
use Rattle.literal_packed.proofs.lemmas.Lists.{and_right_false}
use Rattle.literal_prefilters.specs.Inside.Running.{are_short, rare_taken, taken_in}
use Rattle.literal_prefilters.specs.Table.{size}
use Rattle.literal_prefilters.specs.Tables.{is_rare_byte, of_set}
use Rattle.literal_prefilters.proofs.lemmas.Sets.{size-agree}

module _ (bytes_of : List (List ℕ) → ℕ → Bool) (set : ℕ → Bool) (ps : List (List ℕ))
    (same : (b : ℕ) → set b ≡ bytes_of (taken_in bytes_of ps) b) (p : List ℕ) where
  one_more : (t : Bool) → nat_le (size (of_set (bytes_of (taken_in bytes_of ps)))) 3 ≡ t
      → taken_in bytes_of (ps ++ p ∷ []) ≡ cond t (taken_in bytes_of ps ++ p ∷ []) (taken_in bytes_of ps)
  one_more t is =
      fold_push (λ taken q. cond (nat_le (size (of_set (bytes_of taken))) 3) (taken ++ q ∷ []) taken) [] ps p
      ∙ ap (λ u. cond u (taken_in bytes_of ps ++ p ∷ []) (taken_in bytes_of ps)) is

  pub taken_more : size (of_set set) ≤ 3 → taken_in bytes_of (ps ++ p ∷ []) ≡ taken_in bytes_of ps ++ p ∷ []
  taken_more few =
      let as_many = size-agree set (bytes_of (taken_in bytes_of ps)) same in
      one_more true (le-leb _ 3 (omega (arith, as_many)))

  pub taken_past : 3 < size (of_set set) → taken_in bytes_of (ps ++ p ∷ []) ≡ taken_in bytes_of ps
  taken_past many =
      let as_many = size-agree set (bytes_of (taken_in bytes_of ps)) same in
      one_more false (lt-leb _ 3 (omega (arith, as_many)))

abbrev is_short : List ℕ → Bool
is_short p = nat_le (length p) 255

-- the patterns before the first long one, one pattern more
short_more : (ps : List (List ℕ)) (p : List ℕ) → take_while is_short (ps ++ p ∷ [])
    ≡ take_while is_short ps ++ cond (are_short ps && is_short p) (p ∷ []) []
short_more [] p = take_while-cons is_short p []
short_more (q ∷ ps) p =
    take_while-cons is_short q (ps ++ p ∷ [])
    ∙ (from (is_short q) (short_more ps p)
    ∙ sym (ap (λ xs. xs ++ cond (are_short (q ∷ ps) && is_short p) (p ∷ []) []) (take_while-cons is_short q ps)))
  where
    from : (t : Bool) → take_while is_short (ps ++ p ∷ [])
        ≡ take_while is_short ps ++ cond (are_short ps && is_short p) (p ∷ []) []
        → cond t (q ∷ take_while is_short (ps ++ p ∷ [])) []
        ≡ cond t (q ∷ take_while is_short ps) [] ++ cond ((t && are_short ps) && is_short p) (p ∷ []) []
    from true more = ap (λ xs. q ∷ xs) more
    from false more = refl

-- whether all patterns were short, as a builder knows it
short_if : (long short : Bool) → long ≡ not short → long ≡ false → short ≡ true
short_if long true is none = refl
short_if long false is none = absurd cc

long_if : (long short : Bool) → long ≡ not short → long ≡ true → short ≡ false
long_if long true is some = absurd cc
long_if long false is some = refl

module _ (c : Bool) (ps : List (List ℕ)) (p : List ℕ) where
  none_more : (are_short ps && is_short p) ≡ false → rare_taken c (ps ++ p ∷ []) ≡ rare_taken c ps
  none_more fails =
      ap (taken_in (is_rare_byte c)) (short_more ps p
      ∙ (ap (λ t. take_while is_short ps ++ cond t (p ∷ []) []) fails ∙ append-nil (take_while is_short ps)))

  -- a long pattern is not taken in
  pub rare_taken-long : 255 < length p → rare_taken c (ps ++ p ∷ []) ≡ rare_taken c ps
  rare_taken-long long = none_more (and_right_false (are_short ps) (is_short p) (lt-leb (length p) 255 long))

  -- and none behind it
  pub rare_taken-behind : (long : Bool) → long ≡ not (are_short ps) → long ≡ true
      → rare_taken c (ps ++ p ∷ []) ≡ rare_taken c ps
  rare_taken-behind long is some = none_more (ap (λ t. t && is_short p) (long_if long (are_short ps) is some))

  module _ (set : ℕ → Bool) (same : (b : ℕ) → set b ≡ is_rare_byte c (rare_taken c ps) b) where
    pub rare_taken-more : (long : Bool) → long ≡ not (are_short ps) → long ≡ false → length p ≤ 255
        → size (of_set set) ≤ 3 → rare_taken c (ps ++ p ∷ []) ≡ rare_taken c ps ++ p ∷ []
    rare_taken-more long is none short few =
        let both : (are_short ps && is_short p) ≡ true =
        ap (λ t. t && is_short p) (short_if long (are_short ps) is none) ∙ le-leb (length p) 255 short in
        ap (taken_in (is_rare_byte c)) (short_more ps p
        ∙ ap (λ t. take_while is_short ps ++ cond t (p ∷ []) []) both)
        ∙ taken_more (is_rare_byte c) set (take_while is_short ps) same p few

    -- and none once there are many bytes
    pub rare_taken-past : 3 < size (of_set set) → rare_taken c (ps ++ p ∷ []) ≡ rare_taken c ps
    rare_taken-past many = ap (taken_in (is_rare_byte c)) (short_more ps p) ∙ from (are_short ps && is_short p)
      where
        from : (t : Bool) → taken_in (is_rare_byte c) (take_while is_short ps ++ cond t (p ∷ []) [])
            ≡ rare_taken c ps
        from true = taken_past (is_rare_byte c) set (take_while is_short ps) same p many
        from false = ap (taken_in (is_rare_byte c)) (append-nil (take_while is_short ps))
