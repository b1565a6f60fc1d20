-- The set of rare bytes, one pattern more.
-- For `add_rarest` and `Running`.
use Rattle.std.proofs.Common.{◌≡◌, ℕ, ◌++◌, ◌||◌, ◌&&◌, not, Bool, true, false, List, [], ◌∷◌}
use Rattle.std.proofs.Common.{refl, ap, ◌∙◌, eq-eqb}
use Rattle.std.specs.List.{list_any}
use Rattle.std.proofs.lemmas.List.Sums.{fold_push}
use Rattle.literal_prefilters.proofs.lemmas.Lists.{list_any_agree}
use Rattle.literal_base.specs.Occurs.{same_byte}
use Rattle.literal_prefilters.specs.Tables.{rarest, with_rarest, is_rare_byte}

-- the same of the same set
pub with_rarest-agree : (c : Bool) (f g : ℕ → Bool) → ((b : ℕ) → f b ≡ g b) → (p : List ℕ) (b : ℕ)
    → with_rarest c f p b ≡ with_rarest c g p b
with_rarest-agree c f g same p b =
    ap (λ t. t || (not (list_any f p) && same_byte c b (rarest p))) (same b)
    ∙ ap (λ t. g b || (not t && same_byte c b (rarest p))) (list_any_agree f g same p)

pub same_byte_refl : (c : Bool) (b : ℕ) → same_byte c b b ≡ true
same_byte_refl true b = eq-eqb _ _ refl
same_byte_refl false b = eq-eqb _ _ refl

-- the set after one pattern more
pub is_rare_byte-push : (c : Bool) (ps : List (List ℕ)) (p : List ℕ) (b : ℕ)
    → is_rare_byte c (ps ++ p ∷ []) b ≡ with_rarest c (is_rare_byte c ps) p b
is_rare_byte-push c ps p b = ap (λ f. f b) (fold_push (with_rarest c) (λ (_ : ℕ). false) ps p)
