use Rattle.std.proofs.Common.{arith, ◌≡◌, ◌∷◌, [], length, List, ℕ, sym, subst}
use Rattle.std.specs.List.{range_with_len}
use Rattle.literal_rows.specs.Inside.Construction.{AreTexts, IsConstruction}
use Rattle.literal_rows.specs.Table.{nothing}
use Rattle.literal_rows.specs.declared.texts.State.{State}
use Rattle.literal_rows.specs.declared.texts.Texts.{Texts}
use Rattle.literal_rows.proofs.lemmas.Construction.{grown_start}
use Rattle.literal_rows.proofs.grow.start.Goals as goal

started : (t : Texts) (s : State) (states : List State) (lists rows : List ℕ) → AreTexts t → s.depth ≡ 0 → s.start ≡ 0
    → s.end ≡ length t.patterns.now → s.ending ≡ nothing → states ≡ s ∷ []
    → lists ≡ range_with_len 0 (length t.patterns.now) → rows ≡ [] → IsConstruction t states lists rows
started t s states lists rows texts depth start end none s_is l_is r_is =
    subst (λ x. IsConstruction t x lists rows) (sym s_is)
    (subst (λ x. IsConstruction t (s ∷ []) x rows) (sym l_is)
    (subst (IsConstruction t (s ∷ []) (range_with_len 0 (length t.patterns.now))) (sym r_is)
    (grown_start t s texts depth start end none)))

pub returns-clause-grows : goal.returns-clause-grows
returns-clause-grows c = grind (arith, started)
