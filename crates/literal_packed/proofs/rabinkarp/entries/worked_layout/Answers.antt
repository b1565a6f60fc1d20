use Rattle.std.proofs.Common.{refl, ◌∙◌}
use Rattle.literal_packed.proofs.lemmas.Layout.{list_is, starts_are}
use Rattle.literal_packed.proofs.rabinkarp.entries.worked_layout.Goals as goal

pub returns : goal.returns
returns c = λ starts entries are of. (list_is _ starts entries are of ∙ refl, starts_are _ starts entries are of ∙ refl)
