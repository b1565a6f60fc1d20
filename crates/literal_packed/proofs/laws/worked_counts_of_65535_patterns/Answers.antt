use Rattle.std.proofs.Common.{◌+◌, ◌-◌, ap}
use Rattle.literal_packed.proofs.lemmas.MostPatterns.{compared_one, minimum_is}
use Rattle.literal_packed.proofs.laws.worked_counts_of_65535_patterns.Goals as goal

pub returns : goal.returns
returns c =
    λ patterns many each. (
      ap (λ m. 0 + (0 + m - 0)) (minimum_is patterns many each),
      ap (λ n. 0 + n) (compared_one patterns many each),
    )
