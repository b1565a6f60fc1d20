use Rattle.std.proofs.Common.{◌^◌}
use Rattle.std.proofs.lemmas.Bool.{leb-false}
use Rattle.literal_leftmost.proofs.lemmas.Unmarked.{none_together}
use Rattle.literal_leftmost.proofs.unmarked.has_begun.Goals as goal

pub returns : goal.returns
returns c = λ none. none_together c.args.numbers.now c.args.at c.requires (leb-false (2 ^ 31) _ none)
