use Rattle.std.proofs.Common.{rules}
use Rattle.literal_packed.proofs.lemmas.Callers.{adds_all}
use Rattle.literal_base.proofs.lemmas.Callers.{slice_gives}
use Rattle.test_contracts.proofs.given.add_all.Goals as goal

pub returns : goal.returns
returns c = let e = adds_all (slice_gives c.args.words.now (cc)) _ _ c.in_ok-extend.ensures.ok in search (rules, e)
