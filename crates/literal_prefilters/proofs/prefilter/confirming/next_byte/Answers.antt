use Rattle.std.proofs.Common.{sym}
use Rattle.literal_prefilters.proofs.lemmas.Callers.{first_is}
use Rattle.literal_prefilters.proofs.lemmas.KeptByte.{kept_first}
use Rattle.literal_prefilters.proofs.prefilter.confirming.next_byte.Goals as goal

pub returns-in-Some-clause-place : goal.returns-in-Some-clause-place
returns-in-Some-clause-place c =
    let t = c.args.table.now in
    let h = c.args.haystack.now in
    let found = c.in-Some.found in
    sym (first_is t h c.args.rest c.requires.valid found.place
    (kept_first t h c.args.start c.args.rest c.args.kept found c.requires.kept c.in-Some.is c.if-rest-found.true))
