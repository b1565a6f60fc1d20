use Rattle.literal_fingerprints.proofs.lemmas.ByteCounts.{counted_in, few_in}
use Rattle.literal_fingerprints.proofs.one_byte.count_in_wide.Goals as goal

pub returns-clause-few : goal.returns-clause-few
returns-clause-few c =
    few_in c.args.haystack.now c.args.at c.args.byte c.load_wide-here.result c.requires c.load_wide-here.ensures.lanes

pub returns-clause-counted : goal.returns-clause-counted
returns-clause-counted c =
    counted_in c.args.haystack.now c.args.at c.args.byte c.load_wide-here.result c.requires
    c.load_wide-here.ensures.lanes
