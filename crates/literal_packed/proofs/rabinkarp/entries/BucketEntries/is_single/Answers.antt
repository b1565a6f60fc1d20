use Rattle.literal_packed.proofs.lemmas.LaidOut.{few_exactly_if_single}
use Rattle.literal_packed.proofs.rabinkarp.entries.BucketEntries.is_single.Goals as goal

pub returns : goal.returns
returns c = few_exactly_if_single (record { laid = c.self.invariant; seen = c.self.view_is })
