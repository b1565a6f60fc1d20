use Rattle.literal_packed.proofs.lemmas.LaidOut.{ordered_at, len_is}
use Rattle.literal_packed.proofs.rabinkarp.entries.BucketEntries.len.Goals as goal

pub overflow_sub-result : goal.overflow_sub-result
overflow_sub-result c =
    ordered_at (record { laid = c.self.invariant; seen = c.self.view_is }) c.args.bucket c.requires

pub returns : goal.returns
returns c =
    len_is (record { laid = c.self.invariant; seen = c.self.view_is }) c.args.bucket c.requires
