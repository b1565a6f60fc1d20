use Rattle.std.proofs.Common.{eqb-true, eq-eqb}
use Rattle.literal_packed.proofs.lemmas.LaidOut.{IsLaidOutAs, set_where_longer, longer_where_set}
use Rattle.literal_packed.proofs.rabinkarp.entries.BucketEntries.is_longer.Goals as goal

pub returns : goal.returns
returns c =
    let is : IsLaidOutAs _ _ _ _ _ _ _ = record { laid = c.self.invariant; seen = c.self.view_is } in (
      λ set. longer_where_set is c.args.bucket c.requires (eqb-true _ _ set),
      λ more. eq-eqb _ _ (set_where_longer is c.args.bucket c.requires more),
    )
