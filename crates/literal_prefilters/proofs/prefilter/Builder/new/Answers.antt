use Rattle.std.proofs.Common.{false, rules}
use Rattle.literal_prefilters.proofs.prefilter.Builder.new.Goals as goal

pub invariant_of-result : goal.invariant_of-result
invariant_of-result c = record {
  emptied = search rules;
  allowed = search rules;
  first = search rules;
  in_order = search rules;
  running = rw c.new.ensures (c.new-2.ensures false);
}
