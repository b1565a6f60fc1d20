use Rattle.std.proofs.Common.{◌≡◌, [], rules}
use Rattle.literal_prefilters.proofs.prefilter.Builder.ascii_case_insensitive.Goals as goal

pub invariant_of-result : goal.invariant_of-result
invariant_of-result c =
    let old = c.self.invariant in
    let none : c.self.inside.patterns.patterns ≡ [] = search rules in
    record {
      emptied = old.emptied;
      allowed = old.allowed;
      first = old.first;
      in_order = old.in_order;
      running = rw none (c.new.ensures c.args.yes);
    }
