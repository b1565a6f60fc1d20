use Rattle.std.proofs.Common.{◌<◌, ap, length, refl, arith, rules}
use Rattle.literal_packed.proofs.lemmas.Order.{order_len, order_once, IsConsistent-reorder}
use Rattle.literal_packed.proofs.pattern.Patterns.set_match_kind.Goals as goal

pub put_in_order-requires : goal.put_in_order-requires
put_in_order-requires c = order_once c.self.inside _ c.self.invariant (ap length c.as_slice.ensures.value)

pub invariant_of-self-2 : goal.invariant_of-self-2
invariant_of-self-2 c =
    IsConsistent-reorder c.self.inside _ c.self.invariant refl refl refl c.in_ok-put_in_order.ensures.permutation

pub returns-in_err-put_in_order-clause-no_memory : goal.returns-in_err-put_in_order-clause-no_memory
returns-in_err-put_in_order-clause-no_memory c =
    let many : 20 < length c.args.self.now.patterns =
    omega (arith, order_len c.self.inside _ c.self.view_is c.self.invariant, c.in_err-put_in_order.ensures.no_memory) in
    search rules
