use Rattle.std.proofs.Common.{◌<◌, ap, length, arith, rules}
use Rattle.literal_packed.proofs.lemmas.Order.{order_len}
use Rattle.literal_packed.proofs.pattern.Patterns.try_clone.Goals as goal

pub returns-in_err-copy_of_order-clause-no_memory : goal.returns-in_err-copy_of_order-clause-no_memory
returns-in_err-copy_of_order-clause-no_memory c =
    let some : 0 < length c.args.self.now.patterns =
    omega (
      arith,
      order_len c.self.inside _ c.self.view_is c.self.invariant,
      c.in_err-copy_of_order.ensures.no_memory,
      ap length c.as_slice-2.ensures.value,
    ) in
    search rules
