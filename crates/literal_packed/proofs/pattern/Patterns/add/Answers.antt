use Rattle.std.proofs.Common.{◌+◌, ◌<◌, length, refl, sym, subst, arith}
use Rattle.std.proofs.lemmas.Grind.{common_steps}
use Rattle.literal_packed.specs.declared.pattern.Patterns.TheInside.{Inside}
use Rattle.literal_packed.specs.PatternsValue.{PatternsValue}
use Rattle.literal_packed.proofs.lemmas.Order.{IsConsistent-add, IsInOrder-add}
use Rattle.literal_packed.proofs.pattern.Patterns.add.Goals as goal

pub invariant_of-self-2 : goal.invariant_of-self-2
invariant_of-self-2 c =
    let room = subst (λ (p : PatternsValue). length p.patterns < 2147483647) (sym c.self.view_is) c.requires.room in
    IsConsistent-add c.self.inside _ c.args.bytes.now c.self.invariant c.requires.some room
    (grind (arith, common_steps)) c.min-self-inside.ensures refl (omega arith)

pub returns-clause-in_order : goal.returns-clause-in_order
returns-clause-in_order c =
    let after : Inside = record {
      kind = c.self.inside.kind;
      by_id = c.push.new.self;
      order = c.push-2.new.self;
      minimum_len = c.min-self-inside.result;
      total_pattern_bytes = c.self.inside.total_pattern_bytes + length c.args.bytes.now;
    } in
    IsInOrder-add c.self.inside after _ c.args.bytes.now c.self.invariant c.self.view_is (grind (arith, common_steps))
