use Rattle.std.proofs.Common.{◌≡◌, [], ◌++◌, ◌∷◌, arith, rules}
use Rattle.std.proofs.lemmas.Grind.{common_steps}
use Rattle.literal_prefilters.proofs.prefilter.Builder.add.Goals as goal

pub invariant_of-self : goal.invariant_of-self
invariant_of-self c =
    let none : c.reset.new.self.patterns ≡ [] = search rules in
    record {
      emptied = search rules;
      allowed = search rules;
      first = search rules;
      in_order = search rules;
      running = rw none (c.new-self-inside.ensures c.self.inside.ascii_case_insensitive);
    }

pub invariant_of-self-2 : goal.invariant_of-self-2
invariant_of-self-2 c =
    let ps = c.self.inside.patterns.patterns in
    let more : c.add.new.self.patterns ≡ ps ++ c.args.bytes.now ∷ [] = search rules in
    record {
      emptied = search rules;
      allowed = grind (arith, common_steps);
      first = search rules;
      in_order = search rules;
      running = rw more (c.push.ensures ps c.self.invariant.running);
    }
