use Rattle.std.proofs.Common.{◌%◌, sym, ◌∙◌, arith}
use Rattle.std.proofs.lemmas.Bool.{false≢true}
use Rattle.std.proofs.lemmas.Nat.{mod_below}
use Rattle.literal_packed.proofs.lemmas.LookUp.{look_up_in, none_first, counts_first, none_more, counts_more}
use Rattle.literal_packed.proofs.lemmas.LookUp.{best_found, counts_found, none_found, counts_none, ended_with}
use Rattle.literal_packed.proofs.lemmas.LookUp.{few_unless_longer}
use Rattle.literal_packed.proofs.rabinkarp.RabinKarp.look_up.Goals as goal

pub loop-k-init : goal.loop-k-init
loop-k-init c =
    let here = look_up_in c.args.patterns.now c.args.self.now c.args.haystack.now c.args.at c.value-sum.result
    c.requires.made (c.value-sum.ensures ∙ c.requires.sum) in
    record {
      none = none_more here 1 c.in_default.ensures.found c.in_default-try_entry.ensures.found;
      counted = counts_more here 1 c.args.tally.now c.try_entry.new.tally c.try_entry-2.new.tally
          c.try_entry.ensures.exact c.try_entry-2.ensures.exact;
    }

pub loop-k-preserved : goal.loop-k-preserved
loop-k-preserved c =
    let here = look_up_in c.args.patterns.now c.args.self.now c.args.haystack.now c.args.at c.value-sum.result
    c.requires.made (c.value-sum.ensures ∙ c.requires.sum) in
    record {
      none = none_more here c.loop-k.k c.loop-k.invariant.none c.in_default-try_entry-2.ensures.found;
      counted = counts_more here c.loop-k.k c.args.tally.now c.loop-k.tally c.try_entry-in-loop-k.new.tally
          c.loop-k.invariant.counted c.try_entry-in-loop-k.ensures.exact;
    }

pub returns-in-Some-clause-best : goal.returns-in-Some-clause-best
returns-in-Some-clause-best c =
    let here = look_up_in c.args.patterns.now c.args.self.now c.args.haystack.now c.args.at c.value-sum.result
    c.requires.made (c.value-sum.ensures ∙ c.requires.sum) in
    best_found here 0 c.in-Some.id (none_first here) c.in-Some.ensures.found.0 c.in-Some.ensures.found.1

pub returns-in-Some-clause-exact : goal.returns-in-Some-clause-exact
returns-in-Some-clause-exact c =
    let here = look_up_in c.args.patterns.now c.args.self.now c.args.haystack.now c.args.at c.value-sum.result
    c.requires.made (c.value-sum.ensures ∙ c.requires.sum) in
    counts_found here 0 c.in-Some.id c.args.tally.now _ c.try_entry.new.tally c.in-Some.ensures.found.0
    (counts_first here c.args.tally.now) c.try_entry.ensures.exact

pub returns-then-single-clause-best : goal.returns-then-single-clause-best
returns-then-single-clause-best c =
    let here = look_up_in c.args.patterns.now c.args.self.now c.args.haystack.now c.args.at c.value-sum.result
    c.requires.made (c.value-sum.ensures ∙ c.requires.sum) in
    let sum = c.value-sum.result in
    let few = c.requires.single c.if-single.true (sum % 64) (mod_below sum 64 (omega arith)) in
    none_found here 1 few c.in_default.ensures.found

pub returns-then-single-clause-exact : goal.returns-then-single-clause-exact
returns-then-single-clause-exact c =
    let here = look_up_in c.args.patterns.now c.args.self.now c.args.haystack.now c.args.at c.value-sum.result
    c.requires.made (c.value-sum.ensures ∙ c.requires.sum) in
    let sum = c.value-sum.result in
    let few = c.requires.single c.if-single.true (sum % 64) (mod_below sum 64 (omega arith)) in
    counts_none here 1 c.args.tally.now c.try_entry.new.tally few c.try_entry.ensures.exact

pub returns-in-Some-try_entry-clause-best : goal.returns-in-Some-try_entry-clause-best
returns-in-Some-try_entry-clause-best c =
    let here = look_up_in c.args.patterns.now c.args.self.now c.args.haystack.now c.args.at c.value-sum.result
    c.requires.made (c.value-sum.ensures ∙ c.requires.sum) in
    best_found here 1 c.in-Some-try_entry.id c.in_default.ensures.found
    c.in-Some-try_entry.ensures.found.0 c.in-Some-try_entry.ensures.found.1

pub returns-in-Some-try_entry-clause-exact : goal.returns-in-Some-try_entry-clause-exact
returns-in-Some-try_entry-clause-exact c =
    let here = look_up_in c.args.patterns.now c.args.self.now c.args.haystack.now c.args.at c.value-sum.result
    c.requires.made (c.value-sum.ensures ∙ c.requires.sum) in
    counts_found here 1 c.in-Some-try_entry.id c.args.tally.now _ c.try_entry-2.new.tally
    c.in-Some-try_entry.ensures.found.0 c.try_entry.ensures.exact c.try_entry-2.ensures.exact

pub returns-in-Some-try_entry-2-clause-best : goal.returns-in-Some-try_entry-2-clause-best
returns-in-Some-try_entry-2-clause-best c =
    let here = look_up_in c.args.patterns.now c.args.self.now c.args.haystack.now c.args.at c.value-sum.result
    c.requires.made (c.value-sum.ensures ∙ c.requires.sum) in
    best_found here c.loop-k.k c.in-Some-try_entry-2.id c.loop-k.invariant.none
    c.in-Some-try_entry-2.ensures.found.0 c.in-Some-try_entry-2.ensures.found.1

pub returns-in-Some-try_entry-2-clause-exact : goal.returns-in-Some-try_entry-2-clause-exact
returns-in-Some-try_entry-2-clause-exact c =
    let here = look_up_in c.args.patterns.now c.args.self.now c.args.haystack.now c.args.at c.value-sum.result
    c.requires.made (c.value-sum.ensures ∙ c.requires.sum) in
    counts_found here c.loop-k.k c.in-Some-try_entry-2.id c.args.tally.now _ c.try_entry-in-loop-k.new.tally
    c.in-Some-try_entry-2.ensures.found.0 c.loop-k.invariant.counted c.try_entry-in-loop-k.ensures.exact

pub returns-then-not-is_longer-clause-best : goal.returns-then-not-is_longer-clause-best
returns-then-not-is_longer-clause-best c =
    let here = look_up_in c.args.patterns.now c.args.self.now c.args.haystack.now c.args.at c.value-sum.result
    c.requires.made (c.value-sum.ensures ∙ c.requires.sum) in
    let few = ended_with (c.value-sum.result % 64) c.self.inside.entries c.args.self.now c.self.view_is
    (few_unless_longer _ (λ more. false≢true (sym c.if-not-is_longer.true ∙ c.is_longer.ensures.1 more))) in
    none_found here 2 few (none_more here 1 c.in_default.ensures.found c.in_default-try_entry.ensures.found)

pub returns-then-not-is_longer-clause-exact : goal.returns-then-not-is_longer-clause-exact
returns-then-not-is_longer-clause-exact c =
    let here = look_up_in c.args.patterns.now c.args.self.now c.args.haystack.now c.args.at c.value-sum.result
    c.requires.made (c.value-sum.ensures ∙ c.requires.sum) in
    let few = ended_with (c.value-sum.result % 64) c.self.inside.entries c.args.self.now c.self.view_is
    (few_unless_longer _ (λ more. false≢true (sym c.if-not-is_longer.true ∙ c.is_longer.ensures.1 more))) in
    counts_none here 2 c.args.tally.now c.try_entry-2.new.tally few
    (counts_more here 1 c.args.tally.now c.try_entry.new.tally c.try_entry-2.new.tally c.try_entry.ensures.exact
    c.try_entry-2.ensures.exact)

pub returns-clause-best : goal.returns-clause-best
returns-clause-best c =
    let here = look_up_in c.args.patterns.now c.args.self.now c.args.haystack.now c.args.at c.value-sum.result
    c.requires.made (c.value-sum.ensures ∙ c.requires.sum) in
    none_found here c.loop-k.k
    (ended_with (c.value-sum.result % 64) c.self.inside.entries c.args.self.now c.self.view_is
    (omega (arith, c.len-k-end.ensures))) c.loop-k.invariant.none

pub returns-clause-exact : goal.returns-clause-exact
returns-clause-exact c =
    let here = look_up_in c.args.patterns.now c.args.self.now c.args.haystack.now c.args.at c.value-sum.result
    c.requires.made (c.value-sum.ensures ∙ c.requires.sum) in
    counts_none here c.loop-k.k c.args.tally.now c.loop-k.tally
    (ended_with (c.value-sum.result % 64) c.self.inside.entries c.args.self.now c.self.view_is
    (omega (arith, c.len-k-end.ensures))) c.loop-k.invariant.counted
