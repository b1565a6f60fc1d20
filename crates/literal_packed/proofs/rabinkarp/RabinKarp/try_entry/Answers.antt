use Rattle.std.proofs.Common.{Some, sym, ap, ◌∙◌}
use Rattle.std.proofs.lemmas.Bool.{false≢true}
use Rattle.literal_packed.proofs.lemmas.LookUp.{asked_in, look_up_in, read_equal, entry_of_pattern}
use Rattle.literal_packed.proofs.lemmas.LookUp.{none_equal, none_other, counts_equal, counts_other}
use Rattle.literal_packed.proofs.rabinkarp.RabinKarp.try_entry.Goals as goal
use Rattle.literal_packed.proofs.rabinkarp.RabinKarp.try_entry.Goals.{
  else-entry_sum-sum-via-then-entry_sum-sum+else-stands_at,
}
use Rattle.literal_packed.proofs.rabinkarp.RabinKarp.try_entry.Goals.{else-entry_sum-sum-via-else-entry_sum-sum}

pub stands_at-requires-clause-is_pattern : goal.stands_at-requires-clause-is_pattern
stands_at-requires-clause-is_pattern c =
    let here = look_up_in c.args.patterns.now c.args.self.now c.args.haystack.now c.args.at c.args.sum c.requires.made
    c.requires.sum in
    let asked = asked_in c.self.inside.entries c.args.self.now c.self.view_is (record {
      entry = c.entry-entry_sum.ensures.entry;
      none = c.entry-entry_sum.ensures.none;
      counted = c.entry-entry_sum.ensures.exact;
    }) in
    (entry_of_pattern here c.args.k c.entry-entry_sum.result
    (read_equal here c.args.k c.entry-entry_sum.result _ _ asked c.if-entry_sum-sum.true)).1

pub returns-then-stands_at-clause-found : goal.returns-then-stands_at-clause-found
returns-then-stands_at-clause-found c =
    let here = look_up_in c.args.patterns.now c.args.self.now c.args.haystack.now c.args.at c.args.sum c.requires.made
    c.requires.sum in
    let x = c.entry-entry_sum.result in
    let asked = asked_in c.self.inside.entries c.args.self.now c.self.view_is (record {
      entry = c.entry-entry_sum.ensures.entry;
      none = c.entry-entry_sum.ensures.none;
      counted = c.entry-entry_sum.ensures.exact;
    }) in (
      read_equal here c.args.k x _ _ asked c.if-entry_sum-sum.true
          ∙ ap (λ n. Some (n, x.1)) c.if-entry_sum-sum.true,
      c.stands_at.ensures.stands.0 c.if-stands_at.true,
    )

pub returns-then-stands_at-clause-exact : goal.returns-then-stands_at-clause-exact
returns-then-stands_at-clause-exact c =
    let here = look_up_in c.args.patterns.now c.args.self.now c.args.haystack.now c.args.at c.args.sum c.requires.made
    c.requires.sum in
    let asked = asked_in c.self.inside.entries c.args.self.now c.self.view_is (record {
      entry = c.entry-entry_sum.ensures.entry;
      none = c.entry-entry_sum.ensures.none;
      counted = c.entry-entry_sum.ensures.exact;
    }) in
    counts_equal here c.args.k c.entry-entry_sum.result c.args.tally.now c.entry-entry_sum.new.tally _ asked
    c.if-entry_sum-sum.true c.stands_at.ensures.exact

pub returns-else-entry_sum-sum-clause-found : goal.returns-else-entry_sum-sum-clause-found
returns-else-entry_sum-sum-clause-found c =
    let here = look_up_in c.args.patterns.now c.args.self.now c.args.haystack.now c.args.at c.args.sum c.requires.made
    c.requires.sum in
    let x = c.entry-entry_sum.result in
    let asked = asked_in c.self.inside.entries c.args.self.now c.self.view_is (record {
      entry = c.entry-entry_sum.ensures.entry;
      none = c.entry-entry_sum.ensures.none;
      counted = c.entry-entry_sum.ensures.exact;
    }) in
    elim c.else-entry_sum-sum.branch [
      | else-entry_sum-sum-via-then-entry_sum-sum+else-stands_at w ↦
          none_equal here c.args.k x (read_equal here c.args.k x _ _ asked w.if-entry_sum-sum.true)
          (λ stands. false≢true (sym w.if-stands_at.false ∙ w.stands_at.ensures.stands.1 stands))
      | else-entry_sum-sum-via-else-entry_sum-sum w ↦
          none_other here c.args.k x _ _ asked w.if-entry_sum-sum.false
    ]

pub returns-else-entry_sum-sum-clause-exact : goal.returns-else-entry_sum-sum-clause-exact
returns-else-entry_sum-sum-clause-exact c =
    let here = look_up_in c.args.patterns.now c.args.self.now c.args.haystack.now c.args.at c.args.sum c.requires.made
    c.requires.sum in
    let x = c.entry-entry_sum.result in
    let asked = asked_in c.self.inside.entries c.args.self.now c.self.view_is (record {
      entry = c.entry-entry_sum.ensures.entry;
      none = c.entry-entry_sum.ensures.none;
      counted = c.entry-entry_sum.ensures.exact;
    }) in
    elim c.else-entry_sum-sum.branch [
      | else-entry_sum-sum-via-then-entry_sum-sum+else-stands_at w ↦
          w.tally-is ∙ counts_equal here c.args.k x c.args.tally.now c.entry-entry_sum.new.tally _ asked
          w.if-entry_sum-sum.true w.stands_at.ensures.exact
      | else-entry_sum-sum-via-else-entry_sum-sum w ↦
          w.tally-is ∙ counts_other here c.args.k x c.args.tally.now _ asked w.if-entry_sum-sum.false
    ]
