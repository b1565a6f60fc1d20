use Rattle.std.proofs.Common.{◌<◌, ◌≤◌, ◌∙◌, arith, length, ℕ, sym, subst}
use Rattle.literal_rows.proofs.lemmas.Grown.{added_more, found_none, found_yet, mapped_at}
use Rattle.literal_rows.proofs.lemmas.Grown.{longer_kept, longer_long, numbers_more}
use Rattle.literal_rows.proofs.texts.Texts.push_longer.Goals.{else-branch, then-branch}
use Rattle.literal_rows.proofs.texts.Texts.push_longer.Goals as goal

pub push_if_longer-requires-clause-after : goal.push_if_longer-requires-clause-after
push_if_longer-requires-clause-after c = grind (arith, mapped_at)

pub loop-index-preserved : goal.loop-index-preserved
loop-index-preserved c =
    let old = c.args.lists.now.items in
    let so_far = c.loop-index.invariant in
    let x = c.index-pattern.result.now in
    let index = c.loop-index.index in
    let before = c.loop-index-test.true in
    let said = c.in_ok-push_if_longer.ensures in
    let read = c.index-pattern.ensures ∙ so_far.kept index x (omega (arith, before, c.requires.inside)) in
    let long = so_far.long in
    let more : length c.loop-index.lists.items ≤ length c.push_if_longer.new.lists.items = grind (arith, longer_long) in
    let n = length c.args.self.now.patterns.now in
    record {
      lists =
          added_more _ old c.args.here.start c.args.here.end index x before c.requires.inside read
          c.loop-index.lists.items c.push_if_longer.new.lists.items said.lists so_far.lists;
      whole = grind (arith, then-branch, found_yet, else-branch, found_none);
      long = omega (arith, long, more);
      kept = λ k d below. longer_kept _ _ _ said.lists k d (omega (arith, long, below)) ∙ so_far.kept k d below;
      numbers = numbers_more n _ _ _ x
          (subst (λ (m : ℕ). m < n) (sym c.index-pattern.ensures)
          (so_far.numbers index x (omega (arith, long, before, c.requires.inside))))
          said.lists so_far.numbers;
    }
