use Rattle.std.proofs.Common.{ℕ, rules, sym, subst}
use Rattle.literal_leftmost.specs.Inside.Backward.{back_tables_by}
use Rattle.literal_leftmost.specs.Inside.Cursor.{AreKnown, IsIn}
use Rattle.literal_leftmost.proofs.backward.Backward.next_in.Goals as goal

pub returns-clause-steps : goal.returns-clause-steps
returns-clause-steps c = record {
  leftmost = search rules;
  knows = λ search is knows.
      subst (λ (at : ℕ). AreKnown (back_tables_by search c.args.self.now) c.args.haystack.now c.args.span at
      c.next_by.new.marks c.next_by.new.room) (sym c.offset_after.ensures)
      (c.in_ok-answer.ensures.knows search is knows c.args.on);
  lies = search rules;
  at = search rules;
  cursor = subst (λ (at : ℕ). IsIn c.args.self.now.table.longest c.args.span at c.next_by.new.marks
      c.next_by.new.room) (sym c.offset_after.ensures) (c.in_ok-answer.ensures.placed c.args.on);
  looks = search rules;
  scans = search rules;
  ended = search rules;
}
