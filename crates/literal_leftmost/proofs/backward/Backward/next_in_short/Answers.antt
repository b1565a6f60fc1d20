use Rattle.std.proofs.Common.{ℕ, rules, sym, subst}
use Rattle.literal_leftmost.specs.Inside.Backward.{AreMarked, back_tables_by}
use Rattle.literal_leftmost.specs.Inside.Cursor.{HasRoom, looked_short}
use Rattle.literal_leftmost.specs.LookUps.{LooksOn}
use Rattle.literal_leftmost.specs.declared.backward.Continuation.TheVariants.{AtEnd}
use Rattle.literal_leftmost.specs.declared.backward.TheConstants.{LEAST}
use Rattle.literal_leftmost.proofs.lemmas.Cursor.{short_looks, short_rest}
use Rattle.literal_leftmost.proofs.backward.Backward.next_in_short.Goals as goal

pub returns-in_err-answer-clause-rest : goal.returns-in_err-answer-clause-rest
returns-in_err-answer-clause-rest c =
    let told = c.next_match.ensures in
    short_rest c.args.self.now.table.longest c.args.span c.args.cursor.now.at c.args.cursor.now.marks
    c.next_match.new.marks.known c.args.tally.now c.next_match.new.tally c.requires.cursor.placed told.further.0
    told.further.1 told.bounded

pub returns-clause-steps : goal.returns-clause-steps
returns-clause-steps c =
    let longest = c.args.self.now.table.longest in
    record {
      leftmost = search rules;
      knows = λ search is knows.
          subst (λ (at : ℕ). AreMarked (back_tables_by search c.args.self.now) c.args.haystack.now c.args.span at
          c.next_match.new.numbers c.next_match.new.marks) (sym c.offset_after.ensures)
          (c.in_ok-answer.ensures.marked search is knows AtEnd);
      lies = search rules;
      at = search rules;
      cursor = subst (λ (at : ℕ). HasRoom longest c.args.span at c.next_match.new.marks LEAST)
          (sym c.offset_after.ensures)
          (record { placed = c.in_ok-answer.ensures.placed AtEnd; room = c.requires.cursor.room });
      looks = subst (λ (at : ℕ). LooksOn longest c.args.span at
          (looked_short longest c.args.span c.args.cursor.now.marks)
          (looked_short longest c.args.span c.next_match.new.marks)) (sym c.offset_after.ensures)
          (short_looks longest c.args.span c.args.cursor.now.at _ c.args.cursor.now.marks c.next_match.new.marks
          c.requires.cursor.placed (c.in_ok-answer.ensures.placed AtEnd) c.next_match.ensures.further.0);
      scans = search rules;
      ended = search rules;
    }

pub returns-clause-rest : goal.returns-clause-rest
returns-clause-rest c =
    let told = c.next_match.ensures in
    short_rest c.args.self.now.table.longest c.args.span c.args.cursor.now.at c.args.cursor.now.marks
    c.next_match.new.marks.known c.args.tally.now c.next_match.new.tally c.requires.cursor.placed told.further.0
    told.further.1 told.bounded
