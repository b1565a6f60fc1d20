use Rattle.literal_leftmost.specs.Inside.Backward.{offset_by}
use Rattle.literal_leftmost.proofs.lemmas.Cursor.{far_looks, far_rest, far_scans, ok_both, ok_on, short_looks}
use Rattle.literal_leftmost.proofs.lemmas.Cursor.{short_rest}
use Rattle.literal_leftmost.proofs.backward.Backward.next_by.Goals as goal

pub returns-in-Block-clause-placed : goal.returns-in-Block-clause-placed
returns-in-Block-clause-placed c = λ on.
    let before = rw c.in-Block.is at c.requires.placed in
    ok_on _ _ c.next_match.result (λ answer placed. record { placed = placed; room = before.room })
    (c.next_match.ensures.placed on)

pub returns-in-Block-clause-looks : goal.returns-in-Block-clause-looks
returns-in-Block-clause-looks c = λ on.
    let before = rw c.in-Block.is at c.requires.placed in
    rw c.in-Block.is (ok_on _ _ c.next_match.result (λ answer placed. short_looks
    c.args.self.now.table.longest c.args.span c.args.at (offset_by on c.args.span answer) c.args.marks.now
    c.next_match.new.marks before.placed placed
    c.next_match.ensures.further.0) (c.next_match.ensures.placed on))

pub returns-in-Block-clause-rest : goal.returns-in-Block-clause-rest
returns-in-Block-clause-rest c =
    let before = rw c.in-Block.is at c.requires.placed in
    let told = c.next_match.ensures in
    rw c.in-Block.is (short_rest c.args.self.now.table.longest c.args.span c.args.at c.args.marks.now
    c.next_match.new.marks.known c.args.tally.now c.next_match.new.tally before.placed told.further.0
    told.further.1
    told.bounded)

pub returns-in-Trailed-clause-looks : goal.returns-in-Trailed-clause-looks
returns-in-Trailed-clause-looks c = λ on.
    let before = rw c.in-Trailed.is at c.requires.placed in
    let told = c.next_far.ensures in
    rw c.in-Trailed.is (ok_on _ _ c.next_far.result (λ answer both. far_looks c.args.self.now.table.longest c.args.span
    c.args.at (offset_by on c.args.span answer) c.in-Trailed.trail c.next_far.new.trail c.args.marks.now
    c.next_far.new.marks before both.0 both.1.0 both.1.1) (ok_both _ _ c.next_far.result (told.far on) told.further))

pub returns-in-Trailed-clause-scans : goal.returns-in-Trailed-clause-scans
returns-in-Trailed-clause-scans c =
    let before = rw c.in-Trailed.is at c.requires.placed in
    let told = c.next_far.ensures in
    rw c.in-Trailed.is (ok_on _ _ c.next_far.result (λ answer all. far_scans c.args.self.now.table.longest c.args.span
    c.args.at c.in-Trailed.trail c.next_far.new.trail c.args.marks.now c.next_far.new.marks c.args.tally.now
    c.next_far.new.tally before all.0.0 all.0.1 told.others all.1.0 all.1.1)
    (ok_both _ _ c.next_far.result told.further (ok_both _ _ c.next_far.result told.most told.least)))

pub returns-in-Trailed-clause-rest : goal.returns-in-Trailed-clause-rest
returns-in-Trailed-clause-rest c =
    let before = rw c.in-Trailed.is at c.requires.placed in
    let told = c.next_far.ensures in
    rw c.in-Trailed.is (far_rest c.args.self.now.table.longest c.args.span c.args.at c.in-Trailed.trail
    c.args.marks.now c.args.tally.now c.next_far.new.tally before c.requires.valid.ordered told.others told.all)
