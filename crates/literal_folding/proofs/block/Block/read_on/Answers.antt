-- What is read and folded at the right places stays as it was.
use Rattle.std.proofs.Common.{◌++◌, ◌∙◌, List, ap, arith, drop, length, subst, take, ℕ}
use Rattle.literal_folding.specs.Folding.{NoneGoesOver, folded}
use Rattle.literal_folding.specs.Inside.Blocks.{held}
use Rattle.literal_folding.proofs.lemmas.Blocks.{at_end, filled, kept, none_over_last}
use Rattle.literal_folding.proofs.block.Block.read_on.Goals as goal

pub returns-then-count-eq0-clause-keeps : goal.returns-then-count-eq0-clause-keeps
returns-then-count-eq0-clause-keeps g c =
    let (piece, read, split, count, end) = c.in_ok-count.ensures.ok in
    let mid = held c.read_more.new.self in
    let all = ap length c.held-all.ensures in
    kept c.args.self.now c.fold.new.self mid piece (length mid) _ _ c.requires.none read split
    (c.fold.ensures.ready ∙ ap (λ n. folded (take n mid)) all) (c.fold.ensures.held ∙ ap (λ n. drop n mid) all)
    (none_over_last mid _ (end c.if-count-eq0.true))

pub returns-then-count-eq0-clause-filled : goal.returns-then-count-eq0-clause-filled
returns-then-count-eq0-clause-filled g c =
    let (piece, read, split, count, end) = c.in_ok-count.ensures.ok in
    let mid = held c.read_more.new.self in
    let all = ap length c.held-all.ensures in
    at_end c.fold.new.self mid _ (end c.if-count-eq0.true) (c.fold.ensures.held ∙ ap (λ n. drop n mid) all)

pub returns-clause-keeps : goal.returns-clause-keeps
returns-clause-keeps g c =
    let (piece, read, split, count, end) = c.in_ok-count.ensures.ok in
    let mid = held c.read_more.new.self in
    let n = c.whole_len-whole.result in
    kept c.args.self.now c.fold-2.new.self mid piece n _ _ c.requires.none read split c.fold-2.ensures.ready
    c.fold-2.ensures.held (λ more is.
    subst (λ (t : List ℕ). NoneGoesOver (take n t) (drop n t ++ more)) c.held.ensures
    (c.whole_len-whole.ensures.alone more))

pub returns-clause-filled : goal.returns-clause-filled
returns-clause-filled g c =
    let (piece, read, split, count, end) = c.in_ok-count.ensures.ok in
    let mid = held c.read_more.new.self in
    filled c.args.self.now c.fold-2.new.self mid piece c.whole_len-whole.result _ split
    (omega (arith, count, c.if-count-eq0.false))
    (omega (arith, c.whole_len-whole.ensures.within, ap length c.held.ensures))
    c.fold-2.ensures.ready c.fold-2.ensures.held
