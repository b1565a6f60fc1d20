use Rattle.std.proofs.Common.{◌<◌, ℕ, List, arith, get_or, length, subst, sym}
use Rattle.literal_base.specs.Occurs.{pattern_at}
use Rattle.literal_rows.specs.Inside.Suffixes.{HasUpTo}
use Rattle.literal_rows.specs.Inside.Lists.{symbols_of}
use Rattle.literal_rows.proofs.lemmas.Chains.{first_equal_of, left_falls, up_to_all, up_to_first, up_to_more}
use Rattle.literal_rows.proofs.lemmas.Recognised.{symbols_count, symbols_few}
use Rattle.literal_rows.proofs.suffixes.Recognised.suffixes_of.Goals as goal

pub loop-next-init : goal.loop-next-init
loop-next-init c = grind (arith, symbols_count, symbols_few, first_equal_of, up_to_first)

pub loop-next-preserved : goal.loop-next-preserved
loop-next-preserved c =
    let texts = symbols_of c.args.self.now in
    let few = symbols_few c.args.self.now c.requires.recognise in
    let below : c.loop-next.next < length texts = grind arith in
    let link = get_or c.args.links.now c.loop-next.next 0 in
    subst (λ (list : List ℕ). HasUpTo texts (pattern_at texts c.args.pattern) list link)
    (sym c.in_ok-push.ensures.items)
    (up_to_more texts c.requires.recognise.some few (pattern_at texts c.args.pattern) c.loop-next.list.items
    c.loop-next.next link c.loop-next.invariant c.loop-next-test.true
    (c.requires.links.each c.loop-next.next (omega arith) below))

pub loop-next-smaller : goal.loop-next-smaller
loop-next-smaller c = grind (arith, symbols_count, symbols_few, left_falls)

pub returns-clause-ends : goal.returns-clause-ends
returns-clause-ends c = grind (arith, symbols_count, symbols_few, up_to_all)
