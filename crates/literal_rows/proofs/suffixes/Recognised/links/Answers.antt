use Rattle.std.proofs.Common.{◌≡◌, ◌+◌, ◌-◌, ◌<◌, ◌∙◌, get_or, length, arith, sym, subst}
use Rattle.std.proofs.lemmas.List.{get_or_default}
use Rattle.literal_rows.specs.Inside.Lists.{AreNextEquals, AreOutputLinks, symbols_of}
use Rattle.literal_rows.specs.Inside.Suffixes.{IsOutputLink, IsNextEqual}
use Rattle.literal_rows.proofs.lemmas.Chains.{first_equal_of, heads_on, link_to_equal, link_to_shorter, links_on}
use Rattle.literal_rows.proofs.lemmas.Recognised.{symbols_count, symbols_few}
use Rattle.literal_rows.proofs.suffixes.Recognised.links.Goals as goal
use Rattle.literal_rows.proofs.suffixes.Recognised.links.Goals.{then-equal, else-equal}

pub index-equal-requires : goal.index-equal-requires
index-equal-requires c =
    let r = c.args.self.now in
    let texts = symbols_of r in
    let known = symbols_count r in
    let p = c.loop-pattern.pattern - 1 in
    let below : p < length texts = omega (arith, known) in
    let first = first_equal_of texts c.requires.recognise.some (symbols_few r c.requires.recognise) p
    (get_or c.args.longest.now p 0) below (c.requires.longest.each p (omega arith)) in
    omega (arith, first.below, c.loop-pattern.invariant.heads.long, c.loop-pattern.heads.ok.0)

pub index_mut-requires-in-loop-pattern : goal.index_mut-requires-in-loop-pattern
index_mut-requires-in-loop-pattern c =
    let r = c.args.self.now in
    let texts = symbols_of r in
    let known = symbols_count r in
    let p = c.loop-pattern.pattern - 1 in
    let below : p < length texts = omega (arith, known) in
    let first = first_equal_of texts c.requires.recognise.some (symbols_few r c.requires.recognise) p
    (get_or c.args.longest.now p 0) below (c.requires.longest.each p (omega arith)) in
    omega (arith, first.below, c.loop-pattern.invariant.heads.long, c.loop-pattern.heads.ok.0)

pub loop-pattern-preserved : goal.loop-pattern-preserved
loop-pattern-preserved c =
    let r = c.args.self.now in
    let texts = symbols_of r in
    let some = c.requires.recognise.some in
    let known = symbols_count r in
    let few = symbols_few r c.requires.recognise in
    let p = c.loop-pattern.pattern - 1 in
    let next : c.loop-pattern.pattern ≡ p + 1 = omega arith in
    let below : p < length texts = omega (arith, known) in
    let first = get_or c.args.longest.now p 0 in
    let is = first_equal_of texts some few p first below (c.requires.longest.each p (omega arith)) in
    let heads = c.loop-pattern.heads.items in
    let equal = c.index-equal.result.now in
    let read : equal ≡ get_or heads first 0 = grind (arith, get_or_default) in
    let before = subst (AreNextEquals texts heads) next c.loop-pattern.invariant.heads in
    let after = subst (IsNextEqual texts first (p + 1)) (sym read)
    (before.each first is.below is.first_is) in
    record {
      links = links_on texts some few c.loop-pattern.links.items p c.if-equal.link
          (subst (AreOutputLinks texts c.loop-pattern.links.items) next c.loop-pattern.invariant.links) below
          (elim c.if-equal.branch [
            | then-equal w ↦ link_to_shorter texts some few p first equal below after is.same
                w.if-equal.true c.if-equal.link (w.link-is ∙ w.longest_suffix-link.ensures)
            | else-equal w ↦ subst (IsOutputLink texts p) (sym w.link-is)
                (link_to_equal texts some few p first equal below after is.same
                w.if-equal.false)
          ]);
      heads = heads_on texts some few heads p first before below is;
    }
