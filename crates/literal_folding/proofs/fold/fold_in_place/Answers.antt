-- Without a byte above 127, Unicode's folding is that of ASCII.
use Rattle.std.proofs.Common.{rules, arith, ◌-◌, ◌∙◌, sym}
use Rattle.std.specs.Str.{IsAscii}
use Rattle.literal_folding.proofs.lemmas.Texts.{folded-ascii, loop_goes_on, loop_starts}
use Rattle.literal_folding.proofs.fold.fold_in_place.Goals as goal

pub returns-then-is_ascii : goal.returns-then-is_ascii
returns-then-is_ascii c =
    let are : IsAscii c.args.text.now = search rules in
    c.make_ascii_lowercase.ensures.after ∙ sym (folded-ascii c.args.text.now are)

pub loop-at-init : goal.loop-at-init
loop-at-init c = loop_starts c.args.text.now

pub loop-at-preserved : goal.loop-at-preserved
loop-at-preserved c =
    loop_goes_on c.args.text.now c.loop-at.text c.fold_first.new.bytes c.loop-at.at (c.loop-at.at - 1) (omega arith)
    (omega arith) c.loop-at.invariant c.fold_first.ensures
