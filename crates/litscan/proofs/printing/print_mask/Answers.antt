use Rattle.std.proofs.Common.{◌∷◌, [], arith, replicate, subst, sym}
use Rattle.std.proofs.KnownBytes.{Appends-nil, Appends-trans}
use Rattle.std.proofs.lemmas.Grind.{replicate_next}
use Rattle.std.specs.Io.KnownBytes.{Appends}
use Rattle.litscan.proofs.printing.print_mask.Goals as goal

pub loop-init : goal.loop-init
loop-init g c = Appends-nil _

pub loop-preserved : goal.loop-preserved
loop-preserved g c =
    let byte = c.args.byte in
    subst (Appends _ _) (sym (replicate_next c.loop.counter byte))
    (Appends-trans _ _ _ (replicate c.loop.counter byte) (byte ∷ []) c.loop.invariant c.in_ok-write_all.ensures.written)

pub returns-clause-printed : goal.returns-clause-printed
returns-clause-printed g c =
    subst (λ n. Appends (g.W.Write.contents c.args.writer.now.inner) (g.W.Write.contents c.loop.writer.inner)
    (replicate n c.args.byte)) (omega (arith, c.loop.auto.counter-end, c.loop-test.false)) c.loop.invariant
