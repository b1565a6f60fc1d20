use Rattle.std.proofs.Common.{◌≡◌, ◌∷◌, ◌+◌, sym, ◌∙◌, ap, length, arith}
use Rattle.literal_base.specs.Inside.Classes.{bytes_from}
use Rattle.literal_base.proofs.lemmas.ClassIterations.{bytes_from-taken, bytes_from-passed}
use Rattle.literal_base.proofs.alphabet.ByteClassElementsIterator.next.Goals as goal

pub returns-then-get-self-clause-steps : goal.returns-then-get-self-clause-steps
returns-then-get-self-clause-steps c =
    let e = c.loop-self.self-inside in
    sym c.self.view_is ∙ (sym c.loop-self.invariant.same
    ∙ bytes_from-taken e.classes.now e.class e.byte (omega arith) (cc))

pub returns-then-get-self-clause-goes : goal.returns-then-get-self-clause-goes
returns-then-get-self-clause-goes c =
    let e = c.loop-self.self-inside in
    let shorter : c.args.self.now ≡ e.byte ∷ bytes_from e.classes.now e.class (e.byte + 1) =
    returns-then-get-self-clause-steps c in
    grind (arith, ap length shorter)

pub loop-self-preserved : goal.loop-self-preserved
loop-self-preserved c =
    let e = c.loop-self.self-inside in
    let old = c.loop-self.invariant in
    record {
      whole = old.whole;
      within = omega arith;
      same = sym (bytes_from-passed e.classes.now e.class e.byte (omega arith)
          (λ h. c.if-get-self.false (c.get.ensures ∙ h))) ∙ old.same;
    }
