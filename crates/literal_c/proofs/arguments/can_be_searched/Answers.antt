use Rattle.std.proofs.Common.{◌<◌, length, sym, ◌∙◌, subst, arith}
use Rattle.std.proofs.lemmas.Bool.{eqb-false}
use Rattle.std.proofs.lemmas.List.Elements.{All-nil}
use Rattle.std.proofs.lemmas.Bool.{leb-true, le-leb}
use Rattle.literal_base.specs.Occurs.{NoneIsEmpty}
use Rattle.literal_c.specs.Pieces.{pieces}
use Rattle.literal_c.proofs.lemmas.Pieces.{pieces_are_as_many, more_not_empty}
use Rattle.literal_c.proofs.arguments.can_be_searched.Goals as goal

pub loop-pattern-preserved : goal.loop-pattern-preserved
loop-pattern-preserved c =
    let none = eqb-false _ _ (sym c.is_empty.ensures ∙ c.if-is_empty.false) in
    let some : 0 < length c.in-Some.pattern.now = omega (arith, none) in
    let step = more_not_empty c.loop-pattern.pattern-iterator c.in-Some.pattern.now c.next.new.self
    c.in-Some.ensures.steps some in (
      λ all. step.0 (c.loop-pattern.invariant.0 all),
      λ all. c.loop-pattern.invariant.1 (step.1 all),
    )

pub returns : goal.returns
returns c =
    let all : NoneIsEmpty (pieces c.args.patterns.now 0 c.args.ends.now) = c.loop-pattern.invariant.1
    (subst NoneIsEmpty (sym c.in-None.ensures.steps.0) (All-nil (λ bytes. 0 < length bytes))) in
    let count = pieces_are_as_many c.args.patterns.now 0 c.args.ends.now in (
      λ few. let within = leb-true _ _ few in record { some = all; few = omega arith },
      λ can. le-leb _ _ (omega (arith, can.few)),
    )
