use Rattle.std.proofs.Common.{take, get_or, sym, ap, ◌∙◌}
use Rattle.std.proofs.lemmas.List.{take_more, take_all}
use Rattle.literal_base.specs.Bytes.{by_byte}
use Rattle.literal_base.specs.Classes.{class_of, marks_of, with_range_marked}
use Rattle.literal_base.proofs.lemmas.Callers.{marks_of-push}
use Rattle.test_contracts.proofs.lemmas.Shared.{share_by_byte}
use Rattle.test_contracts.proofs.classes.classes_of.Goals as goal

pub loop-start-preserved : goal.loop-start-preserved
loop-start-preserved c =
    let ranges = c.args.ranges.now in
    let i = c.loop-start.start-index in
    let range = get_or ranges i (0, 0) in
    c.set_range.ensures
    ∙ (ap (λ marks. with_range_marked marks range.0 range.1) c.loop-start.invariant
    ∙ (sym (marks_of-push (take i ranges) range.0 range.1)
    ∙ ap marks_of (sym (take_more ranges i (0, 0) c.loop-start-test.true))))

pub returns-clause-classes : goal.returns-clause-classes
returns-clause-classes c =
    c.byte_classes.ensures
    ∙ ap (λ marks. by_byte (class_of marks)) (c.loop-start.invariant
    ∙ ap marks_of (take_all c.loop-start.start-index c.args.ranges.now c.loop-start-test.false))

pub returns-clause-shared : goal.returns-clause-shared
returns-clause-shared c = share_by_byte c.args.ranges.now _ (returns-clause-classes c) c.requires
