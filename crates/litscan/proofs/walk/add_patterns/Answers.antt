use Rattle.std.proofs.Common.{◌∙◌, ◌++◌, ap, append_assoc}
use Rattle.std.proofs.lemmas.List.Elements.{All-append}
use Rattle.litscan.specs.Walk.{Excludes}
use Rattle.litscan.proofs.walk.add_patterns.Goals as goal

pub loop-line-preserved : goal.loop-line-preserved
loop-line-preserved c =
    let so_far = c.loop-line.invariant in
    let more = c.in_ok-add_pattern.ensures.added in
    record {
      part = so_far.part ++ more.0;
      exclude = All-append Excludes so_far.part more.0 so_far.exclude more.1;
      added = more.2 ∙ ap (λ all. all ++ more.0) so_far.added ∙ append_assoc _ so_far.part more.0;
    }
