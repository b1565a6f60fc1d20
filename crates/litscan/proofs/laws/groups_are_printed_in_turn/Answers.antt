use Rattle.std.proofs.Common.{◌≡◌, ◌+◌, ◌++◌, ◌||◌, arith, length, slice_index_or, subst, take, true}
use Rattle.std.specs.List.{flat_map, list_any}
use Rattle.litscan.specs.Context.{is_printed, left_out, printed_between}
use Rattle.litscan.specs.Lines.{with_end}
use Rattle.litscan.proofs.lemmas.Groups.{groups_at_front, groups_in_turn}
use Rattle.litscan.proofs.laws.groups_are_printed_in_turn.Goals as goal

pub returns : goal.returns
returns c = λ by options any front more marks separator name line out printed.
    let at = length front in
    let found = groups_in_turn by options separator name any true 1 0 (at + 1)
    (length (flat_map (with_end options.line_end) front)) front
    more marks line out (omega arith) (omega arith) printed in (
      found.0,
      found.1,
      found.2,
      subst (λ apart. out ≡ found.0 ++ (printed_between options separator
          (any || list_any is_printed (take at marks)) apart (slice_index_or marks at left_out)
          ++ (found.1 ++ found.2))) (groups_at_front marks at found.3) found.4,
      found.5,
    )
