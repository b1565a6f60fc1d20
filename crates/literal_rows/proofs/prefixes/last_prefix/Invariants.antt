use Rattle.std.proofs.Common.{◌+◌}
use Rattle.std.specs.Option.{option_map, unwrap_or}
use Rattle.literal_rows.specs.Inside.Prefixes.{symbols_in_order}
use Rattle.literal_rows.proofs.lemmas.Prefixes.{IsUpTo}
use Rattle.literal_rows.proofs.prefixes.last_prefix.Given as goal

abbrev pub invariant-loop-last : goal.invariant-loop-last
invariant-loop-last l = IsUpTo (symbols_in_order l.sorted) l.index l.last

abbrev pub decreases-loop-last : goal.decreases-loop-last
decreases-loop-last l = unwrap_or (option_map (λ at. at + 1) l.last) 0
