use Rattle.std.proofs.Common.{◌∷◌, [], Some, refl, rules}
use Rattle.litfind.proofs.engine.leftmost_line.Goals as goal

pub returns-clause-lines : goal.returns-clause-lines
returns-clause-lines c = record {
  matches = c.in-Some.found ∷ [];
  found = record { found = Some c.in-Some.found; leftmost = c.in-Some.ensures; is_list = refl };
  lines = search rules;
}
