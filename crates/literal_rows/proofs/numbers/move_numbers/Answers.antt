use Rattle.std.proofs.Common.{◌≤◌, ◌∙◌, arith, length}
use Rattle.std.proofs.lemmas.List.{take_rest}
use Rattle.literal_rows.proofs.lemmas.Numbers.{moved_on}
use Rattle.literal_rows.proofs.numbers.move_numbers.Goals as goal

pub loop-rest-preserved : goal.loop-rest-preserved
loop-rest-preserved c =
    let rest = c.loop-rest.rest.items in
    let said = c.loop-rest.invariant in
    let inside : c.saturating_sub-from.result ≤ length rest = grind arith in
    record {
      fits = grind arith;
      same = moved_on c.loop-rest.array c.put_numbers.new.array rest c.shrink_to_fit.new.self.items
          c.saturating_sub-from.result inside said.fits (grind (arith, take_rest))
          (c.shrink_to_fit.ensures.items ∙ c.truncate.ensures.items) ∙ said.same;
    }
