use Rattle.std.proofs.Common.{◌+◌, ◌-◌, ◌∙◌, ap, arith, drop, take}
use Rattle.std.proofs.lemmas.List.Sums.{sum_by-append}
use Rattle.std.proofs.Common.{cond, ◌≡◌, ◌++◌, ℕ}
use Rattle.std.proofs.Math.Seq.{take-add}
use Rattle.std.specs.List.{count_by}
use Rattle.litscan.proofs.lemmas.Passing.{is_end}
use Rattle.litscan.proofs.passed.count_ends.Goals as goal

pub loop-at-preserved : goal.loop-at-preserved
loop-at-preserved c =
    let bytes = c.args.bytes.now in
    let at = c.loop-at.at in
    let end = c.min-end.result in
    let before = take at bytes in
    let part = take (end - at) (drop at bytes) in
    let place : end ≡ at + (end - at) = omega (arith, c.min-end.ensures, c.loop-at-test.true) in
    let all : take end bytes ≡ before ++ part = ap (λ n. take n bytes) place ∙ take-add at (end - at) bytes in
    record {
      inside = omega (arith, c.min-end.ensures);
      counted = omega (
        arith,
        c.loop-at.invariant.counted,
        c.count_few.ensures,
        sum_by-append (λ b. cond {A = ℕ} (is_end c.args.line_end b) 1 0) before part,
        ap (count_by (is_end c.args.line_end)) all,
      );
    }
