use Rattle.std.proofs.Common.{◌+◌, ◌-◌, arith, sym, subst, List, ℕ}
use Rattle.literal_fingerprints.specs.Inside.Lanes.{HasWide}
use Rattle.literal_fingerprints.proofs.lemmas.Lanes.{lanes_from}
use Rattle.literal_fingerprints.proofs.wide.shifted_wide.Goals as goal
use Rattle.literal_fingerprints.proofs.wide.shifted_wide.Goals.{in-0, in-1, in-2, in_default}

pub returns : goal.returns
returns c f first last =
    let Has = λ (lanes : List ℕ). HasWide lanes (λ k. f (16 - c.args.lanes + k)) in
    elim c.match-lanes.branch [
      | in-0 w ↦ subst Has (sym w.result-is) (lanes_from c.args.here f 16 (16 - c.args.lanes) (omega (
        arith,
        w.in-0.is,
      )) last)
      | in-1 w ↦ subst Has (sym w.result-is) (lanes_from w.one_back_wide.result f 15 (16 - c.args.lanes) (omega (
        arith,
        w.in-1.is,
      )) (w.one_back_wide.ensures f first last))
      | in-2 w ↦ subst Has (sym w.result-is) (lanes_from w.two_back_wide.result f 14 (16 - c.args.lanes) (omega (
        arith,
        w.in-2.is,
      )) (w.two_back_wide.ensures f first last))
      | in_default w ↦ subst Has (sym w.result-is) (lanes_from w.three_back_wide.result f 13 (16 - c.args.lanes) (omega
          (arith, c.requires, w.in_default)) (w.three_back_wide.ensures f first last))
    ]
