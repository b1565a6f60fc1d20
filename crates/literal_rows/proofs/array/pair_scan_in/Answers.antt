use Rattle.std.proofs.Common.{◌∙◌, Option, arith, inr, refl, subst, sym}
use Rattle.std.specs.Prelude.{IsNone}
use Rattle.literal_fingerprints.specs.declared.pair.RarePair.{RarePair}
use Rattle.literal_rows.specs.Arrays.{scan_by}
use Rattle.literal_rows.proofs.array.pair_scan_in.Goals as goal

pub returns-in_default : goal.returns-in_default
unfolding scan_by
returns-in_default c =
    inr (subst (λ (pair : Option RarePair). IsNone pair) (sym c.in_default.is ∙ c.pair_by.ensures) refl)

pub returns : goal.returns
unfolding scan_by
returns c =
    record {
      some = omega (arith, c.if-prints-eq0.false);
      by_pair = refl;
      pair = sym c.in-Some.is ∙ c.pair_by.ensures;
      skipped = c.skipped_by.ensures;
      short = refl;
    }
