use Rattle.std.proofs.Common.{◌∙◌, arith, sym}
use Rattle.std.proofs.lemmas.Bool.{eqb-false}
use Rattle.literal_fingerprints.proofs.lemmas.Sets.{both_within, is_some, some_within}
use Rattle.literal_fingerprints.proofs.fingerprints.Fingerprints.lets_pass.Goals as goal

pub returns : goal.returns
returns c is_true = record {
  some = let none = eqb-false _ _ (sym c.is_empty.ensures ∙ c.if-is_empty.false) in omega arith;
  each = λ text same.
      rw (← c.self.view_is) (some_within _ _
      (both_within _ _ _ _
      (both_within _ _ _ _ (c.shared-first.ensures (text 0) (same 0)) (c.shared-second.ensures (text 1) (same 1)))
      (both_within _ _ _ _ (c.shared-third.ensures (text 2) (same 2)) (c.shared-fourth.ensures (text 3) (same 3))))
      (is_some _ is_true));
}
