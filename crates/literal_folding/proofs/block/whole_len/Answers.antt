use Rattle.std.proofs.Common.{◌-◌, ◌≡◌, ◌∙◌, ap, arith, inl, inr, length, get_or, sym}
use Rattle.std.proofs.lemmas.Bool.{cases_lt}
use Rattle.literal_folding.specs.Inside.Blocks.{bytes_behind_of}
use Rattle.literal_folding.proofs.lemmas.Blocks.{none_over_lead, none_over_whole}
use Rattle.literal_folding.proofs.block.whole_len.Goals as goal

pub returns-then-bytes_behind-back-clause-alone : goal.returns-then-bytes_behind-back-clause-alone
returns-then-bytes_behind-back-clause-alone c = λ more.
    none_over_lead c.args.text.now more _ c.loop-back.back (omega arith) (omega arith) (omega arith)

pub returns-else-bytes_behind-back-clause-alone : goal.returns-else-bytes_behind-back-clause-alone
returns-else-bytes_behind-back-clause-alone c = λ more.
    none_over_whole c.args.text.now more (λ k some few inside. elim (cases_lt k c.loop-back.back) [
      | inl before ↦ c.loop-back.invariant k some before
      | inr last ↦
          let same : k ≡ c.loop-back.back = omega arith in
          let here : bytes_behind_of (get_or c.args.text.now (length c.args.text.now - k) 0) ≡ c.bytes_behind.result =
          ap (λ n. bytes_behind_of (get_or c.args.text.now (length c.args.text.now - n) 0)) same
          ∙ sym c.bytes_behind.ensures in
          omega (arith, here, same)
    ])
