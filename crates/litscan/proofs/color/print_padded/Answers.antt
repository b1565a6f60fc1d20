use Rattle.std.proofs.Common.{◌≡◌, ◌-◌, ◌++◌, ◌&&◌, ◌∙◌, true, ℕ, List, [], ap, append-nil, arith, codes, inl, inr}
use Rattle.std.proofs.Common.{length, sym}
use Rattle.std.proofs.Common.{subst}
use Rattle.std.proofs.lemmas.Bool.{cases_eq, cond-false, cond-true, eq-eqb, ne_eqb}
use Rattle.std.specs.Fmt.{char_count, decimal, format_spec, is_bare_number, padded_integral, styled_decimal}
use Rattle.std.specs.List.{repeat}
use Rattle.std.specs.Io.KnownBytes.{Appends}
use Rattle.std.specs.Result.{OnOk}
use Rattle.litscan.specs.Printed.{padded_number}
use Rattle.litscan.proofs.color.print_padded.Goals as goal

module _ (width number : ℕ) where
  digits : List ℕ
  digits = decimal number

  -- with spaces before the number, and none after it
  spaced : (n m : ℕ) → m ≡ n
      → repeat m (codes " ") ++ [] ++ [] ++ [] ++ (digits ++ repeat (m - m) (codes " "))
      ≡ repeat n (codes " ") ++ digits
  spaced n m is =
      let none : n - n ≡ 0 = omega arith in
      simp (is, none, append-nil)

  -- the text of a number with a width
  pub styled_is : styled_decimal (format_spec 32 3 0 width 18446744073709551615) number ≡ padded_number width number
  unfolding padded_integral char_count digits lib.Utf8.encode
  styled_is =
      let spec = format_spec 32 3 0 width 18446744073709551615 in
      elim (cases_eq width 0) [
        | inl zero ↦
            let none : width - length digits ≡ 0 = omega (arith, zero) in
            cond-true (is_bare_number spec) _ _ (ap (λ b. b && true && true) (eq-eqb width 0 zero))
            ∙ sym (ap (λ n. repeat n (codes " ") ++ digits) none)
        | inr some ↦
            cond-false (is_bare_number spec) _ _ (ap (λ b. b && true && true) (ne_eqb width 0 some))
            ∙ spaced (width - length digits) (width - length digits - 0 - 0) (omega arith)
      ]

pub returns-clause-printed : goal.returns-clause-printed
returns-clause-printed g c =
    subst (λ text. OnOk c.write.result (Appends (g.W.Write.contents c.args.writer.now.inner)
    (g.W.Write.contents c.write.new.self.inner) text))
    (ap (λ s. styled_decimal s c.args.number) c.laid_out.ensures ∙ styled_is c.args.width c.args.number)
    c.write.ensures.written
