use Rattle.std.proofs.Common.{◌≡◌, ◌∙◌, Option, Some, ap, arith, drop, rules, subst, sym}
use Rattle.std.proofs.lemmas.List.{length-drop, take_all}
use Rattle.std.specs.Prelude.{IfSome}
use Rattle.literal_fingerprints.specs.ShortPatterns.{IsOnly}
use Rattle.literal_fingerprints.specs.declared.short.ShortPattern.{ShortPattern}
use Rattle.literal_rows.specs.Inside.Packed.{unpacked}
use Rattle.literal_leftmost.specs.Prepared.{scan_by, short_of}
use Rattle.literal_leftmost.proofs.backward.Backward.short.Goals as goal

pub returns : goal.returns
unfolding scan_by
returns c =
    let prints = c.args.self.now.prints.now in
    let is : short_of (unpacked (drop 35 prints)) ≡ Some c.in_ok-short.short =
    ap (λ n. short_of (unpacked n))
    (sym (take_all 5 (drop 35 prints) (omega (arith, length-drop 35 prints, c.requires.prints))))
    ∙ (sym c.short_by.ensures ∙ c.in_ok-short.was) in
    record {
      only = λ search tables. subst
          (λ (o : Option ShortPattern). IfSome o (λ s. IsOnly s search.ignore_case search.query.patterns)) is
          (tables.prints (omega (arith, c.if-self-eq0.false))).1;
      len = search rules;
      some = omega (arith, c.if-len-eq0.false);
      few = omega (arith, c.if-len-gt-SHORTEST_REST.false);
      has_length = search rules;
    }
