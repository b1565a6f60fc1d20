use Rattle.std.proofs.Common.{◌≡◌, ℕ, List, [], Some, ap, arith, inl, inr, length, map, subst, sym}
use Rattle.std.proofs.lemmas.Bool.{cases_lt}
use Rattle.std.proofs.lemmas.List.{length-map, nil_from_length}
use Rattle.std.specs.Global.{Vec}
use Rattle.literal_rows.specs.Inside.Kept.{numbers_kept}
use Rattle.literal_search.specs.Inside.Search.{AreKept, patterns_of, search_value}
use Rattle.literal_search.specs.SearchValue.{search_by}
use Rattle.literal_search.proofs.lemmas.NoPattern.{none_are_kept}
use Rattle.literal_search.proofs.search.Search.try_clone.Goals as goal

pub invariant_of-result : goal.invariant_of-result
invariant_of-result c =
    let p = c.self.inside.parts in
    let long = ap (λ (l : List (Vec ℕ)). length l) c.deref-2.ensures.value in
    let same : map (λ (pattern : Vec ℕ). pattern.items) c.in_ok-copied.copied.items ≡ patterns_of p = grind arith in
    let kept : AreKept (search_value p) c.in_ok-numbers.numbers = elim (cases_lt 0 (length p.patterns.items)) [
      | inl one ↦ subst (AreKept (search_value p)) (sym (c.in_ok-numbers.ensures.some (omega (arith, one, long))))
          c.self.invariant
      | inr not ↦
          let no : length p.patterns.items ≡ 0 = omega (arith, not) in
          let nil : patterns_of p ≡ [] = grind (arith, length-map, nil_from_length) in
          subst (AreKept (search_value p)) (sym (c.in_ok-numbers.ensures.none (omega (arith, no, long))))
          (subst (λ (l : List (List ℕ)). AreKept (search_by p.kind p.ignore_case l) (numbers_kept (Some p.kind) []))
          (sym nil) (none_are_kept p.kind p.ignore_case))
    ] in
    subst (λ (l : List (List ℕ)). AreKept (search_by p.kind p.ignore_case l) c.in_ok-numbers.numbers) (sym same) kept
