use Rattle.std.proofs.Common.{◌≡◌, ◌+◌, ◌-◌, ◌<◌, ◌≤◌, ◌∙◌, ap, arith, bit_xor, drop, get_or, inl, inr, length}
use Rattle.std.proofs.Common.{List, rules, subst, sym, take, ℕ}
use Rattle.std.proofs.lemmas.Bool.{cases_lt}
use Rattle.std.proofs.lemmas.Bool.Decides.{nat_tests}
use Rattle.std.proofs.lemmas.List.{ext_get_or, get_or-drop, get_or-take, length-drop, length-take}
use Rattle.std.specs.Int.Bits.{xor_assoc, xor_self, xor_zero_l, xor_zero_r}
use Rattle.std.specs.List.{slice_range}
use Rattle.literal_fingerprints.proofs.short.ShortPattern.is_at.Goals as goal

equal : (a b : ℕ) → bit_xor a b ≡ 0 → a ≡ b
equal a b none =
    sym (xor_zero_r a)
    ∙ (ap (bit_xor a) (sym (xor_self b)) ∙ (sym (xor_assoc a b b) ∙ (ap (λ x. bit_xor x b) none ∙ xor_zero_l b)))

pub returns-clause-stands : goal.returns-clause-stands
returns-clause-stands c =
    let haystack = c.args.haystack.now in
    let at = c.args.at in
    let bytes = c.args.self.now.bytes in
    let len = c.args.self.now.len in
    let zeros = c.zeros_before.result in
    let pattern : List ℕ = take len bytes in
    let all : length bytes ≡ 16 = search rules in
    let part = slice_range haystack at (at + len) in
    let whole : len ≤ 16 → at + len ≡ at + length pattern =
    λ few. omega (arith, few, all, length-take len bytes) in
    let long : len ≤ 16 → length part ≡ len =
    λ few. omega (arith, few, length-take (at + len - at) (drop at haystack), length-drop at haystack, c.requires) in
    let here : len ≤ 16 → (k : ℕ) → k < len → get_or part k 0 ≡ get_or c.load-here.result k 0 =
    λ few k below.
    get_or-take (at + len - at) (drop at haystack) k 0 (omega (arith, below))
    ∙ (get_or-drop at haystack k 0 ∙ sym (c.load-here.ensures.lanes.each k (omega (arith, below, few)))) in
    let own : (k : ℕ) → k < len → get_or pattern k 0 ≡ get_or bytes k 0 =
    λ k below. get_or-take len bytes k 0 below in (
      λ told.
          let upto : len ≤ zeros = grind (arith, nat_tests, told) in
          let few : len ≤ 16 = omega (arith, upto, c.zeros_before.ensures.few) in
          let same : part ≡ pattern =
          ext_get_or 0 part pattern (omega (arith, long few, whole few))
          (λ k below.
          let low : k < len = omega (arith, below, long few) in
          here few k low
          ∙ (equal _ _ (sym (c.differing.ensures.each k (omega (arith, low, few)))
          ∙ c.zeros_before.ensures.zero k (omega (arith, low, upto))) ∙ sym (own k low))) in (
            few,
            record {
              fits = omega (arith, c.requires, few, whole few);
              same = subst (λ n. slice_range haystack at n ≡ pattern) (whole few) same;
            },
          ),
      λ stands. elim (cases_lt zeros len) [
        | inl before ↦
            let few = stands.0 in
            let same : part ≡ pattern =
            subst (λ n. slice_range haystack at n ≡ pattern) (sym (whole few)) stands.1.same in
            let lane : get_or c.load-here.result zeros 0 ≡ get_or bytes zeros 0 =
            sym (here few zeros before) ∙ (ap (λ (l : List ℕ). get_or l zeros 0) same ∙ own zeros before) in
            absurd (c.zeros_before.ensures.stops (omega (arith, before, few))
            (c.differing.ensures.each zeros (omega (arith, before, few))
            ∙ (ap (λ n. bit_xor n (get_or bytes zeros 0)) lane ∙ xor_self (get_or bytes zeros 0))))
        | inr after ↦ grind (arith, nat_tests, after)
      ],
    )
