use Rattle.std.proofs.Common.{◌≡◌, ◌+◌, ◌-◌, ◌<◌, arith, get_or, length, min, subst, sym, true, ℕ}
use Rattle.literal_base.specs.Occurs.{same_byte}
use Rattle.literal_fingerprints.specs.RarePairs.{IsRare}
use Rattle.literal_fingerprints.specs.declared.pair.RarePair.{RarePair}
use Rattle.literal_fingerprints.proofs.lemmas.Hits.{far_by, some_by}
use Rattle.literal_fingerprints.proofs.pair.RarePair.new.Goals as goal

pub returns : goal.returns
returns c =
    let pattern = c.args.pattern.now in
    let first = c.rarest_places-first.result.0 in
    let second = c.rarest_places-first.result.1 in
    let same : first ≡ min first 2 = omega (arith, c.rarest_places-first.ensures.first) in
    let offset : second ≡ min first 2 + min (second - first) 3 =
    omega (arith, same, c.rarest_places-first.ensures.ordered, c.rarest_places-first.ensures.near) in
    let pair : RarePair =
    record {
      first = c.new-rare.result;
      second = c.new.result;
      between = c.between_byte.result;
      offset = first;
      apart = second - first;
    } in
    record {
      inside = subst (λ n. n < length pattern) offset c.rarest_places-first.ensures.inside;
      first = subst (λ n. (byte : ℕ) → same_byte c.args.ignore_case byte (get_or pattern n 0) ≡ true
          → IsRare c.new-rare.result byte) same c.new-rare.ensures;
      between = λ byte is known. c.between_byte.ensures (some_by pair known) (omega (arith, far_by pair known)) byte
          (subst (λ n. same_byte c.args.ignore_case byte (get_or pattern (n + 1) 0) ≡ true) (sym same) is);
      second = subst (λ n. (byte : ℕ) → same_byte c.args.ignore_case byte (get_or pattern n 0) ≡ true
          → IsRare c.new.result byte) offset c.new.ensures;
    }
