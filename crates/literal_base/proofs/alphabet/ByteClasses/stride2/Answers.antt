use Rattle.std.proofs.Common.{◌≤◌, ◌/◌, ◌<◌, max, subst}
use Rattle.literal_base.proofs.lemmas.Stride.{power-IsStride2}
use Rattle.literal_base.proofs.alphabet.ByteClasses.stride2.Goals as goal

pub returns-clause-stride2 : goal.returns-clause-stride2
returns-clause-stride2 c =
    let power = c.next_power_of_two.result in
    let len = c.alphabet_len.ensures.len in
    power-IsStride2 c.args.self.now power c.ilog2.result c.next_power_of_two.ensures.power
    (subst (λ n. n ≤ power) len c.next_power_of_two.ensures.lower_bound)
    (subst (λ n. power / 2 < max 1 n) len c.next_power_of_two.ensures.upper_bound)
    c.ilog2.ensures.power_le
    c.ilog2.ensures.next_power_gt

pub returns-clause-few : goal.returns-clause-few
returns-clause-few c =
    (returns-clause-stride2 c).least 8 (subst (λ n. n ≤ 256) c.alphabet_len.ensures.len c.alphabet_len.ensures.few)
