use Rattle.std.proofs.Common.{ℕ, ◌+◌, ◌-◌, ◌*◌, ◌%◌, ◌^◌, sym, ap, ◌∙◌}
use Rattle.literal_packed.specs.RollingValue.{RollingValue}
use Rattle.literal_packed.proofs.lemmas.Sums.{sum_of-roll, roll_of}
use Rattle.literal_packed.proofs.rabinkarp.Rolling.roll.Goals as goal

pub returns-clause-value : goal.returns-clause-value
returns-clause-value c =
    let window : RollingValue → ℕ = λ r. r.window in
    let inside = c.self.inside in
    let rolled : ℕ → ℕ → ℕ =
    λ v m. (2 * v + c.args.new + (2 ^ 64 - c.args.old * 2 ^ m % 2 ^ 64)) % 2 ^ 64 in
    roll_of c.args.old c.args.new c.value-self-inside.result inside.power inside.window c.self.invariant.1
    ∙ (ap (λ v. rolled v inside.window) c.value-self-inside.ensures
    ∙ ap (rolled c.args.self.now.sum) (ap window c.self.view_is))

pub returns-clause-sum : goal.returns-clause-sum
returns-clause-sum c = λ w long is.
    let window : RollingValue → ℕ = λ r. r.window in
    let inside = c.self.inside in
    sum_of-roll c.args.old w c.args.new c.value-self-inside.result inside.power inside.window
    (long ∙ sym (ap window c.self.view_is)) c.self.invariant.1 (c.value-self-inside.ensures ∙ is)
