use Rattle.std.proofs.Common.{◌++◌, ◌-◌, arith, drop, refl, replicate, subst, sym}
use Rattle.std.proofs.Common.{get_or, take, List, ℕ, ◌+◌}
use Rattle.literal_fingerprints.specs.Inside.Lanes.{HasLanes}
use Rattle.literal_fingerprints.proofs.lemmas.Lanes.{lanes_of_rest, rest_of_last}
use Rattle.literal_fingerprints.proofs.lanes.load_rest.Goals as goal
use lib.Lanes.{chunk}

pub returns-then-end-lt-LANES-clause-lanes : goal.returns-then-end-lt-LANES-clause-lanes
returns-then-end-lt-LANES-clause-lanes c =
    let at = c.args.at in
    let end = c.args.end in
    subst (λ (bytes : List ℕ). HasLanes (chunk 0 16 (bytes ++ drop (end - at) (replicate {A = ℕ} 16 0)))
    (λ k. get_or (take end c.args.haystack.now) (at + k) 0)) (sym c.copy_from_slice.ensures.after)
    (lanes_of_rest c.args.haystack.now at end c.requires.ordered c.requires.few c.requires.inside)

pub returns-clause-lanes : goal.returns-clause-lanes
returns-clause-lanes c =
    rest_of_last c.args.haystack.now c.args.at c.args.end c.requires.ordered c.requires.few
    (omega (arith, c.if-end-lt-LANES.false)) c.requires.inside _ _ refl c.after_first.ensures
