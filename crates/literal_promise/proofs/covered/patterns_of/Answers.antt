use Rattle.std.proofs.Common.{◌<◌, Bor, List, [], ℕ, length, subst, arith}
use Rattle.std.proofs.lemmas.List.{get_or-map, length-map}
use Rattle.literal_promise.proofs.covered.patterns_of.Goals as goal

pub add-requires-clause-some : goal.add-requires-clause-some
add-requires-clause-some c =
    let list = c.args.list.now in
    let i = c.loop-bytes.bytes-index in
    let f : Bor (List ℕ) → List ℕ = λ p. p.now in
    let below = c.loop-bytes-test.true in
    subst (λ bytes. 0 < length bytes) (get_or-map f list i (record { ref_ptr = (0, 0); now = [] }) [] below)
    (c.requires.not_empty i [] (omega (arith, length-map list f)))
