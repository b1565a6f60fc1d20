use Rattle.std.proofs.Common.{length, slice_index, sym, ap, ◌∙◌, arith}
use Rattle.literal_ids.proofs.lemmas.Callers.{id_below}
use Rattle.test_contracts.proofs.uses_of_ids.place_of.Goals as goal

pub bounds-words-as_usize : goal.bounds-words-as_usize
bounds-words-as_usize c =
    omega (
      arith,
      id_below (length c.args.words.now) _ _ _ _ c.loop-id.invariant c.in-Some.ensures.steps,
      c.as_usize.ensures.value,
    )

pub returns-then-words-as_usize : goal.returns-then-words-as_usize
returns-then-words-as_usize c = (
  id_below (length c.args.words.now) _ _ _ _ c.loop-id.invariant c.in-Some.ensures.steps,
  ap (λ k. slice_index c.args.words.now k) (sym c.as_usize.ensures.value) ∙ c.if-words-as_usize.true,
)
