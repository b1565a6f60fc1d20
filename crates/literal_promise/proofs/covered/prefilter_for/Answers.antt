use Rattle.std.proofs.Common.{◌≡◌, ◌+◌, ◌≤◌, ◌∷◌, [], Bor, List, ℕ, IfOk, IfSome, IsSomeAnd}
use Rattle.std.proofs.Common.{None, OnErr, Option, Some, get_or, is_some, length, map, take, refl, true}
use Rattle.std.proofs.Common.{sym, ap, subst, ◌∙◌, arith, rules}
use Rattle.std.proofs.lemmas.List.{map_more, take_all}
use Rattle.std.proofs.lemmas.Result.{on_err_weaker}
use Rattle.literal_packed.proofs.lemmas.Callers.{first_if_keeps, state_after-state_of}
use Rattle.literal_packed.specs.State.{WouldKeep, state_after, state_of}
use Rattle.literal_prefilters.proofs.lemmas.Callers.{first_if_picked}
use Rattle.literal_prefilters.specs.Choice.{IsBuiltFor, pick}
use Rattle.literal_prefilters.specs.PrefilterValue.{PrefilterValue, TakesMemory}
use Rattle.literal_prefilters.specs.PrefilterBuilderValue.{PrefilterBuilderValue, prefilter_limit, with_added}
use Rattle.literal_promise.specs.Together.{asked_builder, asked_query}
use Rattle.literal_promise.specs.declared.SearchRequest.{SearchRequest}
use Rattle.literal_promise.proofs.covered.prefilter_for.Goals as goal

pub loop-bytes-preserved : goal.loop-bytes-preserved
loop-bytes-preserved c =
    let asked = c.args.asked.now in
    let list = asked.patterns.now in
    let i = c.loop-bytes.bytes-index in
    let f : Bor (List ℕ) → List ℕ = λ p. p.now in
    let below = c.loop-bytes-test.true in
    let d : Bor (List ℕ) = record { ref_ptr = (0, 0); now = [] } in
    let bytes = (get_or list i d).now in
    let state : ℕ → Option (List (List ℕ)) = λ k. state_of prefilter_limit (map f (take k list)) in
    let more : state_after prefilter_limit (state i) (bytes ∷ []) ≡ state (i + 1) =
    state_after-state_of prefilter_limit (map f (take i list)) (bytes ∷ [])
    ∙ ap (state_of prefilter_limit) (sym (map_more f list i d below)) in
    c.in_ok-add.ensures.ok ∙ (ap (λ b. with_added b (bytes ∷ [])) c.loop-bytes.invariant
    ∙ ap (λ s. record (asked_builder asked) { state = s }) more)

-- after the loop all patterns were added
all_added : (asked : SearchRequest) (builder : PrefilterBuilderValue) (n : ℕ) → length asked.patterns.now ≤ n
    → builder ≡ record (asked_builder asked) {
      state = state_of prefilter_limit (map (λ p. p.now) (take n asked.patterns.now));
    }
    → builder ≡ asked_builder asked
all_added asked builder n ended is =
    is ∙ ap (λ (list : List (Bor (List ℕ))). record (asked_builder asked) {
      state = state_of prefilter_limit (map (λ p. p.now) list);
    })
    (take_all n asked.patterns.now ended)

pub returns-clause-picked : goal.returns-clause-picked
returns-clause-picked c = subst (λ b. IfOk c.build.result (λ built. built ≡ pick b))
    (all_added c.args.asked.now c.loop-bytes.builder c.loop-bytes.bytes-index
    (omega (arith, c.loop-bytes-test.false)) c.loop-bytes.invariant)
    c.build.ensures.pick

pub returns-clause-covers : goal.returns-clause-covers
returns-clause-covers c = subst (λ b. IfOk c.build.result (λ built. IfSome built (IsBuiltFor b)))
    (all_added c.args.asked.now c.loop-bytes.builder c.loop-bytes.bytes-index
    (omega (arith, c.loop-bytes-test.false)) c.loop-bytes.invariant)
    c.build.ensures.covers

picked_if_takes : (picked : Option PrefilterValue) → IsSomeAnd picked TakesMemory → is_some picked ≡ true
picked_if_takes (Some prefilter) takes = refl
picked_if_takes None takes = absurd takes

pub returns-clause-no_memory : goal.returns-clause-no_memory
returns-clause-no_memory c =
    let asked = c.args.asked.now in
    on_err_weaker c.build.result
    (λ takes. first_if_picked asked.built_for asked.ignore_case (asked_query asked).patterns (picked_if_takes _ takes))
    (subst (λ b. OnErr c.build.result (IsSomeAnd (pick b) TakesMemory))
    (all_added asked c.loop-bytes.builder c.loop-bytes.bytes-index
    (omega (arith, c.loop-bytes-test.false)) c.loop-bytes.invariant)
    c.build.ensures.no_memory)

pub returns-in_err-add-clause-no_memory : goal.returns-in_err-add-clause-no_memory
returns-in_err-add-clause-no_memory c =
    let list = c.args.asked.now.patterns.now in
    let d : Bor (List ℕ) = record { ref_ptr = (0, 0); now = [] } in
    let i = c.loop-bytes.bytes-index in
    let first = first_if_keeps prefilter_limit (λ p. p.now) list i d c.loop-bytes-test.true
    (subst (λ b. WouldKeep prefilter_limit b.state (get_or list i d).now) c.loop-bytes.invariant
    c.in_err-add.ensures.no_memory) in
    search (rules, first)
