use Rattle.std.proofs.Common.{◌≡◌, ◌≤◌, Bor, List, [], ℕ, get_or, length, map, take, ap, subst, ◌∙◌, arith, rules}
use Rattle.std.proofs.lemmas.List.{take_all}
use Rattle.literal_packed.specs.BuilderValue.{BuilderValue, builder_of}
use Rattle.literal_packed.specs.State.{WouldKeep}
use Rattle.literal_packed.proofs.lemmas.Callers.{first_if_keeps, first_if_refused}
use Rattle.literal_promise.specs.Together.{asked_config, asked_query}
use Rattle.literal_promise.specs.declared.SearchRequest.{SearchRequest}
use Rattle.literal_promise.proofs.lemmas.Lists.{builds_exactly, builds_searcher}
use Rattle.literal_promise.proofs.build.Goals as goal

-- after the loop all patterns were added
all_added : (asked : SearchRequest) (builder : BuilderValue) (n : ℕ) → length asked.patterns.now ≤ n
    → builder ≡ builder_of (asked_config asked) (map (λ p. p.now) (take n asked.patterns.now))
    → builder ≡ builder_of (asked_config asked) (asked_query asked).patterns
all_added asked builder n ended is =
    is ∙ ap (λ (list : List (Bor (List ℕ))). builder_of (asked_config asked) (map (λ p. p.now) list))
    (take_all n asked.patterns.now ended)

pub returns-clause-built : goal.returns-clause-built
returns-clause-built c =
    let asked = c.args.asked.now in
    builds_exactly c.lists_up_to_the_limit_build.ensures.searcher c.lists_up_to_the_limit_build.ensures.no_others
    (asked_config asked) (asked_query asked).patterns c.loop-bytes.builder
    (all_added asked c.loop-bytes.builder c.loop-bytes.bytes-index
    (omega (arith, c.loop-bytes-test.false)) c.loop-bytes.invariant)
    c.build.result c.build.ensures.ok

pub returns-clause-same : goal.returns-clause-same
returns-clause-same c =
    let asked = c.args.asked.now in
    builds_searcher c.lists_up_to_the_limit_build.ensures.searcher c.lists_up_to_the_limit_build.ensures.no_others
    (asked_config asked) (asked_query asked).patterns c.loop-bytes.builder
    (all_added asked c.loop-bytes.builder c.loop-bytes.bytes-index
    (omega (arith, c.loop-bytes-test.false)) c.loop-bytes.invariant)
    c.build.result c.build.ensures.ok

pub returns-clause-no_memory : goal.returns-clause-no_memory
returns-clause-no_memory c =
    let asked = c.args.asked.now in
    first_if_refused (asked_config asked) (asked_query asked).patterns c.loop-bytes.builder
    (all_added asked c.loop-bytes.builder c.loop-bytes.bytes-index
    (omega (arith, c.loop-bytes-test.false)) c.loop-bytes.invariant)
    c.build.result c.build.ensures.no_memory

pub returns-in_err-add-clause-no_memory : goal.returns-in_err-add-clause-no_memory
returns-in_err-add-clause-no_memory c =
    let asked = c.args.asked.now in
    let list = asked.patterns.now in
    let d : Bor (List ℕ) = record { ref_ptr = (0, 0); now = [] } in
    let i = c.loop-bytes.bytes-index in
    let first = first_if_keeps asked.pattern_limit (λ p. p.now) list i d c.loop-bytes-test.true
    (subst (λ b. WouldKeep b.config.pattern_limit b.state (get_or list i d).now) c.loop-bytes.invariant
    c.in_err-add.ensures.no_memory) in
    search (rules, first)
