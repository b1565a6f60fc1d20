use Rattle.std.proofs.Common.{◌≡◌, ◌++◌, append-nil, ◌∷◌, [], length, map, sym, ap, ◌∙◌, arith, ℕ, List}
use Rattle.std.proofs.Common.{take}
use Rattle.std.specs.List.{filter}
use Rattle.std.proofs.lemmas.List.{map_push}
use Rattle.literal_base.specs.Counts.{Counts}
use Rattle.literal_packed.specs.Sum.{sum_of}
use Rattle.literal_packed.specs.Pairs.{key_of}
use Rattle.literal_packed.specs.PatternsValue.{minimum_len_of}
use Rattle.literal_base.specs.Occurs.{pattern_at}
use Rattle.literal_packed.proofs.lemmas.IteratedPatterns.{head_below, split_next, split_more}
use Rattle.literal_packed.proofs.lemmas.MinimumLen.{minimum_len_of_some, minimum_len_of-le}
use Rattle.literal_packed.proofs.lemmas.Entries.{pattern_of_head, entries_all, hashed_more, hashed_of, length_all}
use Rattle.literal_packed.proofs.lemmas.Entries.{entry_of}
use Rattle.literal_packed.proofs.lemmas.Parts.{in_bucket}
use Rattle.literal_packed.proofs.rabinkarp.RabinKarp.new.Goals as goal

pub loop-id-init : goal.loop-id-init
loop-id-init c = record {
  split = c.into_iter-id-iterator.ensures.into_iter_gives ∙ c.iter-id-items.ensures.items;
  filled = c.in_ok-list.ensures.items;
  counted =
      let f : ℕ → Counts = λ k. record c.args.tally.now { hashed = k } in
      ap f (omega arith);
}

pub sum_of_first-requires-clause-some : goal.sum_of_first-requires-clause-some
sum_of_first-requires-clause-some c =
    let some = minimum_len_of_some c.args.patterns.now.patterns c.iter-id-items.ensures.well_formed.not_empty in
    let is = c.minimum_len-minimum_len.ensures in
    omega arith

pub sum_of_first-requires-clause-room : goal.sum_of_first-requires-clause-room
sum_of_first-requires-clause-room c =
    let patterns = c.args.patterns.now in
    let split = split_next c.loop-id.yielded c.loop-id.invariant.split c.in-Some.ensures.steps in
    let below = head_below patterns c.iter-id-items.ensures.well_formed _ _ _ split in
    let is : c.bytes.result.now ≡ _ = c.bytes.ensures ∙ pattern_of_head patterns _ _ _ split in
    let long = ap length is in
    let least = minimum_len_of-le patterns.patterns _ below in
    let window = c.minimum_len-minimum_len.ensures in
    omega arith

pub loop-id-preserved : goal.loop-id-preserved
loop-id-preserved c =
    let patterns = c.args.patterns.now in
    let x : ℕ × List ℕ = (c.in-Some.id, c.in-Some.pattern) in
    let split = split_next c.loop-id.yielded c.loop-id.invariant.split c.in-Some.ensures.steps in
    let bytes : c.bytes.result.now ≡ pattern_at patterns.patterns c.in-Some.id = c.bytes.ensures
    ∙ pattern_of_head patterns _ _ _ split in
    let key : c.sum_of_first.result ≡ key_of patterns.patterns c.in-Some.id =
    c.sum_of_first.ensures.sum ∙ (ap (λ n. sum_of (take n c.bytes.result.now)) c.minimum_len-minimum_len.ensures
    ∙ ap (λ xs. sum_of (take (minimum_len_of patterns.patterns) xs)) bytes) in
    record {
      split = split_more c.loop-id.yielded c.loop-id.invariant.split c.in-Some.ensures.steps;
      filled =
          c.in_ok-push.ensures.items
          ∙ (ap (λ xs. xs ++ (c.sum_of_first.result, c.in-Some.id) ∷ []) c.loop-id.invariant.filled
          ∙ (ap (λ s. map (entry_of patterns) c.loop-id.yielded ++ (s, c.in-Some.id) ∷ []) key
          ∙ sym (map_push (entry_of patterns) c.loop-id.yielded x)));
      counted = hashed_more c.args.tally.now c.loop-id.tally _ c.loop-id.yielded x _ c.loop-id.invariant.counted
          c.sum_of_first.ensures.exact;
    }

pub returns-clause-made : goal.returns-clause-made
returns-clause-made c =
    let patterns = c.args.patterns.now in
    let all = entries_all patterns c.loop-id.yielded c.loop-id.list.items
    (ap (λ ps. c.loop-id.yielded ++ ps) (sym c.in-None.ensures.steps.0) ∙ c.loop-id.invariant.split)
    c.loop-id.invariant.filled in
    record {
      searchable = record { well_formed = c.iter-id-items.ensures.well_formed; in_order = c.requires.in_order };
      some = c.requires.some;
      minimum_len = c.minimum_len-minimum_len.ensures;
      each = c.in_ok-new.ensures.each;
      buckets = λ k below. c.in_ok-new.ensures.has k below ∙ ap (filter (in_bucket k)) all;
    }

pub returns-clause-exact : goal.returns-clause-exact
returns-clause-exact c =
    let patterns = c.args.patterns.now in
    let all = sym (append-nil c.loop-id.yielded)
    ∙ (ap (λ ps. c.loop-id.yielded ++ ps) (sym c.in-None.ensures.steps.0) ∙ c.loop-id.invariant.split) in
    c.loop-id.invariant.counted
    ∙ (ap (λ n. hashed_of c.args.tally.now n c.minimum_len-minimum_len.result)
    (length_all patterns c.loop-id.yielded c.iter-id-items.ensures.well_formed all)
    ∙ ap (hashed_of c.args.tally.now (length patterns.patterns)) c.minimum_len-minimum_len.ensures)
