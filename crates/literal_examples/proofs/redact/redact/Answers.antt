use Rattle.std.proofs.Common.{◌≡◌, ◌+◌, ◌++◌, ◌-◌, ◌≤◌, ◌∙◌, ◌∷◌, [], ℕ, List, arith, length, length-append, ap}
use Rattle.std.proofs.Common.{replicate, slice_range}
use Rattle.std.proofs.lemmas.Grind.{common_steps}
use Rattle.std.proofs.lemmas.List.{length-replicate}
use Rattle.literal_base.specs.Greedy.{IsGreedy}
use Rattle.literal_base.specs.MatchValue.{MatchValue}
use Rattle.literal_search.proofs.lemmas.Callers.{written_by_calls}
use Rattle.literal_search.proofs.lemmas.Callers.{length_part}
use Rattle.literal_search.specs.SearchValue.{SearchValue}
use Rattle.literal_examples.specs.Redacted.{redacted}
use Rattle.literal_examples.proofs.redact.redact.Goals as goal

-- an asterisk for each byte keeps the length
redacted_len : (searched : SearchValue) (text : List ℕ) (at : ℕ) (all : List MatchValue) → at ≤ length text
    → IsGreedy searched.query searched.ignore_case text at all → at + length (redacted text at all) ≡ length text
redacted_len searched text at [] within nothing = omega (arith, length_part text at (length text) within (omega arith))
redacted_len searched text at (found ∷ more) within greedy =
    let occurs = greedy.0.occurs in
    let inside : found.end ≤ length text = omega (arith, greedy.0.whole, occurs.before_end) in
    let stars : List ℕ = replicate (found.end - found.start) 42 in
    let rest = redacted text found.end more in
    omega (
      arith,
      greedy.0.whole,
      occurs.after_start,
      length-append (slice_range text at found.start) (stars ++ rest),
      length-append stars rest,
      length-replicate {A = ℕ} (found.end - found.start) 42,
      length_part text at found.start occurs.after_start (omega (arith, greedy.0.whole, inside)),
      redacted_len searched text found.end more inside greedy.1,
    )

pub returns-clause-redacted : goal.returns-clause-redacted
returns-clause-redacted c =
    let written = c.in_ok-text.ensures.ok in (
      written.matches,
      written.are_greedy,
      written_by_calls written (λ found. replicate (found.end - found.start) 42) (λ _. Unit {0}) tt
          (λ f found bytes before behind next held is same called.
          let met = called.met in
          let len : length bytes.now ≡ found.end - found.start =
          ap (λ (l : List ℕ). length l) same
          ∙ length_part c.args.haystack.now found.start found.end (omega (arith, is.whole))
          (omega (arith, is.whole, is.occurs.before_end)) in
          (tt, grind (arith, common_steps, met.1))),
    )

pub returns-clause-length : goal.returns-clause-length
returns-clause-length c =
    let (all, greedy, is) = returns-clause-redacted c in
    omega (
      arith,
      ap (λ (l : List ℕ). length l) is,
      redacted_len c.args.search.now c.args.haystack.now 0 all (omega arith) greedy,
    )
