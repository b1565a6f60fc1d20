use Rattle.std.proofs.Common.{◌≡◌, ◌∙◌, ◌<◌, ◌+◌, ◌⊎◌, Err, Ok, List, ℕ, [], ap, arith, drop, get_or, length, map}
use Rattle.std.proofs.Common.{rules, sym}
use Rattle.std.proofs.lemmas.List.{get_or-map, length-map}
use Rattle.litscan.specs.declared.fault.Fault.{Fault}
use Rattle.litscan.specs.declared.fault.Fault.TheVariants.{OutOfMemory}
use Rattle.litscan.specs.Request.{SomeAreRight, asked_from, result_and_then, value_of_request, with_word}
use Rattle.litscan.proofs.lemmas.Request.{fails_at, front_more, rest_more}
use Rattle.litscan.proofs.request.Request.take_words.Goals as goal

pub loop-i-preserved : goal.loop-i-preserved
loop-i-preserved c =
    let words : List (List ℕ) = map (λ word. word.items) c.args.words.now in
    let i = c.loop-i.i in
    let below : i < length words =
    omega (arith, length-map c.args.words.now (λ word. word.items), c.loop-i-test.true) in
    let word : List ℕ = c.as_slice.result.now in
    let is : get_or words i [] ≡ word =
    get_or-map (λ word. word.items) c.args.words.now i c.index-words-i.result [] c.loop-i-test.true
    ∙ ap (λ word. word.items) (sym c.index-words-i.is) ∙ sym c.as_slice.ensures.value in
    let self = value_of_request c.loop-i.self in
    let next = value_of_request c.take_word.new.self in
    let asked : with_word word (record self { at = i }) ≡ Ok next = c.in_ok-take_word.ensures in
    record {
      front =
          front_more words i word below is (value_of_request c.args.self.now) self c.loop-i.invariant.front ∙ asked;
      rest =
          sym (rest_more words i word below is self
          ∙ ap (result_and_then (asked_from (i + 1) (drop (i + 1) words))) asked)
          ∙ c.loop-i.invariant.rest;
    }

pub returns-in_err-take_word : goal.returns-in_err-take_word
returns-in_err-take_word c =
    let words : List (List ℕ) = map (λ word. word.items) c.args.words.now in
    let i = c.loop-i.i in
    let below : i < length words =
    omega (arith, length-map c.args.words.now (λ word. word.items), c.loop-i-test.true) in
    let word : List ℕ = c.as_slice.result.now in
    let is : get_or words i [] ≡ word =
    get_or-map (λ word. word.items) c.args.words.now i c.index-words-i.result [] c.loop-i-test.true
    ∙ ap (λ word. word.items) (sym c.index-words-i.is) ∙ sym c.as_slice.ensures.value in
    let old = value_of_request c.args.self.now in
    let self = value_of_request c.loop-i.self in
    let fault : Fault = c.in_err-take_word.field-0.0 in
    let fails : (asked_from 0 words old ≡ Err fault) ⊎ ((fault ≡ OutOfMemory) × SomeAreRight words old) =
    fails_at words i word below is old self fault c.loop-i.invariant.front c.loop-i.invariant.rest
    c.in_err-take_word.ensures in
    search (rules, fails)
