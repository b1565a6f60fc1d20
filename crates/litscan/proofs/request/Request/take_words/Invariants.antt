use Rattle.std.proofs.Common.{◌≡◌, Ok, drop, map, take}
use Rattle.litscan.specs.Request.{asked_from, value_of_request}
use Rattle.litscan.proofs.request.Request.take_words.Given as goal

-- the words so far ask for the request as it is, and those that are left, from it on, for what all do
abbrev pub invariant-loop-i : goal.invariant-loop-i
invariant-loop-i l = record {
  front : asked_from 0 (take l.i (map (λ word. word.items) l.words)) (value_of_request l.fn.self)
      ≡ Ok (value_of_request l.self);
  rest : asked_from l.i (drop l.i (map (λ word. word.items) l.words)) (value_of_request l.self)
      ≡ asked_from 0 (map (λ word. word.items) l.words) (value_of_request l.fn.self);
}
