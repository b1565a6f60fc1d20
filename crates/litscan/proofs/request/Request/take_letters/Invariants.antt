use Rattle.std.proofs.Common.{◌≡◌, drop}
use Rattle.litscan.specs.Request.{value_of_request, with_letters}
use Rattle.litscan.proofs.request.Request.take_letters.Given as goal

-- the letters that are left, from the request so far on, are all letters
abbrev pub invariant-loop-i : goal.invariant-loop-i
invariant-loop-i l =
    with_letters (drop l.i l.letters) (value_of_request l.self) ≡ with_letters l.letters (value_of_request l.fn.self)
