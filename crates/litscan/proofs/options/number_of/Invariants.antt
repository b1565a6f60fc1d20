use Rattle.std.proofs.Common.{◌≡◌, drop}
use Rattle.litscan.specs.Options.{number_from}
use Rattle.litscan.proofs.options.number_of.Given as goal

-- the digits that are left, from the number so far on, write the number of all
abbrev pub invariant-loop-digit : goal.invariant-loop-digit
invariant-loop-digit l = number_from l.number (drop l.digit-index l.digits) ≡ number_from 0 l.digits
