use Rattle.std.proofs.Common.{◌≡◌, ◌++◌, List, false, length, map, true, ℕ}
use Rattle.std.specs.Io.KnownBytes.{Appends}
use Rattle.litscan.specs.Context.{Mark, PrintsGroups, near}
use Rattle.litscan.specs.Inside.Groups.{held_of, next_number, next_offset}
use Rattle.litscan.proofs.context.Context.print_held.Given as goal

-- the lines up to here are printed, and those that are held go on from them
abbrev pub invariant-loop-line : goal.invariant-loop-line
invariant-loop-line g l = record {
  out : List ℕ;
  written : Appends (g.W.Write.contents l.fn.writer.inner) (g.W.Write.contents l.writer.inner) out;
  goes_on : (separator : List ℕ) (lines : List (List ℕ)) (marks : List Mark) (rest : List ℕ)
      → PrintsGroups l.search l.options separator l.name true false l.self.number l.self.offset
      (held_of l.self ++ lines) (map (λ line. near) (held_of l.self) ++ marks) rest
      → PrintsGroups l.search l.options separator l.name true false l.fn.self.number l.fn.self.offset
      (held_of l.fn.self ++ lines) (map (λ line. near) (held_of l.fn.self) ++ marks) (out ++ rest);
  number : next_number l.self ≡ next_number l.fn.self;
  offset : next_offset l.self ≡ next_offset l.fn.self;
  any : l.self.any ≡ l.fn.self.any;
  apart : l.self.apart ≡ l.fn.self.apart;
}

abbrev pub decreases-loop-line : goal.decreases-loop-line
decreases-loop-line g l = length l.self.held.items
