use Rattle.std.proofs.Common.{◌≡◌, ◌++◌, ℕ, List, map}
use Rattle.std.specs.Io.KnownBytes.{Consumes}
use Rattle.std.specs.List.{All, flat_map}
use Rattle.litscan.specs.Lines.{HasNoEnd, with_end}
use Rattle.litscan.specs.Words.{words_of_line}
use Rattle.litscan.proofs.lines.add_lines.Given as goal

-- the lines that were read so far are the words behind those that were there
abbrev pub invariant-loop : goal.invariant-loop
invariant-loop g l = record {
  seen : List (List ℕ);
  whole : All (HasNoEnd 10) seen;
  read : Consumes (g.R.Read.remaining l.fn.reader.inner) (g.R.Read.remaining l.reader.inner)
      (flat_map (with_end 10) seen);
  added : map (λ word. word.items) l.words.items
      ≡ map (λ word. word.items) l.fn.words.items ++ flat_map (words_of_line l.options) seen;
}
