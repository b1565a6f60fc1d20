use Rattle.std.proofs.Common.{◌≡◌, List, false, map, nat_lt, take}
use Rattle.std.specs.Io.KnownBytes.{Appends}
use Rattle.std.specs.List.{flat_map, list_any}
use Rattle.std.specs.Option.{is_some}
use Rattle.litscan.specs.Files.{PrintsFiles, Searched}
use Rattle.litscan.proofs.files.scan_each.Given as goal

-- the files so far were searched, and what was printed of them is written
abbrev pub invariant-loop-name : goal.invariant-loop-name
invariant-loop-name g l = record {
  all : List Searched;
  names : map (λ name. name.items) (take l.name-index l.names) ≡ map (λ one. one.name) all;
  each : PrintsFiles l.search l.options l.separator l.label l.output false all;
  any : l.found.any ≡ list_any (λ one. nat_lt 0 one.scanned.count) all;
  failed : l.found.failed ≡ list_any (λ one. is_some one.scanned.failure) all;
  written : Appends (g.W.Write.contents l.fn.writer.inner) (g.W.Write.contents l.writer.inner)
      (flat_map (λ one. one.out) all);
}
