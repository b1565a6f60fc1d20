use Rattle.std.proofs.Common.{IsCharBoundary, string_bytes}
use Rattle.literal_search.proofs.lemmas.Replaced.{IsWrittenTo}
use Rattle.literal_search.proofs.search.Search.replace_all_str.Given as goal

abbrev pub invariant-loop-found : goal.invariant-loop-found
invariant-loop-found l = record {
  written : IsWrittenTo l.self l.haystack l.replacements l.found-iterator l.at
      (string_bytes l.text) l.yielded;
  between : IsCharBoundary l.haystack l.at;
}
