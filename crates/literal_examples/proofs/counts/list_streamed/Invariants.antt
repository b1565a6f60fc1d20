use Rattle.std.proofs.Common.{Ok, Some, map}
use Rattle.std.specs.Iterator.{Yields}
use Rattle.literal_search.specs.Stream.{GivesStreamed, stream_of}
use Rattle.literal_examples.proofs.counts.list_streamed.Given as goal

abbrev pub invariant-loop-found : goal.invariant-loop-found
invariant-loop-found l = record {
  run : Yields GivesStreamed (stream_of l.search (Some l.text)) (map Ok l.all.items) l.found-iterator;
}
