use Rattle.std.proofs.Common.{Ok, ◌-◌, ◌^◌, map}
use Rattle.std.specs.Iterator.{Yields}
use Rattle.literal_search.specs.Stream.{GivesStreamedCounted, stream_of}
use Rattle.search_promise.proofs.taken_from_stream.Given as goal

-- what was found so far is in the list
abbrev pub invariant-loop-found : goal.invariant-loop-found
invariant-loop-found g l = record {
  run : Yields GivesStreamedCounted (stream_of l.search (g.R.Read.remaining l.fn.reader), l.fn.streamed)
      (map Ok l.matches.items) (l.iteration, l.streamed);
}

abbrev pub decreases-loop-found : goal.decreases-loop-found
decreases-loop-found g l = 2 ^ 64 - l.iteration.offset
