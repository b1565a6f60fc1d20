use Rattle.std.proofs.Common.{◌-◌, ◌^◌, ◌≤◌, false}
use Rattle.literal_pieces.specs.OverlappingStream.{ScansOnce}
use Rattle.literal_pieces.specs.Inside.OverlappingStream.{HasCome, IsSoundPlace, overlapping_stream}
use Rattle.literal_pieces.specs.Inside.Stream.{IsSoundStream}
use Rattle.literal_pieces.proofs.overlapping_stream.next_occurrence.Given as goal

abbrev pub invariant-loop-found : goal.invariant-loop-found
invariant-loop-found g l = record {
  stream : IsSoundStream 0 l.window l.reading (g.R.Read.remaining l.reader);
  place : IsSoundPlace l.automaton l.window.offset l.place;
  come : HasCome
      (overlapping_stream l.automaton l.initial.place l.initial.window l.initial.reading
      (g.R.Read.remaining l.initial.reader) false)
      (overlapping_stream l.automaton l.place l.window l.reading (g.R.Read.remaining l.reader) false);
  counted : ScansOnce l.initial.window.offset l.window.offset l.initial.tally l.tally;
  later : l.initial.window.offset ≤ l.window.offset;
}

abbrev pub decreases-loop-found : goal.decreases-loop-found
decreases-loop-found g l = 2 ^ 64 - l.window.offset
