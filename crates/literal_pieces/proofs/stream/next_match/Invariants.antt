use Rattle.std.proofs.Common.{◌-◌, ◌^◌, false}
use Rattle.literal_pieces.specs.Inside.Sought.{Begins, IsFirst, margin_of, reach_of}
use Rattle.literal_pieces.specs.Inside.Stream.{AreHeldFrom, HasGoneOn, IsSearchIn, IsSoundStream, looked_so_far}
use Rattle.literal_pieces.specs.Inside.Stream.{stream_value}
use Rattle.literal_pieces.specs.Stream.{ScansMore}
use Rattle.literal_pieces.proofs.stream.next_match.Given as goal

abbrev pub invariant-loop-found : goal.invariant-loop-found
invariant-loop-found g l = record {
  sound : IsSoundStream (reach_of l.fn.sought) l.window l.reading (g.R.Read.remaining l.reader);
  held : AreHeldFrom (margin_of l.fn.sought) l.at l.window;
  search : IsSearchIn l.fn.sought l.window l.reading l.at l.ahead;
  gone : HasGoneOn (IsFirst l.fn.sought) (Begins l.fn.sought) (margin_of l.fn.sought)
      (stream_value l.fn.sought l.initial.window l.initial.at l.initial.ahead l.initial.reading
      (g.R.Read.remaining l.initial.reader) false)
      (stream_value l.fn.sought l.window l.at l.ahead l.reading (g.R.Read.remaining l.reader) false);
  scans : ScansMore (looked_so_far l.fn.sought l.initial.window l.initial.at l.initial.ahead)
      (looked_so_far l.fn.sought l.window l.at l.ahead) l.initial.tally l.tally;
}

abbrev pub decreases-loop-found : goal.decreases-loop-found
decreases-loop-found g l = 2 ^ 64 - l.at
