use Rattle.std.proofs.Common.{◌≡◌, ◌+◌, ◌-◌, ◌^◌, ◌≤◌, cond, length, true}
use Rattle.literal_base.specs.Occurs.{NoneIsEmpty}
use Rattle.literal_pieces.specs.Inside.Rewriting.{HasRewritten}
use Rattle.literal_pieces.specs.Inside.Stream.{AreHeldFrom, IsOpen, IsSearchIn, IsSoundStream, held, kept_back}
use Rattle.literal_pieces.specs.Inside.Sought.{margin_of, reach_of, search_of}
use Rattle.literal_pieces.proofs.replace_stream.rewrite.Given as goal

abbrev pub invariant-loop-is_over : goal.invariant-loop-is_over
invariant-loop-is_over g l = record {
  sound : IsSoundStream (reach_of l.fn.sought) l.window l.reading (g.R.Read.remaining l.reader);
  held_from : AreHeldFrom (margin_of l.fn.sought) l.at l.window;
  search : IsSearchIn l.fn.sought l.window l.reading l.at l.ahead;
  rewritten : HasRewritten g.W.Write.contents (goal.F-step g) l.fn.sought l.reading.is_whole l.at (held l.window)
      (g.R.Read.remaining l.fn.reader) (g.R.Read.remaining l.reader) l.fn.replace (g.W.Write.contents l.fn.writer)
      l.replace (g.W.Write.contents l.writer);
  callable : goal.F-IsAlwaysCallable g l.replace;
  over : l.is_over ≡ true → ¬ IsOpen l.reading
      × (l.window.offset + length (held l.window) ≤ l.at + kept_back (reach_of l.fn.sought) l.reading.is_whole)
      × NoneIsEmpty (search_of l.fn.sought).query.patterns;
}

abbrev pub decreases-loop-is_over : goal.decreases-loop-is_over
decreases-loop-is_over g l = (2 ^ 64 - l.at) + cond l.is_over 0 1
