use Rattle.std.proofs.Common.{cond, is_some, ◌≡◌, ◌⊎◌, ◌<◌, ◌+◌, ◌-◌, ◌++◌, ◌^◌, List, ℕ, length}
use Rattle.std.specs.Io.KnownBytes.{Consumes}
use Rattle.literal_pieces.specs.Inside.Stream.{HasReadOn, IsSoundReading, IsWindow, held}
use Rattle.literal_pieces.proofs.window.Window.fill.Given as goal

abbrev pub invariant-loop-self : goal.invariant-loop-self
invariant-loop-self g l = record {
  window : IsWindow l.self;
  room : length l.self.bytes.items ≡ length l.fn.self.bytes.items;
  offset : l.self.offset ≡ l.fn.self.offset;
  piece : List ℕ;
  reads : Consumes (g.R.Read.remaining l.fn.reader) (g.R.Read.remaining l.reader) piece;
  held_is : held l.self ≡ held l.fn.self ++ piece;
  read_on : HasReadOn l.fn.reading piece l.reading;
  needed : (held l.self ≡ held l.fn.self) ⊎ (length (held l.self) < l.enough + l.reading.last);
  sound : IsSoundReading l.reading (g.R.Read.remaining l.reader);
  begins : l.self.passed ≡ 0;
}

abbrev pub decreases-loop-self : goal.decreases-loop-self
decreases-loop-self g l =
    (2 ^ 64 - (l.self.offset + (l.self.end - l.self.start)))
    + cond l.reading.is_whole 0 (cond (is_some l.reading.error) 0 1)
