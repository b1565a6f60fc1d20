-- The bytes that an iteration looks up.
use Rattle.std.specs.Prelude.{◌≡◌, ℕ, ◌+◌, ◌-◌, ◌≤◌}
use Rattle.literal_base.specs.Counts.{Counts}
use Rattle.literal_base.specs.declared.search.Span.{Span}
use Rattle.literal_leftmost.specs.SearchValue.{most_scanned}

-- an iteration has looked up at least and at most so many bytes so far
pub record LookUps : Type 0 where
  pub least : ℕ
  pub most : ℕ

-- none so far
abbrev pub no_look_ups : LookUps
no_look_ups = record { least = 0; most = 0 }

-- the bytes that a call of an iteration scans: as many as its bounds grow
pub record ScansNext (before after : LookUps) (old new : Counts) : Type 0 where
  pub others : new ≡ record old { scanned = new.scanned }
  pub least : old.scanned + after.least ≤ new.scanned + before.least
  pub most : new.scanned + before.most ≤ old.scanned + after.most

-- the bounds of an iteration that continues at an offset: each byte before it was looked up, at least, and at most so
-- many as a list of the whole span may look up
pub record LooksOn (longest : ℕ) (span : Span) (at : ℕ) (before after : LookUps) : Type 0 where
  pub least_grows : before.least ≤ after.least
  pub most_grows : before.most ≤ after.most
  pub looked : at ≤ span.start + after.least
  pub inside : after.least ≤ span.end - span.start
  pub few : after.most ≤ most_scanned longest (span.end - span.start)

-- the bytes that the rest of an iteration scans at most, also if it ends with an error
pub record ScansRest (longest : ℕ) (span : Span) (before : LookUps) (old new : Counts) : Type 0 where
  pub others : new ≡ record old { scanned = new.scanned }
  pub most : new.scanned + before.most ≤ old.scanned + most_scanned longest (span.end - span.start)
