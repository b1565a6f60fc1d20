-- Readers and writers of bytes, as contracts see them.
use Rattle.std.specs.Prelude.{ℕ, Bool, false, List, length, nat_lt, nat_eq, ◌&&◌, Result, Ok, Err}

-- a reader or writer, whether a call of it has failed, whether a read of it has found its end, and whether the last
-- write or flush was a successful flush
pub record Device (T : Type 0) : Type 0 where
  pub inner : T
  pub has_failed : Bool
  pub has_ended : Bool
  pub is_flushed : Bool

-- a device of which no call has been made
abbrev pub device_of : {T : Type 0} → T → Device T
device_of inner = record { inner = inner; has_failed = false; has_ended = false; is_flushed = false }

-- whether a read into a buffer with room returned no byte
abbrev pub gave_nothing : {E : Type 0} → Result ℕ E → List ℕ → Bool
gave_nothing (Ok n) buf = nat_eq n 0 && nat_lt 0 (length buf)
gave_nothing (Err e) buf = false
