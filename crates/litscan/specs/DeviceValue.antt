-- Readers and writers of lines, as contracts see them.
use Rattle.std.specs.Prelude.{Bool, Option}
use Rattle.std.specs.declared.io.ErrorKind.{ErrorKind}

-- a reader or writer, the kind of the last error of a call, if any, and whether the last write or flush was a
-- successful flush
pub record DeviceValue (D : Type 0) : Type 0 where
  pub inner : D
  pub failure : Option ErrorKind
  pub flushed : Bool
