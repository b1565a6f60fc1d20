-- The exit status of the program.
use Rattle.std.specs.Prelude.{ℕ, Bool, true, false, Result, Ok, Err}
use Rattle.litfind.specs.declared.fault.Fault.{Fault}

-- the exit status for the result of a run: 0 if a line was written, 1 if none was, 2 for a fault
abbrev pub status_of : Result Bool Fault → ℕ
status_of (Ok true) = 0
status_of (Ok false) = 1
status_of (Err fault) = 2
