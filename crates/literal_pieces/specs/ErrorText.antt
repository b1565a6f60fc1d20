-- The messages of errors.
use Rattle.std.specs.Prelude.{ℕ, List, codes}
use Rattle.literal_pieces.specs.declared.replace_stream.ReplaceStreamError.{ReplaceStreamError}
use Rattle.literal_pieces.specs.declared.replace_stream.ReplaceStreamError.TheVariants as stream

-- the message that says why a text is not read and written with its matches replaced
abbrev pub replace_stream_error_text : ReplaceStreamError → List ℕ
replace_stream_error_text stream.NotOneForEach = codes "there is not one replacement for each pattern"
replace_stream_error_text stream.OutOfMemory = codes "out of memory"
replace_stream_error_text (stream.ReadFailed error) = codes "the text could not be read"
replace_stream_error_text (stream.WriteFailed error) = codes "the text could not be written"
