-- How common each byte is.
use Rattle.std.specs.Prelude.{ℕ, slice_index}
use Rattle.literal_base.specs.declared.byte_frequencies.TheConstants.{BYTE_FREQUENCIES}

-- the rank of a byte in the table `BYTE_FREQUENCIES`. A higher rank means a more common byte
unfoldable pub rank_of : ℕ → ℕ
rank_of byte = slice_index BYTE_FREQUENCIES byte
