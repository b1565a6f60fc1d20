-- Bytes that were read, and are partly folded.
use Rattle.std.specs.Prelude.{◌≡◌, ℕ, ◌≤◌, ◌++◌, List, Option, length, nat_lt, slice_range, if◌then◌else◌}
use Rattle.std.specs.Option.{option_map}
use Rattle.literal_folding.specs.Folding.{folded}
use Rattle.literal_folding.specs.declared.block.Block.{Block}
use Rattle.literal_folding.specs.declared.block.TheConstants.{BLOCK}

-- its indices are in order
pub record IsBlock (block : Block) : Type 0 where
  pub given : block.start ≤ block.folded
  pub known : block.folded ≤ block.end
  pub within : block.end ≤ length block.bytes.items
  pub size : length block.bytes.items ≡ BLOCK

-- the folded bytes that are ready to be given
abbrev pub ready : Block → List ℕ
ready block = slice_range block.bytes.items block.start block.folded

-- the bytes that are not folded yet
abbrev pub held : Block → List ℕ
held block = slice_range block.bytes.items block.folded block.end

-- the same, and few bytes are not folded yet
pub record IsSound (block : Block) : Type 0 where
  pub parts : IsBlock block
  pub few : length (held block) ≤ 3

-- the folded bytes that are still to be given, if the unread bytes are known
abbrev pub rest_of : Block → Option (List ℕ) → Option (List ℕ)
rest_of block unread = option_map (λ bytes. ready block ++ folded (held block ++ bytes)) unread

-- the number of bytes of a character after its first one, or 0 for a byte that begins no character
abbrev pub bytes_behind_of : ℕ → ℕ
bytes_behind_of lead =
    if nat_lt lead 0xC0 then 0 else (if nat_lt lead 0xE0 then 1 else (if nat_lt lead 0xF0 then 2 else 3))
