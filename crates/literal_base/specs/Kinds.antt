-- The match kinds of a packed search among all match kinds.
use Rattle.std.specs.Prelude.{Option, Some, None}
use Rattle.literal_base.specs.declared.packed.MatchKind as packed
use Rattle.literal_base.specs.declared.packed.MatchKind.TheVariants as packed_kind
use Rattle.literal_base.specs.declared.search.MatchKind.{MatchKind}
use Rattle.literal_base.specs.declared.search.MatchKind.TheVariants.{Standard, LeftmostFirst, LeftmostLongest}

-- the packed match kind with the same name, or None for `Standard`, which a packed search does not have
abbrev pub packed_kind_of : MatchKind → Option packed.MatchKind
packed_kind_of Standard = None
packed_kind_of LeftmostFirst = Some packed_kind.LeftmostFirst
packed_kind_of LeftmostLongest = Some packed_kind.LeftmostLongest

-- the match kind with the same name as the packed one
abbrev pub root_kind_of : packed.MatchKind → MatchKind
root_kind_of packed_kind.LeftmostFirst = LeftmostFirst
root_kind_of packed_kind.LeftmostLongest = LeftmostLongest
