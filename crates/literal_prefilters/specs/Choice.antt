-- The prefilter that is built for a list of patterns.
use Rattle.std.specs.Prelude.{◌≡◌, ◌==◌, ⊤, ℕ, ◌+◌, ◌||◌, ◌&&◌, not, Bool, false, List, length, Option, None, Some}
use Rattle.std.specs.Prelude.{is_some, option_map, nat_lt, nat_le, if◌then◌else◌}
use Rattle.std.specs.Option.{option_or}
use Rattle.literal_base.specs.declared.search.MatchKind as root
use Rattle.literal_base.specs.declared.search.MatchKind.TheVariants as root_kind
use Rattle.literal_base.specs.declared.packed.MatchKind.{MatchKind}
use Rattle.literal_base.specs.declared.packed.MatchKind.TheVariants.{LeftmostFirst, LeftmostLongest}
use Rattle.literal_base.specs.Kinds.{packed_kind_of}
use Rattle.literal_base.specs.Occurs.{pattern_at}
use Rattle.literal_packed.specs.PatternsValue.{minimum_len_of}
use Rattle.literal_packed.specs.State.{kept_of}
use Rattle.literal_prefilters.specs.PrefilterBuilderValue.{PrefilterBuilderValue}
use Rattle.literal_prefilters.specs.PrefilterValue.{PrefilterValue, by_table, by_memmem, by_packed, CoveredBy}
use Rattle.literal_prefilters.specs.Table.{size, rank_sum_of}
use Rattle.literal_prefilters.specs.Tables.{start_table, rare_table}

-- case is kept, and there is one pattern
abbrev pub is_one_pattern : PrefilterBuilderValue → Bool
is_one_pattern b = not b.ignore_case && length (kept_of b.state) == 1

-- a packed search finds just the wanted matches: case is kept, and the match kind is a leftmost one
abbrev pub suits_packed : PrefilterBuilderValue → Bool
suits_packed b = not b.ignore_case && is_some (packed_kind_of b.kind)

-- the packed search for the builder's match kind and patterns
abbrev pub packed_search : PrefilterBuilderValue → Option PrefilterValue
packed_search b =
    option_map (λ kind. by_packed (record { kind = kind; patterns = kept_of b.state })) (packed_kind_of b.kind)

-- there is a table, and each of the tables has three bytes
abbrev pub are_full : Option (List (Option ℕ)) → Option (List (Option ℕ)) → Bool
are_full None None = false
are_full (Some start) None = size start == 3
are_full None (Some rare) = size rare == 3
are_full (Some start) (Some rare) = size start == 3 && size rare == 3

-- a packed search suits, there are at most 16 patterns, none shorter than two bytes, and full tables
abbrev pub is_short_list : PrefilterBuilderValue → Option (List (Option ℕ)) → Option (List (Option ℕ)) → Bool
is_short_list b start rare =
    suits_packed b
    && (nat_le (length (kept_of b.state)) 16 && nat_le 2 (minimum_len_of (kept_of b.state)))
    && are_full start rare

-- there are both tables, and the start table has fewer bytes
abbrev pub has_fewer_start_bytes : Option (List (Option ℕ)) → Option (List (Option ℕ)) → Bool
has_fewer_start_bytes (Some start) (Some rare) = nat_lt (size start) (size rare)
has_fewer_start_bytes _ _ = false

-- there are both tables, and the ranks of the start bytes add up to at most 50 more than those of the rare bytes
abbrev pub is_start_nearly_as_rare : Option (List (Option ℕ)) → Option (List (Option ℕ)) → Bool
is_start_nearly_as_rare (Some start) (Some rare) = nat_le (rank_sum_of start) (rank_sum_of rare + 50)
is_start_nearly_as_rare _ _ = false

-- a packed search suits, and there are at most 128 patterns
abbrev pub is_last_resort : PrefilterBuilderValue → Bool
is_last_resort b = suits_packed b && nat_le (length (kept_of b.state)) 128

-- the prefilter that is built, if one is. The first rule that applies decides: no pattern (the builder is empty or
-- disabled): none. One pattern: that one. A short list: the packed search. Fewer start bytes: the start table. Start
-- nearly as rare: the start table. Both tables: the rare one. One table: that one. A packed search as the last resort:
-- the packed search. Otherwise none
abbrev pub pick : PrefilterBuilderValue → Option PrefilterValue
pick b =
    let patterns = kept_of b.state in
    let start = start_table b.ignore_case patterns in
    let rare = rare_table b.ignore_case patterns in
    if length patterns == 0 then None
    else if is_one_pattern b then Some (by_memmem (pattern_at patterns 0))
    else if is_short_list b start rare then packed_search b
    else if has_fewer_start_bytes start rare then option_map by_table start
    else if is_start_nearly_as_rare start rare then option_map by_table start
    else if is_some start && is_some rare then option_map by_table rare
    else if is_some start || is_some rare then option_map by_table (option_or start rare)
    else if is_last_resort b then packed_search b
    else None

-- a prefilter built for one match kind may be used for a search with another: the same kind, and both leftmost kinds if
-- it was built for standard semantics
abbrev pub Serves : root.MatchKind → MatchKind → Type 0
Serves root_kind.Standard kind = ⊤
Serves root_kind.LeftmostFirst kind = kind ≡ LeftmostFirst
Serves root_kind.LeftmostLongest kind = kind ≡ LeftmostLongest

-- the prefilter covers the patterns of the builder, for each match kind that it serves
abbrev pub IsBuiltFor : PrefilterBuilderValue → PrefilterValue → Type 0
IsBuiltFor b built =
    (kind : MatchKind) → Serves b.kind kind → CoveredBy built
    (record { kind = kind; patterns = kept_of b.state }) b.ignore_case
