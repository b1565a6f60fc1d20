-- The fields of an `Overlapping`.
use Rattle.std.specs.Prelude.{map}
use Rattle.literal_search.specs.Overlapping.{OverlappingValue}
use Rattle.literal_occurrences.specs.Inside.LentTables.{AreListed}
use Rattle.literal_search.specs.declared.overlapping.Parts.{Parts}

-- an `Overlapping` as callers see it
abbrev pub overlapping_of : Parts → OverlappingValue
overlapping_of p =
    record { patterns = map (λ pattern. pattern.items) p.patterns.items; ignore_case = p.ignore_case }

-- the fields hold the numbers of the search
abbrev pub AreParts : Parts → Type 0
AreParts p = AreListed (overlapping_of p) p.numbers
