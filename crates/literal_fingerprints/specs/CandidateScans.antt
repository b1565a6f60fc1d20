-- Scans that stop where a pattern may begin.
use Rattle.std.specs.Prelude.{ℕ, ◌+◌, ◌-◌, ◌<◌, Bool, IfSome, List, MatchOption, None, Option, Some, drop}
use Rattle.std.specs.Prelude.{map, min}
use Rattle.literal_base.specs.declared.search.Span.{Span}
use Rattle.literal_base.specs.Occurs.{Occurs, between}
use Rattle.literal_fingerprints.specs.FingerprintsValue.{AllPass, FingerprintsMayStop}
use Rattle.literal_fingerprints.specs.RarePairs.{AreOf, PairMayStop}
use Rattle.literal_fingerprints.specs.ShortPatterns.{IsOnly}
use Rattle.literal_fingerprints.specs.declared.candidates.CandidateScan.{CandidateScan}
use Rattle.literal_fingerprints.specs.declared.pair.RarePair.{RarePair}

-- the patterns without their first n bytes
abbrev pub without_first : ℕ → List (List ℕ) → List (List ℕ)
without_first n patterns = map (drop n) patterns

-- a scan stops wherever a text begins with one of the patterns. After the skipped bytes, each pattern has the pair or,
-- without a pair, passes the fingerprints
abbrev pub StopsAtEach : CandidateScan → Bool → List (List ℕ) → Type 0
StopsAtEach scan ignore_case patterns =
    MatchOption scan.pair (AllPass scan.fingerprints ignore_case (without_first scan.skipped patterns))
    (λ pair. AreOf pair ignore_case (without_first scan.skipped patterns))

-- the scan stops at each of the patterns, and the short one is the only pattern, if there is one
abbrev pub IsScanFor : CandidateScan → Bool → List (List ℕ) → Type 0
IsScanFor scan ignore_case patterns =
    StopsAtEach scan ignore_case patterns × IfSome scan.short (λ short. IsOnly short ignore_case patterns)

-- no pattern at which the scan stops begins before the offset and lies whole in the span
abbrev pub NoneBeginsBefore : CandidateScan → List ℕ → Span → ℕ → Type 0
NoneBeginsBefore scan haystack span place =
    (patterns : List (List ℕ)) (ignore_case : Bool) → StopsAtEach scan ignore_case patterns → (i at : ℕ) → at < place
    → ¬ Occurs patterns ignore_case haystack span i at

-- the number of bytes of a span that are skipped
abbrev pub skipped_in : CandidateScan → Span → ℕ
skipped_in scan span = min scan.skipped (span.end - span.start)

-- an offset at which a scan of the span may stop: after the skipped bytes, the pair may stop there, or the fingerprints
-- if there is no pair
abbrev pub MayStop : CandidateScan → List ℕ → Span → ℕ → Type 0
MayStop scan haystack span place =
    let n = skipped_in scan span in
    let rest = between (span.start + n) span.end in
    MatchOption scan.pair (FingerprintsMayStop scan.fingerprints haystack rest (place + n))
    (λ pair. PairMayStop pair haystack rest (place + n))

-- the most bytes that a scan by a pair, or by fingerprints, reads after the offset at which it stops
abbrev pub ahead_by_pair : Option RarePair → ℕ
ahead_by_pair None = 35
ahead_by_pair (Some pair) = 37

-- the most bytes that a scan reads after the offset at which it stops
abbrev pub ahead_of : CandidateScan → ℕ
ahead_of scan = ahead_by_pair scan.pair
