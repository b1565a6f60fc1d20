-- The answer of a prefilter.
use Rattle.std.specs.Prelude.{ℕ, Option, None, Some}
use Rattle.literal_base.specs.MatchValue.{MatchValue}
use Rattle.literal_prefilters.specs.declared.prefilter.Candidate.{Candidate}
use Rattle.literal_prefilters.specs.declared.prefilter.Candidate.TheVariants as candidate

-- the start of the match or of the possible match
abbrev pub start_of : Candidate → Option ℕ
start_of candidate.None = None
start_of (candidate.Match found) = Some found.start
start_of (candidate.PossibleStartOfMatch start) = Some start

-- the answer of a prefilter by a table: a possible start, or nothing
abbrev pub candidate_of : Option ℕ → Candidate
candidate_of None = candidate.None
candidate_of (Some start) = candidate.PossibleStartOfMatch start

-- the match of an answer, if it is one
abbrev pub answered_match : Candidate → Option MatchValue
answered_match candidate.None = None
answered_match (candidate.Match found) = Some found
answered_match (candidate.PossibleStartOfMatch start) = None
