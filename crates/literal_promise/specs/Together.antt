-- The parameters and answers of the contract that states all guarantees of the bottom layer.
use Rattle.std.specs.Prelude.{◌≡◌, ℕ, Bool, List, None, map}
use Rattle.std.specs.Borrow.{Bor}
use Rattle.std.specs.Iterator.{Yields}
use Rattle.literal_base.specs.Counts.{Counts, none_yet}
use Rattle.literal_base.specs.MatchValue.{MatchValue}
use Rattle.literal_base.specs.Query.{Query}
use Rattle.literal_packed.specs.ConfigValue.{ConfigValue}
use Rattle.literal_packed.specs.FindIterValue.{FindIterValue, FindsNext}
use Rattle.literal_packed.specs.PatternsValue.{PatternsValue, IsInOrder, query_of}
use Rattle.literal_packed.specs.State.{state_of}
use Rattle.literal_prefilters.specs.PrefilterBuilderValue.{PrefilterBuilderValue, prefilter_limit}
use Rattle.literal_prefilters.specs.PrefilterValue.{PrefilterValue, CoveredBy}
use Rattle.literal_promise.specs.declared.SearchRequest.{SearchRequest}

-- the patterns and the match kind that are asked for
abbrev pub asked_query : SearchRequest → Query
asked_query asked = record { kind = asked.kind; patterns = map (λ (p : Bor (List ℕ)). p.now) asked.patterns.now }

-- the configuration that is asked for
abbrev pub asked_config : SearchRequest → ConfigValue
asked_config asked = record { kind = asked.kind; pattern_limit = asked.pattern_limit }

-- the prefilter builder that is asked for, after the patterns were added
abbrev pub asked_builder : SearchRequest → PrefilterBuilderValue
asked_builder asked = record {
  kind = asked.built_for;
  ignore_case = asked.ignore_case;
  state = state_of prefilter_limit (asked_query asked).patterns;
}

-- an iteration over the matches in a haystack gives these before its first None, and has then counted these steps
pub record IsIteration (query : Query) (haystack : List ℕ) (all : List MatchValue) (counts : Counts) : Type 0 where
  pub last : FindIterValue
  pub ended : FindIterValue
  pub given : Yields FindsNext (record { query = query; haystack = haystack; at = 0; counts = none_yet }) all last
  pub none_left : FindsNext last None ended
  pub counted : ended.counts ≡ counts

-- the patterns are in match order, and the prefilter covers them for their match kind, with ASCII case ignored or kept
pub record IsCovered (ignore_case : Bool) (patterns : PatternsValue) (prefilter : PrefilterValue) : Type 0 where
  pub in_order : IsInOrder patterns
  pub covered : CoveredBy prefilter (query_of patterns) ignore_case
