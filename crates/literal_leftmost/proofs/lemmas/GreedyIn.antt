-- The list of all matches of a span, taken from the left.
use Rattle.std.proofs.Common.{ℕ, ◌≤◌, List, arith, Bool, length, IfOk}
use Rattle.std.proofs.Common.{OnErr, Result}
use Rattle.std.specs.Global.{Vec}
use Rattle.std.specs.declared.alloc.AllocError.{AllocError}
use Rattle.literal_base.specs.declared.search.Span.{Span}
use Rattle.literal_base.specs.Greedy.{IsGreedy, IsGreedyIn}
use Rattle.literal_base.specs.Leftmost.{IsLeftmostMatch}
use Rattle.literal_base.specs.MatchValue.{MatchValue}
use Rattle.literal_base.specs.Occurs.{NothingOccurs, between}
use Rattle.literal_base.specs.Query.{Query}
use Rattle.literal_leftmost.specs.SearchValue.{SearchValue}

-- what holds, holds at an Err
pub on_err : {T E : Type 0} (r : Result T E) (Q : Type 0) → Q → OnErr r Q
on_err r Q holds = grind arith

-- so the list of the whole haystack is that of its span
pub greedy_whole : (query : Query) (ignore_case : Bool) (haystack : List ℕ)
    (result : Result (Vec MatchValue) AllocError)
    → IfOk result (λ all. IsGreedyIn query ignore_case haystack (between 0 (length haystack)) all.items)
    → IfOk result (λ all. IsGreedy query ignore_case haystack 0 all.items)
greedy_whole query ignore_case haystack result greedy = greedy

module _ (search : SearchValue) (haystack : List ℕ) where
  module _ (span : Span) where
    pub leftmost_occurs : (at : ℕ) (found : MatchValue) → span.start ≤ at
        → IsLeftmostMatch search.query search.ignore_case haystack (between at span.end) found
        → ¬ NothingOccurs search.query.patterns search.ignore_case haystack span
    leftmost_occurs at found after leftmost nothing = grind arith
