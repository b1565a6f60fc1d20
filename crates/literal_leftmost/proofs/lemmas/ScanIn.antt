-- The scan that the numbers of a search describe.
use Rattle.std.proofs.Common.{◌≡◌, ℕ, ◌<◌, ◌≤◌, List, MatchOption, None, Option, Some, arith, subst, sym}
use Rattle.literal_base.specs.declared.search.Span.{Span}
use Rattle.literal_rows.specs.Arrays.{IsPairScan}
use Rattle.literal_leftmost.specs.declared.leftmost.Progress.{Progress}
use Rattle.literal_fingerprints.specs.declared.candidates.CandidateScan.{CandidateScan}
use Rattle.literal_leftmost.specs.Inside.Leftmost.{AreFor, IsProgress, owed_by, owed_in}
use Rattle.literal_leftmost.specs.Prepared.{past_skipped, scan_by}
use Rattle.literal_leftmost.specs.declared.backward.Backward.{Backward}

-- its scan is for its patterns
pub for_scan : (b : Backward) (scan : Option CandidateScan) → MatchOption scan (past_skipped b.prints.now ≡ 0)
    (λ s. (0 < past_skipped b.prints.now) × (s ≡ scan_by b.prints.now)) → AreFor b scan
for_scan b None is = λ search are. tt
for_scan b (Some s) is = λ search are. grind (arith, is, are.prints)

-- what is owed at the start is what its scan may owe
pub owed_is : (prints : List ℕ) (scan : Option CandidateScan) → MatchOption scan (past_skipped prints ≡ 0)
    (λ s. (0 < past_skipped prints) × (s ≡ scan_by prints)) → owed_in prints ≡ owed_by scan
owed_is prints None is = grind (arith, is)
owed_is prints (Some s) is = grind (arith, is.0)

-- a progress with fewer owed bytes is one with more
owing : (b : Backward) (span : Span) (less owed base now : ℕ) (f : Progress) → less ≤ owed
    → IsProgress b span less base now f → IsProgress b span owed base now f
owing b span less owed base now f few is = record {
  after = is.after;
  inside = is.inside;
  some = is.some;
  long = is.long;
  near = is.near;
  least = is.least;
  most = omega (arith, is.most, few);
}

-- the progress after a pass by its scan, or by its rare pair
pub by_scan : (b : Backward) (span : Span) (scan : Option CandidateScan) → MatchOption scan
    (past_skipped b.prints.now ≡ 0) (λ s. (0 < past_skipped b.prints.now) × (s ≡ scan_by b.prints.now))
    → (base now : ℕ) (f : Progress) → IsProgress b span (owed_by scan) base now f
    → IsProgress b span (owed_in b.prints.now) base now f
by_scan b span scan is base now f =
    subst (λ n. IsProgress b span n base now f) (sym (owed_is b.prints.now scan is))

pub by_pair : (b : Backward) (span : Span) (A : Type 0) (scan : Option CandidateScan) → MatchOption scan A
    (IsPairScan b.prints.now) → (base now : ℕ) (f : Progress) → IsProgress b span (owed_by scan) base now f
    → IsProgress b span (owed_in b.prints.now) base now f
by_pair b span A None is base now f = owing b span 0 (owed_in b.prints.now) base now f (omega arith)
by_pair b span A (Some s) is base now f =
    owing b span 19 (owed_in b.prints.now) base now f (grind (arith, is.some))
