-- What an iteration over matches gives, and how many bytes it hashes, by what each call of `next` may hash.
-- For `taken_in_turn`.
use Rattle.std.proofs.Common.{◌≡◌, ℕ, ◌+◌, ◌-◌, ◌≤◌, List, [], ◌∷◌, length, Option, None, Some, sym, ap, subst, arith}
use Rattle.std.specs.Iterator.{Yields}
use Rattle.literal_base.specs.Counts.{Counts, none_yet}
use Rattle.literal_base.specs.MatchValue.{MatchValue}
use Rattle.literal_base.specs.Query.{Query}
use Rattle.literal_packed.specs.FindIterValue.{FindIterValue, FindsNext}
use Rattle.literal_packed.specs.Spending.{SpendsAtMost}
use Rattle.literal_promise.specs.Together.{IsIteration}

-- no call of `next` counts more than there is between the places where it begins and ends
abbrev IsBounded : Type 0
IsBounded =
    (old new : FindIterValue) (answer : Option MatchValue) → old.at ≤ length old.haystack → FindsNext old answer new
    → SpendsAtMost old.query old.haystack old.at new.at old.counts new.counts

abbrev place : FindIterValue → ℕ
place s = s.at

abbrev haystack_len : FindIterValue → ℕ
haystack_len s = length s.haystack

run_hashes : IsBounded → (s : FindIterValue) (all : List MatchValue) (t u : FindIterValue) → s.at ≤ length s.haystack
    → Yields FindsNext s all t → FindsNext t None u → u.counts.hashed ≤ s.counts.hashed + (length s.haystack - s.at)
run_hashes bounded s [] t u within stays nothing =
    subst (λ (f : FindIterValue). u.counts.hashed ≤ f.counts.hashed + (length f.haystack - f.at)) (sym stays)
    (let inside = subst (λ (f : FindIterValue). f.at ≤ length f.haystack) stays within in
    let step = (bounded t u None inside nothing).hashed in
    omega arith)
run_hashes bounded s (found ∷ more) t u within run nothing =
    let next = run.0 in
    let step = (bounded s next (Some found) within run.1).hashed in
    let place_is : next.at ≡ found.end = ap place run.1.goes_on in
    let same : length next.haystack ≡ length s.haystack = ap haystack_len run.1.goes_on in
    let ends = run.1.leftmost.whole in
    let fits = run.1.leftmost.occurs.before_end in
    let there : next.at ≤ length next.haystack = omega arith in
    let rest = run_hashes bounded next more t u there run.2 nothing in
    omega arith

module _ (query : Query) (haystack : List ℕ) (s : FindIterValue) (all : List MatchValue) (t u : FindIterValue)
    (counts : Counts) (is : counts ≡ u.counts)
    (start : s ≡ record { query = query; haystack = haystack; at = 0; counts = none_yet })
    (run : Yields FindsNext s all t) (nothing : FindsNext t None u) where
  abbrev first : FindIterValue
  first = record { query = query; haystack = haystack; at = 0; counts = none_yet }

  given : Yields FindsNext first all t
  given = subst (λ (f : FindIterValue). Yields FindsNext f all t) start run

  pub iteration_of_run : IsIteration query haystack all counts
  iteration_of_run = record { last = t; ended = u; given = given; none_left = nothing; counted = sym is }

  pub hashed_by_run : IsBounded → counts.hashed ≤ length haystack
  hashed_by_run bounded = subst (λ (n : Counts). n.hashed ≤ length haystack) (sym is)
      (omega (arith, run_hashes bounded first all t u (omega arith) given nothing))
