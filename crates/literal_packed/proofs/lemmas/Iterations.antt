-- A whole iteration, from its start.
-- For the laws on iterations.
use Rattle.std.proofs.Common.{◌≡◌, ◌≤◌, ℕ, false, List, [], ◌∷◌, length, Option, Some, None, IsNone, refl, sym, ap, ◌∙◌}
use Rattle.std.proofs.Common.{subst, arith}
use Rattle.std.specs.Iterator.{Yields}
use Rattle.literal_base.specs.Counts.{none_yet}
use Rattle.literal_base.specs.MatchValue.{MatchValue}
use Rattle.literal_base.specs.Query.{Query}
use Rattle.literal_base.specs.Leftmost.{IsLeftmost}
use Rattle.literal_packed.specs.FindIterValue.{FindIterValue, FindsNext, StandsAtEnd, after_answer}
use Rattle.literal_base.specs.Greedy.{place_after, IsGreedy}
use Rattle.literal_base.specs.Occurs.{rest_from}
use Rattle.literal_packed.specs.Pairs.{counts_after}
use Rattle.literal_packed.specs.Spending.{SpendsAtMost, SpendsWithin, counts_after_all}
use Rattle.literal_base.proofs.lemmas.GreedyLists.{IsGreedyBefore, greedy_all}
use Rattle.literal_packed.proofs.lemmas.Spending.{next_spends, spends_both, spends_within}

-- a search that began at the start of the haystack, with no counts
pub record IsUnderWay (query : Query) (haystack : List ℕ) (now : FindIterValue) : Type 0 where
  pub query_is : now.query ≡ query
  pub haystack_is : now.haystack ≡ haystack
  pub within : now.at ≤ length now.haystack
  pub spends : SpendsAtMost now.query now.haystack 0 now.at none_yet now.counts

place_within : (haystack : List ℕ) (query : Query) (from : ℕ) (answer : Option MatchValue)
    → IsLeftmost query false haystack (rest_from haystack from) answer → place_after haystack answer ≤ length haystack
place_within haystack query from None nothing = omega arith
place_within haystack query from (Some found) leftmost = omega (arith, leftmost.whole, leftmost.occurs.before_end)

pub under_way_next : (query : Query) (haystack : List ℕ) (old new : FindIterValue) (answer : Option MatchValue)
    → IsUnderWay query haystack old → FindsNext old answer new → IsUnderWay query haystack new
under_way_next query haystack old new answer so_far next =
    let there : FindIterValue = after_answer old answer in
    let step = next_spends old there answer so_far.within
    (record { leftmost = next.leftmost; not_empty = next.not_empty; goes_on = refl }) in
    subst (IsUnderWay query haystack) (sym next.goes_on) (record {
      query_is = so_far.query_is;
      haystack_is = so_far.haystack_is;
      within = place_within old.haystack old.query old.at answer next.leftmost;
      spends = spends_both old.query old.haystack 0 old.at there.at none_yet old.counts there.counts so_far.spends step;
    })

-- what the whole run counted
pub run_within : (query : Query) (haystack : List ℕ) (now : FindIterValue) → IsUnderWay query haystack now
    → SpendsWithin query haystack none_yet now.counts
run_within query haystack now run =
    subst (λ (s : Query). SpendsWithin s haystack none_yet now.counts) run.query_is
    (subst (λ h. SpendsWithin now.query h none_yet now.counts) run.haystack_is
    (spends_within now.query now.haystack now.at none_yet now.counts run.spends))

-- and what it counts, step by step
pub counts_of_run : (first last ended : FindIterValue) (all : List MatchValue) → Yields FindsNext first all last
    → FindsNext last None ended → ended.counts ≡ counts_after_all first.counts first.query first.haystack first.at all
counts_of_run first last ended [] stays nothing =
    ap (λ (f : FindIterValue). f.counts) nothing.goes_on
    ∙ ap (λ (f : FindIterValue). counts_after f.counts f.query f.haystack (rest_from f.haystack f.at) None) (sym stays)
counts_of_run first last ended (found ∷ more) run nothing =
    counts_of_run run.0 last ended more run.2 nothing
    ∙ ap (λ (f : FindIterValue). counts_after_all f.counts f.query f.haystack f.at more) run.1.goes_on

-- the matches that the search gave so far are the beginning of the greedy list
pub record IsGathering (query : Query) (haystack : List ℕ) (done : List MatchValue) (now : FindIterValue) : Type 0 where
  pub query_is : now.query ≡ query
  pub haystack_is : now.haystack ≡ haystack
  pub greedy : IsGreedyBefore now.query false now.haystack done now.at

pub gathers_all : (query : Query) (haystack : List ℕ) (done : List MatchValue) (old new : FindIterValue)
    → IsGathering query haystack done old → FindsNext old None new
    → IsGreedy query false haystack 0 done
gathers_all query haystack done old new so_far nothing =
    subst (λ (s : Query). IsGreedy s false haystack 0 done) so_far.query_is
    (subst (λ h. IsGreedy old.query false h 0 done) so_far.haystack_is
    (greedy_all old.query false old.haystack done old.at so_far.greedy nothing.leftmost))

-- a search that stands at the end of the haystack finds nothing
nothing_at_end : (old new : FindIterValue) (found : MatchValue) → StandsAtEnd old
    → FindsNext old (Some found) new → ⊥
nothing_at_end old new found ended finds =
    let some = finds.not_empty in
    let after = finds.leftmost.occurs.after_start in
    let fits = finds.leftmost.occurs.before_end in
    let whole = finds.leftmost.whole in
    omega arith

-- and after a None it stands there
pub at_end_after : (old new : FindIterValue) → FindsNext old None new → StandsAtEnd new
at_end_after old new nothing = subst StandsAtEnd (sym nothing.goes_on) refl

pub none_at_end : (old new : FindIterValue) (answer : Option MatchValue) → StandsAtEnd old → FindsNext old answer new
    → IsNone answer × StandsAtEnd new
none_at_end old new None ended nothing = (refl, at_end_after old new nothing)
none_at_end old new (Some found) ended finds = absurd (nothing_at_end old new found ended finds)
