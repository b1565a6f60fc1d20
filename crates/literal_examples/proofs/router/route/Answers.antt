use Rattle.std.proofs.Common.{◌≡◌, ◌<◌, ℕ, Bool, List, Some, arith, inl, inr, length, subst, sym}
use Rattle.std.proofs.lemmas.Bool.{cases_lt}
use Rattle.literal_base.specs.Leftmost.{IsBetter}
use Rattle.literal_base.specs.MatchValue.{MatchValue}
use Rattle.literal_base.specs.Occurs.{Occurs, StandsAt, pattern_at, rest_from}
use Rattle.literal_base.specs.Query.{Query}
use Rattle.literal_base.specs.declared.packed.MatchKind.TheVariants.{LeftmostLongest}
use Rattle.literal_search.specs.At.{IsMatchAt}
use Rattle.literal_examples.specs.Routes.{IsLongestPrefix}
use Rattle.literal_examples.proofs.router.route.Goals as goal

-- what stands at the beginning of a path occurs there
stands_occurs : (patterns : List (List ℕ)) (ignore_case : Bool) (path : List ℕ) (i : ℕ) → i < length patterns
    → StandsAt ignore_case (pattern_at patterns i) path 0 → Occurs patterns ignore_case path (rest_from path 0) i 0
stands_occurs patterns ignore_case path i below stands = record {
  is_pattern = below;
  after_start = omega arith;
  before_end = stands.fits;
  same = stands.same;
}

longest_prefix : (query : Query) (ignore_case : Bool) (path : List ℕ) (found : MatchValue)
    → query.kind ≡ LeftmostLongest → IsMatchAt query ignore_case path 0 (Some found)
    → IsLongestPrefix query.patterns ignore_case path found.pattern
longest_prefix query ignore_case path found kind is =
    let patterns = query.patterns in
    let here = subst (λ at. Occurs patterns ignore_case path (rest_from path 0) found.pattern at) is.0 is.1.occurs in
    record {
      is_prefix = here.is_pattern;
      begins = record { fits = here.before_end; same = here.same };
      longest = λ j below stands.
          elim (cases_lt (length (pattern_at patterns found.pattern)) (length (pattern_at patterns j))) [
            | inl longer ↦ absurd (is.1.best j
                (subst (λ k. IsBetter k patterns j found.pattern) (sym kind) (inl longer))
                (subst (λ at. Occurs patterns ignore_case path (rest_from path 0) j at) (sym is.0)
                (stands_occurs patterns ignore_case path j below stands)))
            | inr not ↦ omega arith
          ];
    }

pub returns : goal.returns
returns c =
    let search = c.args.prefixes.now in
    subst (IsLongestPrefix search.query.patterns search.ignore_case c.args.path.now) (sym c.pattern.ensures)
    (longest_prefix search.query search.ignore_case c.args.path.now c.in_ok-found.found c.requires
    c.in_ok-found.ensures.at)
