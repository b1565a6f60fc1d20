-- The task of a run, by its arguments.
use Rattle.std.specs.Prelude.{◌≡◌, ℕ, Bool, true, false, List, [], ◌∷◌, Option, Some, None, codes, if◌then◌else◌}
use Rattle.std.specs.Str.{bytes_eq}
use Rattle.literal_base.specs.declared.packed.MatchKind.TheVariants.{LeftmostFirst, LeftmostLongest}
use Rattle.literal_base.specs.Query.{Query}
use Rattle.literal_packed.specs.BuilderValue.{BuilderValue, builder_of, searcher_of}
use Rattle.literal_packed.specs.ConfigValue.{default_config}
use Rattle.literal_prefilters.specs.ConfirmingValue.{confirming_of, prefilter_builder}

-- a task: to find all matches of some patterns, or the leftmost one, with ASCII case ignored or not
pub data Task : Type 0 where
  all_matches : Query → Task
  leftmost_match : Query → Bool → Task

-- the task of a mode of this name with some patterns, and None if the name is unknown
abbrev pub mode_asks : List ℕ → List (List ℕ) → Option Task
mode_asks name patterns =
    let first : Query = record { kind = LeftmostFirst; patterns = patterns } in
    let longest : Query = record { kind = LeftmostLongest; patterns = patterns } in
    if bytes_eq name (codes "first") then Some (all_matches first)
    else if bytes_eq name (codes "longest") then Some (all_matches longest)
    else if bytes_eq name (codes "confirm-first") then Some (leftmost_match first false)
    else if bytes_eq name (codes "confirm-longest") then Some (leftmost_match longest false)
    else if bytes_eq name (codes "nocase-first") then Some (leftmost_match first true)
    else if bytes_eq name (codes "nocase-longest") then Some (leftmost_match longest true)
    else None

-- the task of the arguments. They have to be the name of a mode and at least one pattern; otherwise it is None
abbrev pub words_ask : List (List ℕ) → Option Task
words_ask [] = None
words_ask (mode ∷ []) = None
words_ask (mode ∷ (first ∷ more)) = mode_asks mode (first ∷ more)

-- the builder to which the patterns of a query were added
abbrev pub builder_for : Query → BuilderValue
builder_for query = builder_of (record default_config { kind = query.kind }) query.patterns

-- there is no searcher for this task: a packed search or a confirming one cannot be built
abbrev pub IsUnbuildable : Task → Type 0
IsUnbuildable (all_matches query) = searcher_of (builder_for query) ≡ None
IsUnbuildable (leftmost_match query ignore_case) =
    confirming_of query.kind (prefilter_builder query.kind ignore_case query.patterns) ≡ None

-- the arguments have a task, and there is no searcher for it
pub record AreUnbuildable (words : List (List ℕ)) : Type 0 where
  pub asked : Task
  pub ask : words_ask words ≡ Some asked
  pub none : IsUnbuildable asked
