-- What a confirming search is made from.
-- For `Strategy::of` and `Strategy::by_table`.
use Rattle.std.proofs.Common.{◌≡◌, ℕ, false, List, [], ◌∷◌, refl, sym}
use Rattle.literal_base.specs.declared.packed.MatchKind.{MatchKind}
use Rattle.literal_base.specs.declared.packed.MatchKind.TheVariants.{LeftmostFirst, LeftmostLongest}
use Rattle.literal_base.specs.Kinds.{root_kind_of}
use Rattle.literal_base.specs.Query.{Query}
use Rattle.literal_packed.specs.State.{kept_of}
use Rattle.literal_prefilters.specs.Choice.{IsBuiltFor, Serves}
use Rattle.literal_prefilters.specs.ConfirmingValue.{confirming_by}
use Rattle.literal_prefilters.specs.PrefilterBuilderValue.{PrefilterBuilderValue}
use Rattle.literal_prefilters.specs.PrefilterValue.{PrefilterValue, CoveredBy, by_memmem, by_packed}

serves_itself : (kind : MatchKind) → Serves (root_kind_of kind) kind
serves_itself LeftmostFirst = refl
serves_itself LeftmostLongest = refl

module _ (kind : MatchKind) (b : PrefilterBuilderValue) (is_kind : b.kind ≡ root_kind_of kind) where
  -- the prefilter covers what is searched for
  pub covers_search : (built : PrefilterValue) → IsBuiltFor b built
      → CoveredBy built (record { kind = kind; patterns = kept_of b.state }) b.ignore_case
  covers_search built serves = serves kind (rw is_kind (serves_itself kind))

  -- a search for one pattern, as the prefilter knows it
  pub searches_by_memmem : (pattern : List ℕ) → IsBuiltFor b (by_memmem pattern) → record {
    query = record { kind = kind; patterns = pattern ∷ [] };
    ignore_case = false;
    prefilter = by_memmem pattern;
  } ≡ confirming_by kind b (by_memmem pattern)
  searches_by_memmem pattern serves =
      let covered = covers_search (by_memmem pattern) serves in
      rw (covered.patterns, covered.case_kept) refl

  -- a packed search, as the prefilter knows it
  pub searches_by_packed : (query : Query) → IsBuiltFor b (by_packed query)
      → record { query = query; ignore_case = false; prefilter = by_packed query }
      ≡ confirming_by kind b (by_packed query)
  searches_by_packed query serves =
      let covered = covers_search (by_packed query) serves in
      rw (sym covered.same, covered.case_kept) refl
