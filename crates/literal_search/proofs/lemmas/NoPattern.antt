-- The numbers of a search for no pattern.
use Rattle.std.proofs.Common.{ℕ, List, ◌≡◌, Bool, Some, [], ◌∷◌, arith, refl, subst, sym}
use Rattle.std.specs.List.{repeat}
use Rattle.literal_base.specs.declared.packed.MatchKind.{MatchKind}
use Rattle.literal_base.specs.declared.packed.MatchKind.TheVariants.{LeftmostFirst, LeftmostLongest}
use Rattle.literal_rows.specs.Links.{AreLinks}
use Rattle.literal_rows.specs.Inside.Classes.{AreClasses}
use Rattle.literal_rows.specs.Inside.Kept.{numbers_kept}
use Rattle.literal_occurrences.specs.Inside.LentTables.{AreListed}
use Rattle.literal_rows.specs.Inside.Arrays.{numbers_for}
use Rattle.literal_rows.specs.Inside.Rows.{packed_classes}
use Rattle.literal_search.specs.Inside.Search.{AreKept}
use Rattle.literal_search.specs.Prepared.{check_of}
use Rattle.literal_search.specs.SearchValue.{CanBeKept, NeedFewStates, search_by}
use Rattle.literal_rows.specs.States.{HasTooManyStates}
use Rattle.literal_rows.specs.Table.{nothing}
use Rattle.literal_rows.specs.declared.array.TheConstants.{NO_LISTED, NO_PATTERN, NO_PATTERN_LONGEST}
use Rattle.literal_rows.specs.declared.array.TheConstants.{OVERLAPPING_VERSION, PREPARED_VERSION, SCAN_LEN}
use Rattle.literal_search.proofs.lemmas.BackTables.{kept_all}
use Rattle.literal_occurrences.proofs.lemmas.LentTables.{listed_all}
use Rattle.literal_rows.proofs.lemmas.Rows.{none_few, none_long, none_recognised, one_class, zeros_classes}

-- they are those that would be written
first_written : NO_PATTERN ≡ numbers_for PREPARED_VERSION 0 (repeat 256 (0 ∷ [])) 1 [] (0 ∷ nothing ∷ []) []
    (repeat SCAN_LEN (0 ∷ []))
unfolding check_of packed_classes
first_written = refl

longest_written : NO_PATTERN_LONGEST ≡ numbers_for PREPARED_VERSION 1 (repeat 256 (0 ∷ [])) 1 [] (0 ∷ nothing ∷ []) []
    (repeat SCAN_LEN (0 ∷ []))
unfolding check_of packed_classes
longest_written = refl

listed_written : NO_LISTED ≡ numbers_for OVERLAPPING_VERSION 0 (repeat 256 (0 ∷ [])) 1 [] (0 ∷ nothing ∷ []) (0 ∷ [])
    (repeat SCAN_LEN (0 ∷ []))
unfolding check_of packed_classes
listed_written = refl

none_kept : CanBeKept []
none_kept = record { some = λ i d below. absurd (omega (arith, below)); few = omega arith }

-- there are no links
no_links : (texts : List (List ℕ)) → AreLinks texts [] 0
no_links texts = record { long = refl; each = λ i below. absurd (omega (arith, below)) }

-- and are kept
first_are_kept : (ignore_case : Bool) → AreKept (search_by LeftmostFirst ignore_case []) NO_PATTERN
first_are_kept ignore_case =
    grind (arith, first_written, kept_all, no_links, none_kept, none_long, none_recognised, one_class, zeros_classes)

longest_are_kept : (ignore_case : Bool) → AreKept (search_by LeftmostLongest ignore_case []) NO_PATTERN_LONGEST
longest_are_kept ignore_case =
    grind (arith, kept_all, longest_written, no_links, none_kept, none_long, none_recognised, one_class, zeros_classes)

pub none_are_kept : (kind : MatchKind) (ignore_case : Bool)
    → AreKept (search_by kind ignore_case []) (numbers_kept (Some kind) [])
none_are_kept LeftmostFirst = first_are_kept
none_are_kept LeftmostLongest = longest_are_kept

pub none_are_listed : (ignore_case : Bool) → AreListed (record { patterns = []; ignore_case = ignore_case }) NO_LISTED
none_are_listed ignore_case =
    grind (arith, listed_all, listed_written, none_kept, none_long, none_recognised, one_class, zeros_classes)

-- they need few states, reversed or not
pub none_need_few_states : (ignore_case : Bool) → NeedFewStates ignore_case []
none_need_few_states ignore_case = (
  repeat 256 (0 ∷ []),
  subst (AreClasses (repeat 256 (0 ∷ []))) (sym (one_class ignore_case)) zeros_classes,
  (λ i k byte below. absurd (omega (arith, below))),
  λ many. none_few (subst (HasTooManyStates []) (one_class ignore_case) many),
)
