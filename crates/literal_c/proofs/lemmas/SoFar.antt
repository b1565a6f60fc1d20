-- Texts of which more may follow. For `literal_find_so_far_in` and `literal_find_all_so_far_in`.
use Rattle.std.proofs.Common.{◌≡◌, ◌∙◌, ◌++◌, [], Bool, List, ℕ, ℤ, ap, append-nil, false, true, refl}
use Rattle.std.proofs.Common.{of_z, to_z, w32, ◌+◌, ◌-◌, ◌≤◌, None, Option, Some, arith, length, max, subst, sym}
use Rattle.literal_base.specs.Leftmost.{IsLeftmost, IsLeftmostMatch}
use Rattle.literal_base.specs.MatchValue.{MatchValue}
use Rattle.literal_base.specs.Occurs.{Occurs, between}
use Rattle.literal_base.specs.Query.{Query}
use Rattle.literal_rows.proofs.lemmas.Longest.{longest_is}
use Rattle.literal_leftmost.proofs.lemmas.SoFar.{leftmost_longer, occurs_prefix}
use Rattle.literal_search.specs.SearchValue.{longest_of}
use Rattle.literal_leftmost.specs.declared.so_far.SoFar.{SoFar}
use Rattle.literal_leftmost.specs.declared.so_far.SoFar.TheVariants.{Found, NoneBefore}
use Rattle.literal_c.specs.Answers.{BeginsNone}
use Rattle.literal_c.specs.Inside.SoFar.{IsUnknown}
use Rattle.literal_c.specs.SoFar.{IsToldBy, MayFollow, deciding_len}
use Rattle.literal_c.specs.declared.LiteralMatch.{LiteralMatch}

-- where no more may follow, what is held is the text
pub nothing_follows : (more : Bool) (behind haystack : List ℕ) → more ≡ false → MayFollow more behind
    → haystack ≡ haystack ++ behind
nothing_follows false behind haystack is may = sym (append-nil haystack) ∙ ap (λ l. haystack ++ l) (sym may)
nothing_follows true behind haystack is may = absurd (cc)

-- nothing may follow, whether more may or not
pub may_be_all : (more : Bool) → MayFollow more []
may_be_all true = tt
may_be_all false = refl

-- a status that tells an answer crosses to C as it is
pub crosses : (answer : SoFar) (status : ℤ) (found : LiteralMatch) (next : ℕ) → IsToldBy answer status found next
    → to_z w32 (of_z w32 status) ≡ status
crosses (Found it) status found next told = subst (λ s. to_z w32 (of_z w32 s) ≡ s) (sym told.0) refl
crosses (NoneBefore place) status found next told = subst (λ s. to_z w32 (of_z w32 s) ≡ s) (sym told.0) refl

-- a known match is the leftmost one of the text, whatever may follow
pub leftmost_known : (query : Query) (ignore_case more : Bool) (held behind : List ℕ) (at : ℕ) (found : MatchValue)
    → MayFollow more behind → found.start + deciding_len more (longest_of query.patterns) ≤ length held
    → IsLeftmostMatch query ignore_case held (between at (length held)) found
    → IsLeftmostMatch query ignore_case (held ++ behind) (between at (length (held ++ behind))) found
leftmost_known query ignore_case true held behind at found may room first =
    leftmost_longer query ignore_case held behind at found room first
leftmost_known query ignore_case false held behind at found may room first =
    subst (λ (text : List ℕ). IsLeftmostMatch query ignore_case text (between at (length text)) found)
    (nothing_follows false behind held refl may) first

-- where the leftmost match of the held bytes is not known, none begins before the first offset that is open
pub none_known : (query : Query) (ignore_case more : Bool) (held behind : List ℕ) (at : ℕ) (answer : Option MatchValue)
    → MayFollow more behind → at ≤ length held
    → IsUnknown answer (length held) (deciding_len more (longest_of query.patterns))
    → IsLeftmost query ignore_case held (between at (length held)) answer
    → BeginsNone query ignore_case (held ++ behind) (length (held ++ behind)) at
    (max at (length held - (deciding_len more (longest_of query.patterns) - 1)))
none_known query ignore_case true held behind at None may inside unknown nothing = (
  omega arith,
  λ i p before occurs.
      nothing i p (occurs_prefix query.patterns ignore_case held behind at i p
      (omega (arith, longest_is query.patterns i, before, occurs.after_start)) occurs),
)
none_known query ignore_case true held behind at (Some found) may inside unknown first = (
  omega arith,
  λ i p before occurs.
      first.earliest i p (omega (arith, before, unknown, occurs.after_start))
      (occurs_prefix query.patterns ignore_case held behind at i p
      (omega (arith, longest_is query.patterns i, before, occurs.after_start)) occurs),
)
none_known query ignore_case false held behind at None may inside unknown nothing = (
  omega arith,
  λ i p before occurs.
      nothing i p (subst (λ (text : List ℕ). Occurs query.patterns ignore_case text (between at (length text)) i p)
      (sym (nothing_follows false behind held refl may)) occurs),
)
none_known query ignore_case false held behind at (Some found) may inside unknown first =
    absurd (omega (arith, unknown, first.occurs.before_end))
