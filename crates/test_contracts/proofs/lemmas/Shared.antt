-- Classes that tell ranges of bytes apart.
-- For `classes_of` and `classes_inside`.
use Rattle.std.proofs.Common.{◌≡◌, ℕ, ◌+◌, ◌<◌, ◌≤◌, ◌↔◌, ◌||◌, Bool, List, [], ◌∷◌, slice_index, sym, ap, ◌∙◌, arith}
use Rattle.std.proofs.Common.{false, get_or, length, refl, set, suc, ⊎_elim}
use Rattle.std.specs.List.{All, list_any}
use Rattle.std.proofs.lemmas.Bool.{cases_eq, cases_lt}
use Rattle.std.proofs.lemmas.Grind.{get_or-set_at}
use Rattle.std.proofs.lemmas.List.{get_or-set_other}
use Rattle.literal_base.specs.Bytes.{by_byte}
use Rattle.literal_base.specs.Classes.{NonePart, alphabet_len_of, class_of, holds, marks_of}
use Rattle.literal_base.proofs.lemmas.Callers.{class_below_len, get_or-by_byte, same_ranges, share_a_class}

pub share_by_byte : (ranges : List (ℕ × ℕ)) (classes : List ℕ) → classes ≡ by_byte (class_of (marks_of ranges))
    → All (λ range. range.0 ≤ range.1) ranges → (b : ℕ) → b < 255
    → (slice_index classes b ≡ slice_index classes (b + 1)) ↔ NonePart ranges b
share_by_byte ranges classes are ordered b below =
    let at : (k : ℕ) → k < 256 → slice_index classes k ≡ class_of (marks_of ranges) k = λ k in_table. ap
    (λ xs. slice_index xs k) are ∙ get_or-by_byte (class_of (marks_of ranges)) k 0 in_table in
    let told = share_a_class ranges b ordered below in (
      λ same. told.0 (sym (at b (omega arith)) ∙ (same ∙ at (b + 1) (omega arith))),
      λ none. at b (omega arith) ∙ (told.1 none ∙ sym (at (b + 1) (omega arith))),
    )

any_holds : (ranges : List (ℕ × ℕ)) (b c : ℕ) → All (λ range. holds range b ≡ holds range c) ranges
    → list_any (λ range. holds range b) ranges ≡ list_any (λ range. holds range c) ranges
any_holds [] b c same = refl
any_holds (range ∷ more) b c same =
    ap (λ h. h || list_any (λ range. holds range b) more) (same 0 (0, 0) (omega arith))
    ∙ ap (λ rest. holds range c || rest) (any_holds more b c (λ k d below. same (suc k) d (omega arith)))

-- a place for each class, in which that of one more byte is written
pub written_inside : (ranges : List (ℕ × ℕ)) (classes : List ℕ) (table : List Bool) (byte at : ℕ)
    → classes ≡ by_byte (class_of (marks_of ranges)) → All (λ range. range.0 ≤ range.1) ranges → byte < 256
    → at ≡ slice_index classes byte → length table ≡ alphabet_len_of classes
    → ((b : ℕ) → b < byte → get_or table (slice_index classes b) false ≡ list_any (λ range. holds range b) ranges)
    → (b : ℕ) → b < byte + 1
    → get_or (set table at (list_any (λ range. holds range byte) ranges)) (slice_index classes b) false
    ≡ list_any (λ range. holds range b) ranges
written_inside ranges classes table byte at are ordered below is len before b less =
    let class : (k : ℕ) → k < 256 → slice_index classes k ≡ class_of (marks_of ranges) k = λ k in_table. ap
    (λ xs. slice_index xs k) are ∙ get_or-by_byte (class_of (marks_of ranges)) k 0 in_table in
    let value = list_any (λ range. holds range byte) ranges in
    let inside : at < length table = omega (
      arith,
      is ∙ ap (λ xs. slice_index xs byte) are,
      len ∙ ap alphabet_len_of are,
      class_below_len (marks_of ranges) byte below,
    ) in
    ⊎_elim
    (λ same. get_or-set_at table at (slice_index classes b) value false same inside
    ∙ any_holds ranges byte b (same_ranges ranges byte b ordered below (omega arith)
    (sym (class byte below) ∙ (sym is ∙ (sym same ∙ class b (omega arith))))))
    (λ other. get_or-set_other table at (slice_index classes b) value false other
    ∙ ⊎_elim (before b)
    (λ not. absurd (other (let e : b ≡ byte = omega arith in ap (slice_index classes) e ∙ sym is))) (cases_lt b byte))
    (cases_eq (slice_index classes b) at)
