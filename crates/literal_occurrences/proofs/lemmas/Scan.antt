-- What walks by the numbers of an automaton find, as occurrences in the haystack.
use Rattle.std.proofs.Common.{◌≡◌, ℕ, ◌+◌, ◌*◌, ◌<◌, ◌≤◌, Bool, List, arith, Err, IfOk, Ok, Option, Result, None}
use Rattle.std.proofs.Common.{get_or, inl, inr, length, map, subst, sym}
use Rattle.std.proofs.lemmas.Bool.{cases_lt}
use Rattle.std.specs.Result.{IsOkAnd, result_unwrap_or}
use Rattle.literal_base.specs.Counts.{Counts}
use Rattle.literal_base.specs.Occurs.{IsValidSpan, Occurs, between}
use Rattle.literal_rows.specs.Inside.Classes.{symbols_in}
use Rattle.literal_occurrences.specs.Inside.Scan.{IsTableFor, NoneBefore}
use Rattle.literal_rows.specs.Inside.Walk.{classes_by, NoneInFour}
use Rattle.literal_rows.specs.declared.walk.Table.{Table}
pub use Rattle.literal_rows.proofs.lemmas.Arrays.{classes_long}
use Rattle.literal_rows.proofs.lemmas.EndsFound.{nothing_ends}
use Rattle.literal_rows.proofs.lemmas.Longest.{longest_is}

pub also_ok : {T E : Type 0} (r : Result T E) (P Q R : T → Type 0) → ((v : T) → P v → Q v → R v) → IsOkAnd r P
    → IfOk r Q → IsOkAnd r R
also_ok (Ok v) P Q R to holds also = to v holds also
also_ok (Err e) P Q R to holds also = absurd holds

-- and of one that is taken out of its Ok
pub unwrapped : {T E : Type 0} (r : Result (Option T) E) (o : Option T) → o ≡ result_unwrap_or r None
    → (P : Option T → Type 0) → IsOkAnd r P → P o
unwrapped (Ok v) o is P holds = subst P (sym is) holds
unwrapped (Err e) o is P holds = absurd holds

-- one count alone has changed, in three steps
pub others_on : (old now next last : Counts)
    → now ≡ (let t : Counts = record old { scanned = now.scanned } in t)
    → next ≡ (let t : Counts = record now { scanned = next.scanned } in t)
    → last ≡ (let t : Counts = record next { scanned = last.scanned } in t)
    → last ≡ (let t : Counts = record old { scanned = last.scanned } in t)
others_on old now next last first second third = grind arith

-- where four walks find nothing, nothing begins in the blocks from which they begin
module _ (t : Table) (patterns : List (List ℕ)) (ignore_case : Bool) (is : IsTableFor t patterns ignore_case) where
  module _ (haystack : List ℕ) (bytes : (i : ℕ) → get_or haystack i 0 < 256) (at block : ℕ)
      (inside : at + 4 * block + t.longest ≤ length haystack)
      (none : NoneInFour t haystack at block (block + t.longest))
    where
      none_in : (k : ℕ) → k < 4 → (i offset : ℕ)
          → Occurs patterns ignore_case haystack (between at (length haystack)) i offset
          → at + k * block ≤ offset → offset < at + k * block + block → ⊥
      none_in k below i offset o after before =
          let start = at + k * block in
          let most : k * block + block ≤ 4 * block = grind arith in
          let short = longest_is patterns i in
          let valid : IsValidSpan haystack (between start (start + (block + t.longest))) =
          record { ordered = omega arith; in_haystack = omega arith } in
          nothing_ends ignore_case (classes_by t) patterns is.tells is.some haystack bytes
          (between start (start + (block + t.longest))) valid
          (none k below (map (symbols_in (classes_by t)) patterns) is.recognises) i offset (grind arith)

      pub none_in_blocks : NoneBefore patterns ignore_case haystack (between at (length haystack)) (at + 4 * block)
      none_in_blocks i offset o =
          elim (cases_lt offset (at + 4 * block)) [
            | inr far ↦ far
            | inl near ↦ elim (cases_lt offset (at + block)) [
              | inl one ↦ absurd (none_in 0 (omega arith) i offset o (omega arith) (omega arith))
              | inr behind_one ↦ elim (cases_lt offset (at + 2 * block)) [
                | inl two ↦ absurd (none_in 1 (omega arith) i offset o (omega arith) (omega arith))
                | inr behind_two ↦ elim (cases_lt offset (at + 3 * block)) [
                  | inl three ↦ absurd (none_in 2 (omega arith) i offset o (omega arith) (omega arith))
                  | inr behind_three ↦ absurd (none_in 3 (omega arith) i offset o (omega arith) (omega arith))
                ]
              ]
            ]
          ]
