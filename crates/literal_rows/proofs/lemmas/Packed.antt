-- Bytes that are packed into numbers, and the classes among them.
use Rattle.std.proofs.Common.{◌≡◌, ◌+◌, ◌-◌, ◌*◌, ◌/◌, ◌%◌, ◌^◌, ◌<◌, ◌≤◌, ◌∙◌, ℕ, zero, suc, List, [], ◌∷◌, ◌++◌}
use Rattle.std.proofs.Common.{ap, arith, drop, get_or, inl, inr, length, refl, sym, take, w32}
use Rattle.std.proofs.Math.Seq.{take-add}
use Rattle.std.proofs.lemmas.Bool.{cases_lt}
use Rattle.std.proofs.lemmas.List.{get_or-drop, get_or-take, get_or_past, length-drop, length-take, take_all}
use Rattle.std.proofs.lemmas.List.Concat.{flat_map-append}
use Rattle.std.proofs.lemmas.List.FromFn.{map-range_with_len_more}
use Rattle.std.proofs.lemmas.Nat.{le_bytes_4}
use Rattle.std.specs.Int.{from_le_bytes, to_le_bytes}
use Rattle.std.specs.List.{slice_range}
use Rattle.literal_rows.specs.Inside.Classes.{AreClasses}
use Rattle.literal_rows.specs.Inside.Packed.{packed, unpacked}
use Rattle.literal_rows.specs.Inside.Rows.{packed_classes}

-- with one number more
pub packed_more : (bytes : List ℕ) (n : ℕ)
    → packed (n + 1) bytes ≡ packed n bytes ++ from_le_bytes w32 (slice_range bytes (4 * n) (4 * n + 4)) ∷ []
packed_more bytes n =
    map-range_with_len_more (λ k. from_le_bytes w32 (slice_range bytes (4 * k) (4 * k + 4))) 0 n n (omega arith)

-- where a byte stands in numbers
pub unpacked_at : (numbers : List ℕ) (byte : ℕ)
    → get_or (unpacked numbers) byte 0 ≡ get_or numbers (byte / 4) 0 / 2 ^ (8 * (byte % 4)) % 256
unpacked_at [] byte = omega arith
unpacked_at (number ∷ more) zero = omega arith
unpacked_at (number ∷ more) (suc zero) = refl
unpacked_at (number ∷ more) (suc (suc zero)) = refl
unpacked_at (number ∷ more) (suc (suc (suc zero))) = refl
unpacked_at (number ∷ more) (suc (suc (suc (suc byte)))) = grind (arith, unpacked_at more byte)

-- numbers that hold bytes give them back
module _ (bytes : List ℕ) (small : (i : ℕ) → get_or bytes i 0 < 256) where
  four_are : (k : ℕ) → 4 * k + 4 ≤ length bytes → (let part = slice_range bytes (4 * k) (4 * k + 4) in
      to_le_bytes w32 (from_le_bytes w32 part) ≡ part)
  four_are k fits =
      let part = slice_range bytes (4 * k) (4 * k + 4) in
      let long : length part ≡ 4 = grind (arith, length-drop, length-take) in
      le_bytes_4 part _ long
      (λ i. elim (cases_lt i 4) [
        | inl inside ↦ omega (
          arith,
          get_or-take (4 * k + 4 - 4 * k) (drop (4 * k) bytes) i 0 (omega (arith, inside)),
          get_or-drop (4 * k) bytes i 0,
          small (4 * k + i),
        )
        | inr past ↦ omega (arith, get_or_past part i 0 (omega (arith, past, long)))
      ]) refl

  first_are : (n : ℕ) → 4 * n ≤ length bytes → unpacked (packed n bytes) ≡ take (4 * n) bytes
  first_are zero fits = refl
  first_are (suc n) fits =
      let next : n + 1 ≡ suc n = omega arith in
      let part = slice_range bytes (4 * n) (4 * n + 4) in
      ap (λ m. unpacked (packed m bytes)) (sym next)
      ∙ (ap unpacked (packed_more bytes n)
      ∙ (flat_map-append (to_le_bytes w32) (packed n bytes) (from_le_bytes w32 part ∷ [])
      ∙ (ap (λ l. l ++ to_le_bytes w32 (from_le_bytes w32 part)) (first_are n (omega (arith, fits)))
      ∙ (ap (λ l. take (4 * n) bytes ++ l) (four_are n (omega (arith, fits)))
      ∙ (ap (λ k. take (4 * n) bytes ++ take k (drop (4 * n) bytes))
      (let k : 4 * n + 4 - 4 * n ≡ 4 = omega arith in k)
      ∙ (sym (take-add (4 * n) 4 bytes)
      ∙ ap (λ k. take k bytes) (let k : 4 * n + 4 ≡ 4 * suc n = omega arith in k)))))))

  pub unpacked_packed : (n : ℕ) → length bytes ≡ 4 * n → unpacked (packed n bytes) ≡ bytes
  unpacked_packed n long = first_are n (omega (arith, long)) ∙ take_all (4 * n) bytes (omega (arith, long))

pub packed_long : (classes : List ℕ) → length (packed_classes classes) ≡ 256
unfolding packed_classes
packed_long classes = refl

pub unpacked_again : (classes : List ℕ) (width : ℕ) → AreClasses classes width
    → unpacked (take 64 (packed_classes classes)) ≡ classes
unfolding packed_classes
unpacked_again classes width are =
    unpacked_packed classes (λ byte. elim (cases_lt byte 256) [
      | inl is ↦ omega (arith, are.below byte is, are.few)
      | inr past ↦ omega (arith, get_or_past classes byte 0 (omega (arith, past, are.each)))
    ]) 64 (omega (arith, are.each))
