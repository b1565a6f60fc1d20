use Rattle.std.proofs.Common.{◌≡◌, ◌<◌, ◌⊎◌, ℕ, false, get_or, length, true}
use Rattle.literal_rows.specs.Inside.Classes.{folded}
use Rattle.literal_rows.proofs.classes.mark.Given as goal

abbrev pub invariant-loop-byte : goal.invariant-loop-byte
invariant-loop-byte l = record {
  each : length l.seen ≡ 256;
  marks : (k : ℕ) → k < l.byte-index
      → (get_or l.pattern k 0 < 256) × (get_or l.seen (folded l.ignore_case (get_or l.pattern k 0)) false ≡ true);
  keeps : (b : ℕ) → get_or l.fn.seen b false ≡ true → get_or l.seen b false ≡ true;
  only : (b : ℕ) → get_or l.seen b false ≡ true → (get_or l.fn.seen b false ≡ true)
      ⊎ ((k : ℕ) × (k < l.byte-index) × (folded l.ignore_case (get_or l.pattern k 0) ≡ b));
}
