use Rattle.std.proofs.Common.{◌≡◌, ◌<◌, ◌≤◌, ℕ, false}
use Rattle.literal_base.specs.Bytes.{contains}
use Rattle.literal_search.specs.WholeWords.{is_ascii_word_byte}
use Rattle.literal_search.proofs.whole_words.WholeWords.ascii_word_bytes.Given as goal

abbrev pub invariant-loop-byte : goal.invariant-loop-byte
invariant-loop-byte l = record {
  each : (b : ℕ) → b < l.byte-counter → contains l.set b ≡ is_ascii_word_byte b;
  others : (b : ℕ) → l.byte-counter ≤ b → contains l.set b ≡ false;
}
