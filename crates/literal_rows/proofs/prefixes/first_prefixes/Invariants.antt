use Rattle.std.proofs.Common.{◌≡◌, ◌<◌, ℕ, get_or, length}
use Rattle.literal_base.specs.Occurs.{pattern_at}
use Rattle.literal_rows.specs.Inside.Prefixes.{AreLastPrefixes, IsFirstPrefix, numbers_in, symbols_in_order}
use Rattle.literal_rows.specs.Inside.Shadowed.{texts_by}
use Rattle.literal_rows.proofs.prefixes.first_prefixes.Given as goal

abbrev pub invariant-loop-index : goal.invariant-loop-index
invariant-loop-index l = record {
  before : AreLastPrefixes (symbols_in_order l.sorted.items) l.before.items;
  count : length l.before.items ≡ l.index;
  long : length l.firsts.items ≡ length l.patterns;
  firsts : (k : ℕ) → k < l.index → IsFirstPrefix (texts_by l.classes l.patterns)
      (pattern_at (symbols_in_order l.sorted.items) k)
      (get_or l.firsts.items (get_or (numbers_in l.sorted.items) k 0) 0);
}
