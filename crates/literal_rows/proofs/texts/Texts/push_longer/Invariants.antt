use Rattle.std.proofs.Common.{◌≡◌, ◌+◌, ◌<◌, ◌≤◌, ◌++◌, ℕ, eqb, get_or, length}
use Rattle.std.specs.List.{filter, find, slice_range}
use Rattle.std.specs.Option.{option_or}
use Rattle.literal_base.specs.Occurs.{pattern_at}
use Rattle.literal_rows.specs.Inside.Grown.{goes_on}
use Rattle.literal_rows.specs.Inside.Construction.{texts_of}
use Rattle.literal_rows.proofs.texts.Texts.push_longer.Given as goal

abbrev pub invariant-loop-index : goal.invariant-loop-index
invariant-loop-index l =
    let old = l.fn.lists.items in
    let goes = λ (i : ℕ). goes_on (pattern_at (texts_of l.self) i) l.here.depth l.class in
    let whole = λ (i : ℕ). eqb (length (pattern_at (texts_of l.self) i)) (l.here.depth + 1) in
    record {
      lists : l.lists.items ++ filter goes (slice_range old l.index l.here.end)
          ≡ old ++ filter goes (slice_range old l.here.start l.here.end);
      whole : option_or l.whole (find whole (filter goes (slice_range old l.index l.here.end)))
          ≡ find whole (filter goes (slice_range old l.here.start l.here.end));
      long : length old ≤ length l.lists.items;
      kept : (k d : ℕ) → k < length old → get_or l.lists.items k d ≡ get_or old k d;
      numbers : (k d : ℕ) → k < length l.lists.items → get_or l.lists.items k d < length l.self.patterns.now;
    }
