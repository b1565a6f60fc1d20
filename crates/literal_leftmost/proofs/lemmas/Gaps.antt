-- No pattern goes over a byte that has the last class.
use Rattle.std.proofs.Common.{◌≡◌, ℕ, ◌+◌, ◌-◌, ◌<◌, ◌≤◌, Bool, false, true, List, arith, get_or, inl, inr, length}
use Rattle.std.proofs.Common.{subst, sym}
use Rattle.std.proofs.lemmas.Bool.{cases_lt, eqb-true}
use Rattle.std.specs.Char.{to_ascii_lowercase}
use Rattle.literal_base.specs.Leftmost.{IsLeftmostMatch}
use Rattle.literal_base.specs.MatchValue.{MatchValue}
use Rattle.literal_base.specs.Occurs.{IsValidSpan, Occurs, between, pattern_at, same_byte}
use Rattle.literal_base.specs.declared.search.Span.{Span}
use Rattle.literal_leftmost.specs.Inside.Backward.{AreBackFor, NoneFrom, back_tables_by}
use Rattle.literal_rows.specs.Inside.Classes.{folded}
use Rattle.literal_leftmost.specs.Inside.Near.{IsGap, IsPiece}
use Rattle.literal_leftmost.specs.SearchValue.{SearchValue}
use Rattle.literal_leftmost.specs.declared.backward.Backward.{Backward}
use Rattle.literal_leftmost.specs.declared.near.Piece.{Piece}
use Rattle.literal_leftmost.specs.Prepared.{AreBackTables, BackTables}
use Rattle.literal_base.proofs.lemmas.Callers.{bytes_at}

module _ (p : BackTables) (are : AreBackTables p) (haystack : List ℕ) (bytes : (i : ℕ) → get_or haystack i 0 < 256)
    (few : p.width < 256) (gap end : ℕ) (inside : end ≤ length haystack) (is : IsGap p.classes p.width haystack gap)
  where
    abbrev Begins : ℕ → ℕ → ℕ → ℕ → Type 0
    Begins from to i at = Occurs p.search.query.patterns p.search.ignore_case haystack (between from to) i at

    -- a byte of a pattern that occurs is the byte of the haystack, after folding
    same_folded : (ignore_case : Bool) (one other : ℕ) → same_byte ignore_case one other ≡ true
        → folded ignore_case one ≡ folded ignore_case other
    same_folded false one other same = eqb-true one other same
    same_folded true one other same = eqb-true (to_ascii_lowercase one) (to_ascii_lowercase other) same

    -- what begins before it lies before it
    lies_before : (start i at : ℕ) → Begins start end i at
        → at ≤ gap → at + length (pattern_at p.search.query.patterns i) ≤ gap
    lies_before start i at o before = elim (cases_lt gap (at + length (pattern_at p.search.query.patterns i))) [
      | inl over ↦
          let k = gap - at in
          let within : k < length (pattern_at p.search.query.patterns i) = omega (arith, over, before) in
          let valid : IsValidSpan haystack (between start end) = grind arith in
          let byte = get_or (pattern_at p.search.query.patterns i) k 0 in
          let at_is : at + k ≡ gap = omega (arith, before) in
          let same = subst (λ n. folded p.search.ignore_case (get_or haystack n 0) ≡ folded p.search.ignore_case byte)
          at_is (same_folded p.search.ignore_case (get_or haystack (at + k) 0) byte
          (bytes_at p.search.query.patterns p.search.ignore_case haystack (between start end) valid i at o k within)) in
          let class = (are.tells i k (get_or haystack gap 0) o.is_pattern within (bytes gap)).1 same in
          absurd (omega (arith, class, is, are.last few i k o.is_pattern within))
      | inr not ↦ not
    ]

    before_gap : (start i at : ℕ) → Begins start end i at
        → at ≤ gap → Begins start gap i at
    before_gap start i at o before = record {
      is_pattern = o.is_pattern;
      after_start = o.after_start;
      before_end = lies_before start i at o before;
      same = o.same;
    }

    -- so what does not begin in what is before it, begins nowhere there
    pub none_to_gap : (from : ℕ) → NoneFrom p haystack gap from gap → NoneFrom p haystack end from gap
    none_to_gap from none at after before i o = none at after before i (before_gap at i at o (omega (arith, before)))

    -- and the leftmost match of what is before it is that of more
    pub leftmost_to_gap : (start : ℕ) (found : MatchValue) → gap ≤ end → found.start < gap
        → IsLeftmostMatch p.search.query p.search.ignore_case haystack (between start gap) found
        → IsLeftmostMatch p.search.query p.search.ignore_case haystack (between start end) found
    leftmost_to_gap start found ordered before leftmost = record {
      occurs = grind arith;
      whole = leftmost.whole;
      earliest = λ i at early o. leftmost.earliest i at early (before_gap start i at o (omega (arith, early, before)));
      best = λ i better o. leftmost.best i better (before_gap start i found.start o (omega (arith, before)));
    }

-- the same of a piece of a span
module _ (b : Backward) (search : SearchValue) (is : AreBackFor search b) (haystack : List ℕ)
    (bytes : (i : ℕ) → get_or haystack i 0 < 256) (few : b.table.width < 256) (span : Span)
    (valid : span.end ≤ length haystack) (at : ℕ) (piece : Piece) (is_piece : IsPiece b haystack span at piece)
  where
    pub none_in_piece : NoneFrom (back_tables_by search b) haystack piece.reach at piece.end
        → NoneFrom (back_tables_by search b) haystack span.end at piece.end
    none_in_piece none = elim is_piece.whole [
      | inl all ↦ subst (λ n. NoneFrom (back_tables_by search b) haystack n at piece.end) all none
      | inr gap ↦
          subst (λ n. NoneFrom (back_tables_by search b) haystack span.end at n) (sym gap.0)
          (none_to_gap (back_tables_by search b) is.tables haystack bytes few piece.reach span.end
          valid gap.2 at
          (subst (λ n. NoneFrom (back_tables_by search b) haystack piece.reach at n) gap.0 none))
    ]

    pub leftmost_in_piece : (found : MatchValue) → found.start < piece.end
        → IsLeftmostMatch search.query search.ignore_case haystack (between at piece.reach) found
        → IsLeftmostMatch search.query search.ignore_case haystack (between at span.end) found
    leftmost_in_piece found before leftmost = elim is_piece.whole [
      | inl all ↦
          subst (λ n. IsLeftmostMatch search.query search.ignore_case haystack (between at n) found) all leftmost
      | inr gap ↦ leftmost_to_gap (back_tables_by search b) is.tables haystack bytes few piece.reach span.end
          valid gap.2 at found (omega (arith, gap.1)) (omega (arith, gap.0, before)) leftmost
    ]
