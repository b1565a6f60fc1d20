-- The matches of a pattern of one byte.
use Rattle.std.proofs.Common.{◌≡◌, ◌∙◌, ◌+◌, ◌-◌, ◌<◌, ◌≤◌, ◌∷◌, [], ℕ, Bool, List, ap, arith, cond, drop, false}
use Rattle.std.proofs.Common.{get_or, inl, inr, length, refl, subst, suc, sym, take, zero}
use Rattle.std.proofs.lemmas.Bool.{cases_eq, eq-eqb, eqb-true, ne_eqb}
use Rattle.std.proofs.lemmas.List.{drop_more}
use Rattle.std.proofs.lemmas.List.Sums.{sum_by-cons}
use Rattle.std.specs.List.{count_by, slice_range}
use Rattle.literal_base.specs.Greedy.{IsGreedyIn}
use Rattle.literal_base.specs.Leftmost.{IsBetter, IsLeftmostMatch}
use Rattle.literal_base.specs.MatchValue.{MatchValue}
use Rattle.literal_base.specs.Occurs.{IsValidSpan, Occurs, between, pattern_at}
use Rattle.literal_base.specs.Query.{Query}
use Rattle.literal_base.specs.declared.search.Span.{Span}
use Rattle.literal_base.specs.declared.packed.MatchKind.{MatchKind}
use Rattle.literal_base.specs.declared.packed.MatchKind.TheVariants.{LeftmostFirst, LeftmostLongest}
use Rattle.literal_fingerprints.specs.ShortPatterns.{IsOnly, is_byte}
use Rattle.literal_fingerprints.specs.declared.short.ShortPattern.{ShortPattern}
use Rattle.literal_leftmost.specs.Counted.{IsGreedyCount, IsOnlyByte}
use Rattle.literal_base.proofs.lemmas.Callers.{bytes_at}

none_better : (kind : MatchKind) (byte i : ℕ) → i < 1 → ¬ IsBetter kind ((byte ∷ []) ∷ []) i 0
none_better LeftmostFirst byte i few better = absurd (omega (arith, better))
none_better LeftmostLongest byte zero few (inl better) = absurd (omega (arith, better))
none_better LeftmostLongest byte zero few (inr better) = absurd (omega (arith, better.1))
none_better LeftmostLongest byte (suc i) few better = absurd (omega (arith, few))

module _ (kind : MatchKind) (haystack : List ℕ) (byte : ℕ) where
  abbrev the_query : Query
  the_query = record { kind = kind; patterns = (byte ∷ []) ∷ [] }

  Begins : ℕ → ℕ → ℕ → ℕ → Type 0
  Begins at end i p = Occurs ((byte ∷ []) ∷ []) false haystack (between at end) i p

  match_at : ℕ → MatchValue
  match_at at = record { pattern = 0; start = at; end = at + 1 }

  -- an occurrence from an offset on is one from an earlier offset on, and the other way round
  earlier : (at next end i p : ℕ) → at ≤ next → Begins next end i p → Begins at end i p
  unfolding Begins
  earlier at next end i p after is = record {
    is_pattern = is.is_pattern;
    after_start = omega (arith, is.after_start);
    before_end = is.before_end;
    same = is.same;
  }

  later : (at next end i p : ℕ) → next ≤ p → Begins at end i p → Begins next end i p
  unfolding Begins
  later at next end i p after is = record {
    is_pattern = is.is_pattern;
    after_start = after;
    before_end = is.before_end;
    same = is.same;
  }

  byte_is : (at end i p : ℕ) → at ≤ end → end ≤ length haystack → Begins at end i p → get_or haystack p 0 ≡ byte
  unfolding Begins
  byte_is at end zero p ordered inside is =
      ap (λ k. get_or haystack k 0) (omega arith)
      ∙ eqb-true _ _ (bytes_at ((byte ∷ []) ∷ []) false haystack (between at end)
      (record { ordered = ordered; in_haystack = inside }) 0 p is 0 (omega arith))
  byte_is at end (suc i) p ordered inside is = absurd (omega (arith, is.is_pattern))

  -- where the haystack has the byte, it begins
  begins : (at end : ℕ) → at < end → end ≤ length haystack → get_or haystack at 0 ≡ byte → Begins at end 0 at
  unfolding Begins
  begins at end before inside is = record {
    is_pattern = omega arith;
    after_start = omega arith;
    before_end = omega arith;
    same =
        let one : at + 1 - at ≡ 1 = omega arith in
        ap (λ n. take n (drop at haystack)) one
        ∙ (ap (take 1) (drop_more haystack at 0 (omega arith)) ∙ ap (λ b. b ∷ []) is);
  }

  first : (at end : ℕ) → at < end → end ≤ length haystack → get_or haystack at 0 ≡ byte
      → IsLeftmostMatch the_query false haystack (between at end) (match_at at)
  unfolding match_at Begins begins
  first at end before inside is = record {
    occurs = begins at end before inside is;
    whole = refl;
    earliest = λ i p early occurs. absurd (omega (arith, early, occurs.after_start));
    best = λ i better occurs. none_better kind byte i occurs.is_pattern better;
  }

  -- what is greedy after a byte that does not begin is so from it on
  from_here : (at end : ℕ) (all : List MatchValue) → at < end → end ≤ length haystack → ¬ (get_or haystack at 0 ≡ byte)
      → IsGreedyIn the_query false haystack (between (at + 1) end) all
      → IsGreedyIn the_query false haystack (between at end) all
  unfolding Begins later earlier
  from_here at end [] before inside not nothing = λ i p is.
      elim (cases_eq p at) [
        | inl here ↦ not (ap (λ k. get_or haystack k 0) (sym here) ∙ byte_is at end i p (omega arith) inside is)
        | inr other ↦ nothing i p (later at (at + 1) end i p (omega (arith, is.after_start, other)) is)
      ]
  from_here at end (found ∷ more) before inside not greedy =
      let leftmost = greedy.0 in (
        record {
          occurs = earlier at (at + 1) end found.pattern found.start (omega arith) leftmost.occurs;
          whole = leftmost.whole;
          earliest = λ i p early is.
              elim (cases_eq p at) [
                | inl here ↦
                    not (ap (λ k. get_or haystack k 0) (sym here) ∙ byte_is at end i p (omega arith) inside is)
                | inr other ↦
                    leftmost.earliest i p early (later at (at + 1) end i p (omega (arith, is.after_start, other)) is)
              ];
          best = λ i better is.
              leftmost.best i better
              (later at (at + 1) end i found.start (omega (arith, leftmost.occurs.after_start)) is);
        },
        greedy.1,
      )

  counted_from : (n at end : ℕ) → at + n ≡ end → end ≤ length haystack → (all : List MatchValue)
      × IsGreedyIn the_query false haystack (between at end) all
      × (count_by (is_byte byte) (take n (drop at haystack)) ≡ length all)
  unfolding Begins match_at
  counted_from zero at end is inside = (
    [],
    λ i p occurs. absurd (omega (
      arith,
      is,
      occurs.before_end,
      occurs.after_start,
      byte_is_some i occurs.is_pattern,
    )),
    refl,
  ) where
    byte_is_some : (i : ℕ) → i < 1 → 0 < length (pattern_at ((byte ∷ []) ∷ []) i)
    byte_is_some zero few = omega arith
    byte_is_some (suc i) few = absurd (omega (arith, few))
  counted_from (suc n) at end is inside =
      let rest = counted_from n (at + 1) end (omega (arith, is)) inside in
      let here = get_or haystack at 0 in
      let cut : take (suc n) (drop at haystack) ≡ here ∷ take n (drop (at + 1) haystack) =
      ap (take (suc n)) (drop_more haystack at 0 (omega (arith, is))) in
      elim (cases_eq here byte) [
        | inl same ↦ (
          match_at at ∷ rest.0,
          (first at end (omega (arith, is)) inside same, rest.1),
          omega (
            arith,
            rest.2,
            ap (count_by (is_byte byte)) cut,
            sum_by-cons (λ y. cond (is_byte byte y) 1 0) here (take n (drop (at + 1) haystack)),
            ap {B = ℕ} (λ t. cond t 1 0) (eq-eqb here byte same),
          ),
        )
        | inr other ↦ (
          rest.0,
          from_here at end rest.0 (omega (arith, is)) inside other rest.1,
          omega (
            arith,
            rest.2,
            ap (count_by (is_byte byte)) cut,
            sum_by-cons (λ y. cond (is_byte byte y) 1 0) here (take n (drop (at + 1) haystack)),
            ap {B = ℕ} (λ t. cond t 1 0) (ne_eqb here byte other),
          ),
        )
      ]

  -- the first byte that is this one is the leftmost match
  first_of : (start at end : ℕ) → start ≤ at → at < end → end ≤ length haystack
      → ((k : ℕ) → start ≤ k → k < at → ¬ (get_or haystack k 0 ≡ byte)) → get_or haystack at 0 ≡ byte
      → IsLeftmostMatch the_query false haystack (between start end) (match_at at)
  unfolding match_at Begins
  first_of start at end after before inside none is = record {
    occurs = earlier start at end 0 at after (begins at end before inside is);
    whole = refl;
    earliest = λ i p early occurs. none p occurs.after_start early
        (byte_is start end i p (omega (arith, after, before)) inside occurs);
    best = λ i better occurs. none_better kind byte i occurs.is_pattern better;
  }

-- the first byte of a short pattern of one byte is this pattern
only_byte : (short : ShortPattern) (ignore_case : Bool) (patterns : List (List ℕ))
    → IsOnly short ignore_case patterns → short.len ≡ 1 → IsOnlyByte (get_or short.bytes 0 0) ignore_case patterns
only_byte short ignore_case patterns only one = (
  only.only ∙ ap (λ p. p ∷ []) (sym (byte_of short.bytes only.pattern (ap (λ n. take n short.bytes) (sym one)
      ∙ only.is.same) only.is.some)),
  only.with_case,
)
  where
    byte_of : (bytes pattern : List ℕ) → take 1 bytes ≡ pattern → 0 < length pattern
        → get_or bytes 0 0 ∷ [] ≡ pattern
    byte_of [] pattern same some = absurd (omega (arith, some, ap length (sym same)))
    byte_of (b ∷ bytes) pattern same some = same

-- the first byte that is the only pattern is the leftmost match
pub leftmost_byte : (query : Query) (ignore_case : Bool) (haystack : List ℕ) (span : Span) (short : ShortPattern)
    → IsOnly short ignore_case query.patterns → short.len ≡ 1 → IsValidSpan haystack span → (at : ℕ)
    → span.start ≤ at → at < span.end
    → ((k : ℕ) → span.start ≤ k → k < at → ¬ (get_or haystack k 0 ≡ get_or short.bytes 0 0))
    → get_or haystack at 0 ≡ get_or short.bytes 0 0
    → IsLeftmostMatch query ignore_case haystack span (record { pattern = 0; start = at; end = at + 1 })
unfolding match_at
leftmost_byte query ignore_case haystack span short is one valid at after before none here =
    let byte = get_or short.bytes 0 0 in
    let only = only_byte short ignore_case query.patterns is one in
    let found : MatchValue = record { pattern = 0; start = at; end = at + 1 } in
    let first = first_of query.kind haystack byte span.start at span.end after before valid.in_haystack none here in
    subst
    (λ (patterns : List (List ℕ)). IsLeftmostMatch (record { kind = query.kind; patterns = patterns }) ignore_case
    haystack span found) (sym only.0)
    (subst (λ (c : Bool). IsLeftmostMatch (record { kind = query.kind; patterns = (byte ∷ []) ∷ [] }) c haystack span
    found) (sym only.1) first)

-- the number of matches of a pattern of one byte is the number of bytes that are this byte
pub counted_by_byte : (query : Query) (ignore_case : Bool) (haystack : List ℕ) (span : Span) (byte : ℕ)
    → IsOnlyByte byte ignore_case query.patterns → IsValidSpan haystack span → (count : ℕ)
    → count ≡ count_by (is_byte byte) (slice_range haystack span.start span.end)
    → IsGreedyCount query ignore_case haystack span count
counted_by_byte query ignore_case haystack span byte only valid count is =
    let from = counted_from query.kind haystack byte (span.end - span.start) span.start span.end
    (omega (arith, valid.ordered)) valid.in_haystack in
    let greedy = subst
    (λ (patterns : List (List ℕ)). IsGreedyIn (record { kind = query.kind; patterns = patterns }) ignore_case
    haystack span from.0) (sym only.0)
    (subst (λ (c : Bool). IsGreedyIn (record { kind = query.kind; patterns = (byte ∷ []) ∷ [] }) c haystack span from.0)
    (sym only.1) from.1) in
    (from.0, greedy, is ∙ from.2)
