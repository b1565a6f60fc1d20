-- Patterns without their first bytes.
use Rattle.std.proofs.Common.{◌≡◌, ℕ, ◌+◌, ◌-◌, ◌<◌, ◌≤◌, ◌∙◌, Bool, false, true, List, [], ap, arith, drop}
use Rattle.std.proofs.Common.{◌∷◌, length, min, refl, slice_range, subst, suc, sym, zero}
use Rattle.std.proofs.Math.Seq.{drop-nil}
use Rattle.std.proofs.lemmas.List.{drop-drop, drop-map, drop-take, get_or-map, length-drop, length-map}
use Rattle.std.specs.List.{All}
use Rattle.std.specs.Char.{to_ascii_lowercase}
use Rattle.literal_base.specs.Occurs.{AreEqualBytes, Occurs, between, pattern_at}
use Rattle.literal_base.specs.declared.search.Span.{Span}
use Rattle.literal_fingerprints.specs.CandidateScans.{without_first}

-- each is one of the patterns, without these
pub pattern_behind : (n : ℕ) (patterns : List (List ℕ)) (i : ℕ)
    → pattern_at (without_first n patterns) i ≡ drop n (pattern_at patterns i)
pattern_behind n [] i = sym (drop-nil n)
pattern_behind n (pattern ∷ more) zero = refl
pattern_behind n (pattern ∷ more) (suc i) = pattern_behind n more i

-- what holds of each pattern without its first bytes holds of all without these
pub all_behind : (P : List ℕ → Type 0) (n : ℕ) (patterns : List (List ℕ))
    → All (λ (pattern : List ℕ). P (drop n pattern)) patterns → All P (without_first n patterns)
all_behind P n patterns each i d below =
    let inside : i < length patterns = omega (arith, below, length-map patterns (drop {A = ℕ} n)) in
    subst P (sym (get_or-map (drop n) patterns i [] d inside)) (each i [] inside)

-- bytes that are equal are so without the first ones
equal_behind : (ignore_case : Bool) (n : ℕ) (a b : List ℕ) → AreEqualBytes ignore_case a b
    → AreEqualBytes ignore_case (drop n a) (drop n b)
equal_behind false n a b same = ap (drop n) same
equal_behind true n a b same =
    sym (drop-map to_ascii_lowercase n a) ∙ (ap (drop n) same ∙ drop-map to_ascii_lowercase n b)

-- a part that begins later is the part without its first bytes
pub part_behind : (xs : List ℕ) (start end n : ℕ) → start + n ≤ end
    → slice_range xs (start + n) end ≡ drop n (slice_range xs start end)
part_behind xs start end n within =
    let len : n + (end - (start + n)) ≡ end - start = omega (arith, within) in
    grind (arith, drop-take, drop-drop)

-- what occurs in a span does so without them in the rest of the span
pub occurs_behind : (n : ℕ) (patterns : List (List ℕ)) (ignore_case : Bool) (haystack : List ℕ) (span : Span) (i at : ℕ)
    → n ≤ length (pattern_at patterns i) → Occurs patterns ignore_case haystack span i at
    → Occurs (without_first n patterns) ignore_case haystack (between (span.start + n) span.end) i (at + n)
occurs_behind n patterns ignore_case haystack span i at long o =
    let pattern = pattern_at patterns i in
    let size : at + n + length (drop n pattern) ≡ at + length pattern = omega (arith, length-drop n pattern, long) in
    let same : AreEqualBytes ignore_case (slice_range haystack (at + n) (at + n + length (drop n pattern)))
    (drop n pattern) =
    subst (λ end. AreEqualBytes ignore_case (slice_range haystack (at + n) end) (drop n pattern)) (sym size)
    (subst (λ part. AreEqualBytes ignore_case part (drop n pattern))
    (sym (part_behind haystack at (at + length pattern) n (omega (arith, long))))
    (equal_behind ignore_case n (slice_range haystack at (at + length pattern)) pattern o.same)) in
    record {
      is_pattern = omega (arith, o.is_pattern, length-map patterns (drop {A = ℕ} n));
      after_start = omega (arith, o.after_start);
      before_end = subst (λ (bytes : List ℕ). at + n + length bytes ≤ span.end) (sym (pattern_behind n patterns i))
          (omega (arith, size, o.before_end));
      same = subst (λ (bytes : List ℕ). AreEqualBytes ignore_case (slice_range haystack (at + n)
          (at + n + length bytes)) bytes) (sym (pattern_behind n patterns i)) same;
    }

-- the same in a span of which so many bytes are skipped, if there are as many
pub occurs_in_rest : (skipped n : ℕ) (patterns : List (List ℕ)) (ignore_case : Bool) (haystack : List ℕ) (span : Span)
    (i at : ℕ) → n ≡ min skipped (span.end - span.start) → 0 < length (pattern_at (without_first skipped patterns) i)
    → Occurs patterns ignore_case haystack span i at
    → Occurs (without_first skipped patterns) ignore_case haystack (between (span.start + n) span.end) i (at + n)
occurs_in_rest skipped n patterns ignore_case haystack span i at is some o =
    let more : 0 < length (drop skipped (pattern_at patterns i)) =
    subst (λ (bytes : List ℕ). 0 < length bytes) (pattern_behind skipped patterns i) some in
    let long : skipped < length (pattern_at patterns i) =
    omega (arith, more, length-drop skipped (pattern_at patterns i)) in
    let all : skipped ≡ n = omega (arith, is, long, o.after_start, o.before_end) in
    subst (λ m. Occurs (without_first skipped patterns) ignore_case haystack (between (span.start + m) span.end) i
    (at + m)) all (occurs_behind skipped patterns ignore_case haystack span i at (omega (arith, long)) o)
