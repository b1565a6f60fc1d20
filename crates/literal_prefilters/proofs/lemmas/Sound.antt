-- A step by a table that covers the patterns passes over no occurrence.
-- For `ByteTable::candidate` and the law `covering_tables_are_sound`.
use Rattle.std.proofs.Common.{◌≡◌, ℕ, ◌+◌, ◌-◌, ◌<◌, ◌≤◌, Bool, true, false, List, [], length, position, slice_index}
use Rattle.std.proofs.Common.{slice_range, Option, Some, None, IfSome, MatchOption, is_some, option_map, unwrap_or}
use Rattle.std.proofs.Common.{refl, sym, ap, ◌∙◌, ⊎_elim, subst, arith}
use Rattle.std.specs.List.{All}
use Rattle.std.proofs.lemmas.Bool.{cases_lt}
use Rattle.std.proofs.lemmas.List.Edits.{length-between, get_or-between}
use Rattle.std.proofs.lemmas.List.Quantifiers.{position-Some}
use Rattle.literal_base.specs.declared.search.Span.{Span}
use Rattle.literal_base.specs.Occurs.{AreEqualBytes, pattern_at, IsValidSpan, Occurs, NothingOccurs}
use Rattle.literal_base.specs.Bytes.{AreBytes}
use Rattle.literal_base.specs.declared.packed.MatchKind.{MatchKind}
use Rattle.literal_prefilters.specs.Answers.{candidate_of}
use Rattle.literal_prefilters.specs.Sound.{Sound}
use Rattle.literal_prefilters.specs.Table.{IsFirst, distance_of, is_in, first_place, step_back, proposed_place, Covers}
use Rattle.literal_prefilters.proofs.lemmas.Callers.{IsFree, is_first_from, free_from_first}

-- the earliest offset at which the text has a byte of the table, with its distance
record EarliestOffset (table : List (Option ℕ)) (text : List ℕ) : Type 0 where
  offset : ℕ
  inside : offset < length text
  here : is_in table (slice_index text offset) ≡ true
  before : (k : ℕ) → k < offset → is_in table (slice_index text k) ≡ false
  far : IfSome (distance_of table (slice_index text offset)) (λ d. offset ≤ d)

earliest : (table : List (Option ℕ)) (c : Bool) (p v : List ℕ) → Covers table c p → AreBytes v → AreEqualBytes c v p
    → EarliestOffset table v
earliest table c p v covers bytes same = from (position (is_in table) v) refl (covers v bytes same)
  where
    from : (o : Option ℕ) → position (is_in table) v ≡ o
        → MatchOption o ⊥ (λ j. IfSome (distance_of table (slice_index v j)) (λ d. j ≤ d)) → EarliestOffset table v
    from None e h = absurd h
    from (Some j) e h =
        let at = position-Some (is_in table) v j 0 e in record {
          offset = j;
          inside = at.0;
          here = at.1;
          before = at.2;
          far = h;
        }

-- the distance of a byte of the table, read without its `Some`
far_back : (o : Option ℕ) (n : ℕ) → is_some o ≡ true → IfSome o (λ d. n ≤ d) → n ≤ unwrap_or o 0
far_back None n here h = absurd cc
far_back (Some d) n here h = h

module _ (table : List (Option ℕ)) (patterns : List (List ℕ)) (c : Bool) (covers : All (Covers table c) patterns)
    (haystack : List ℕ) (bytes : AreBytes haystack) (span : Span) (valid : IsValidSpan haystack span) where
  -- an occurrence has a byte of the table, from which its distance leads back to where the occurrence begins or before
  record Reached (i at : ℕ) : Type 0 where
    offset : ℕ
    inside : offset < length (pattern_at patterns i)
    before_end : at + offset < span.end
    here : is_in table (slice_index haystack (at + offset)) ≡ true
    before : (k : ℕ) → k < offset → is_in table (slice_index haystack (at + k)) ≡ false
    far : IfSome (distance_of table (slice_index haystack (at + offset))) (λ d. offset ≤ d)

  reached : (i at : ℕ) → Occurs patterns c haystack span i at → Reached i at
  reached i at o =
      let p = pattern_at patterns i in
      let v = slice_range haystack at (at + length p) in
      let within : at + length p ≤ length haystack = omega (arith, valid.in_haystack, o.before_end) in
      let long : length v ≡ length p = omega (arith, length-between haystack at (at + length p) within) in
      let v_bytes : AreBytes v = λ k d below.
      let inside : at + k < at + length p = omega arith in
      let P : ℕ → Type 0 = λ b. b < 256 in subst P (sym (get_or-between haystack at (at + length p) k d inside))
      (bytes (at + k) d (omega arith))
      in
      let e = earliest table c p v (covers i [] o.is_pattern) v_bytes o.same in
      let read : (k : ℕ) → k < length v → slice_index v k ≡ slice_index haystack (at + k) =
      λ k below. get_or-between haystack at (at + length p) k 0 (omega arith) in
      let F : ℕ → Type 0 = λ b. IfSome (distance_of table b) (λ d. e.offset ≤ d) in
      record {
        offset = e.offset;
        inside = omega (arith, e.inside);
        before_end = omega (arith, e.inside, o.before_end);
        here = sym (ap (is_in table) (read e.offset e.inside)) ∙ e.here;
        before = λ k below. sym (ap (is_in table) (read k (omega (arith, e.inside)))) ∙ e.before k below;
        far = subst F (read e.offset e.inside) e.far;
      }

  -- the first place of the table in the span lies before the end of an occurrence
  pub first_in_occurrence : (place : ℕ) → IsFirst table haystack span place → (i at : ℕ)
      → Occurs patterns c haystack span i at → place < at + length (pattern_at patterns i)
  first_in_occurrence place f i at o =
      let r = reached i at o in
      let after = o.after_start in
      ⊎_elim
      (λ (h : at + r.offset < place). absurd
      (let no = f.none_before (at + r.offset) (omega arith) h in let yes = r.here in cc))
      (λ (h : place ≤ at + r.offset). omega (arith, r.inside)) (cases_lt (at + r.offset) place)

  -- the first place of the table in the span does not lead past an occurrence
  pub none_before_step : (place : ℕ) → IsFirst table haystack span place → (i at : ℕ)
      → Occurs patterns c haystack span i at → step_back table haystack span.start place ≤ at
  none_before_step place f i at o =
      let r = reached i at o in
      let after = o.after_start in
      let not_later : place ≤ at + r.offset = ⊎_elim
      (λ (h : at + r.offset < place). absurd
      (let no = f.none_before (at + r.offset) (omega arith) h in let yes = r.here in cc))
      (λ (h : place ≤ at + r.offset). h) (cases_lt (at + r.offset) place) in
      ⊎_elim
      (λ (early : place < at). omega arith)
      (λ (late : at ≤ place).
      let same : place ≡ at + r.offset =
      ⊎_elim
      (λ (h : place < at + r.offset). absurd (let at_place : at + (place - at) ≡ place = omega arith in
      let no = ap (λ k. is_in table (slice_index haystack k)) at_place ∙ f.here in
      let yes = r.before (place - at) (omega arith) in cc))
      (λ (h : at + r.offset ≤ place). omega arith)
      (cases_lt place (at + r.offset))
      in
      let F : ℕ → Type 0 = λ k. IfSome (distance_of table (slice_index haystack k)) (λ d. r.offset ≤ d) in
      let far = far_back (distance_of table (slice_index haystack place)) r.offset f.here (subst F (sym same) r.far) in
      omega arith)
      (cases_lt place at)

  pub nothing_from_free : IsFree table haystack span.start span.end → NothingOccurs patterns c haystack span
  nothing_from_free free i at o =
      let r = reached i at o in
      let after = o.after_start in
      let no = free.none (at + r.offset) (omega arith) r.before_end in let yes = r.here in cc

  pub step-sound : (kind : MatchKind) → Sound (record { kind = kind; patterns = patterns }) c haystack span
      (candidate_of (proposed_place table haystack span))
  step-sound kind = from (first_place table haystack span) refl
    where
      from : (o : Option ℕ) → first_place table haystack span ≡ o
          → Sound (record { kind = kind; patterns = patterns }) c haystack span
          (candidate_of (option_map (step_back table haystack span.start) o))
      from None e = nothing_from_free (free_from_first table haystack span valid e)
      from (Some place) e =
          let f = is_first_from table haystack span valid place e in
          let after = f.after_start in
          let before = f.before_end in record {
            after_start = omega arith;
            before_end = omega arith;
            none_before = none_before_step place f;
          }
