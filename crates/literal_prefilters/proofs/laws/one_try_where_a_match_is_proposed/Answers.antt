use Rattle.std.proofs.Common.{◌≡◌, ℕ, ◌+◌, ◌-◌, ◌≤◌, ◌==◌, true, false, List, [], ◌∷◌, ◌++◌, length, get_or, max}
use Rattle.std.proofs.Common.{replicate, Option, Some, refl, sym, ap, ◌∙◌, arith, option_map, unwrap_or, count_by}
use Rattle.std.specs.List.{All, range_with_len}
use Rattle.std.proofs.Math.ListN.{get_or-append, length-append, length-replicate}
use Rattle.std.proofs.Math.Seq.{get_or-append_seam}
use Rattle.std.proofs.lemmas.List.Elements.{All-append, All-cons, All-get_or, All-replicate}
use Rattle.literal_base.specs.declared.search.Span.{Span}
use Rattle.literal_base.specs.Bytes.{by_byte}
use Rattle.literal_base.specs.MatchValue.{MatchValue}
use Rattle.literal_base.specs.Occurs.{IsValidSpan, between}
use Rattle.literal_prefilters.specs.Confirming.{scanned_once, tried_count}
use Rattle.literal_prefilters.specs.Reached.{is_reached, reached_count}
use Rattle.literal_prefilters.specs.Table.{IsFirst, distance_of, first_place, is_in, step_back}
use Rattle.literal_prefilters.specs.Tables.{table_of}
use Rattle.literal_prefilters.proofs.lemmas.Callers.{first_is, is_first_from}
use Rattle.literal_prefilters.proofs.lemmas.PlacesNear.{first_later, reached_count-tried, valid_rest}
use Rattle.literal_prefilters.proofs.laws.one_try_where_a_match_is_proposed.Goals as goal

-- by the first place of the table
one_try : (table : List (Option ℕ)) (haystack : List ℕ) (span : Span) (place : ℕ) (found : MatchValue)
    → IsValidSpan haystack span → IsFirst table haystack span place
    → step_back table haystack span.start place ≡ found.start
    → (tried_count table haystack span (Some found) ≡ 1)
    × (scanned_once table haystack span (Some found) ≡ place + 1 - span.start)
one_try table haystack span place found valid f e =
    let none : span.start - span.start ≡ 0 = omega arith in
    let empty : reached_count table haystack span span.start ≡ 0 =
    ap (λ k. count_by (is_reached table haystack span.end) (range_with_len span.start k)) none in
    let tried : reached_count table haystack span (step_back table haystack span.start place + 1)
    ≡ reached_count table haystack span span.start + 1 =
    reached_count-tried table haystack span valid span.start place (omega arith) f in
    let from : span.start ≤ found.start = omega (arith, e) in
    let to : found.start ≤ place = omega (arith, e, f.after_start) in
    let again : first_place table haystack (between found.start span.end) ≡ Some place =
    first_is table haystack (between found.start span.end)
    (valid_rest table haystack span valid found.start (omega (arith, f.before_end))) place
    (first_later table haystack span valid span.start place found.start f from to) in (
      ap (λ s. reached_count table haystack span (s + 1)) (sym e) ∙ omega (arith, tried, empty),
      ap (λ o. unwrap_or o 0 + 1 - span.start) again,
    )

pub returns-clause-proposed : goal.returns-clause-proposed
returns-clause-proposed c table haystack span place found valid at proposed =
    one_try table haystack span place found valid (is_first_from table haystack span valid place at)
    (let e : Some (step_back table haystack span.start place) ≡ Some found.start =
    sym (ap (option_map (step_back table haystack span.start)) at) ∙ proposed in cc)

-- the table of `Q` alone
abbrev of_q : ℕ → List (Option ℕ)
of_q d = table_of (λ b. b == 0x51) (λ _. d)

abbrev front : ℕ → List ℕ
front d = replicate 10 0x7A ++ 0xC0 ∷ replicate (d - 1) 0x65

abbrev haystack_of : ℕ → List ℕ
haystack_of d = front d ++ 0x51 ∷ []

is_q : (d : ℕ) → is_in (of_q d) 0x51 ≡ true
unfolding by_byte
is_q d = refl

q_is_back : (d : ℕ) → distance_of (of_q d) 0x51 ≡ Some d
unfolding by_byte
q_is_back d = refl

no_q : (d : ℕ) → All (λ b. is_in (of_q d) b ≡ false) (front d)
unfolding by_byte
no_q d =
    All-append (λ b. is_in (of_q d) b ≡ false) (replicate 10 0x7A) (0xC0 ∷ replicate (d - 1) 0x65)
    (All-replicate (λ b. is_in (of_q d) b ≡ false) 10 0x7A refl)
    (All-cons (λ b. is_in (of_q d) b ≡ false) 0xC0 (replicate (d - 1) 0x65) refl
    (All-replicate (λ b. is_in (of_q d) b ≡ false) (d - 1) 0x65 refl))

length-front : (d : ℕ) → 1 ≤ d → length (front d) ≡ 10 + d
length-front d some =
    let e : ℕ = 0x65 in
    let few : List ℕ = replicate 10 0x7A in
    let rest : List ℕ = 0xC0 ∷ replicate (d - 1) e in
    omega (arith, length-append few rest, length-replicate (d - 1) e)

q_at : (d : ℕ) → 1 ≤ d → get_or (haystack_of d) (10 + d) 0 ≡ 0x51
q_at d some =
    ap (λ k. get_or (haystack_of d) k 0) (sym (length-front d some)) ∙ get_or-append_seam (front d) 0x51 [] 0

valid_of : (d : ℕ) → 1 ≤ d → IsValidSpan (haystack_of d) (between 0 (11 + d))
valid_of d some = record {
  ordered = omega arith;
  in_haystack = let last : List ℕ = 0x51 ∷ [] in omega (arith, length-append (front d) last, length-front d some);
}

first_q : (d : ℕ) → 1 ≤ d → IsFirst (of_q d) (haystack_of d) (between 0 (11 + d)) (10 + d)
first_q d some = record {
  after_start = omega arith;
  before_end = omega arith;
  here = ap (is_in (of_q d)) (q_at d some) ∙ is_q d;
  none_before = λ k after below.
      ap (is_in (of_q d)) (get_or-append (front d) (0x51 ∷ []) 0 k (omega (arith, length-front d some)))
      ∙ All-get_or (λ b. is_in (of_q d) b ≡ false) (front d) k 0 (omega (arith, length-front d some)) (no_q d);
}

back : (d : ℕ) → 1 ≤ d → step_back (of_q d) (haystack_of d) 0 (10 + d) ≡ 10
back d some =
    ap (λ b. max 0 (10 + d - unwrap_or (distance_of (of_q d) b) 0)) (q_at d some)
    ∙ (ap (λ o. max 0 (10 + d - unwrap_or o 0)) (q_is_back d) ∙ omega arith)

pub returns-clause-each_distance : goal.returns-clause-each_distance
returns-clause-each_distance c d some =
    let found : MatchValue = record { pattern = 0; start = 10; end = 11 + d } in
    let both = one_try (of_q d) (haystack_of d) (between 0 (11 + d)) (10 + d) found (valid_of d some) (first_q d some)
    (back d some) in
    (both.0, both.1 ∙ omega arith)
