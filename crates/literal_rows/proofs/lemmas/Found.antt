-- The best match in the classes of a span's bytes is the leftmost match in the span.
use Rattle.std.proofs.Common.{rules, ◌≡◌, ℕ, ◌+◌, ◌-◌, ◌<◌, ◌≤◌, Bool, true, false, List, [], length, get_or, drop}
use Rattle.std.proofs.Common.{take, map, refl, sym, ap, ◌∙◌, arith, nat_eq, length-append}
use Rattle.std.proofs.lemmas.Bool.{cases_lt}
use Rattle.std.proofs.lemmas.Bool.Decides.{Decides-eqb}
use Rattle.std.proofs.lemmas.List.{drop-drop, drop-map, drop-take, ext_get_or, get_or-drop, get_or-map, get_or-take}
use Rattle.std.proofs.lemmas.List.{get_or_past, length-drop, length-map, length-take, map-id, take-map, take-take}
use Rattle.std.proofs.lemmas.Slice.Eq.{starts_is}
use Rattle.std.specs.List.{slice_range, starts_with}
use Rattle.literal_base.specs.declared.search.Span.{Span}
use Rattle.literal_base.specs.Occurs.{IsValidSpan, NoneIsEmpty, Occurs, case_folded, pattern_at}
use Rattle.literal_rows.specs.Inside.Classes.{Tells, folded, symbols_in}
use Rattle.literal_rows.specs.Inside.Walk.{text_of}

-- lists that one function makes equal, another makes equal too, where it does so byte for byte
map_same : (f g : ℕ → ℕ) (a p : List ℕ)
    → ((k : ℕ) → k < length a → k < length p → f (get_or a k 0) ≡ f (get_or p k 0) → g (get_or a k 0)
    ≡ g (get_or p k 0))
    → map f a ≡ map f p → map g a ≡ map g p
map_same f g a p each is =
    let la = length-map a f in
    let lp = length-map p f in
    let ga = length-map a g in
    let gp = length-map p g in
    let same = ap (λ (l : List ℕ). length l) is in
    ext_get_or 0 (map g a) (map g p) (omega (arith, la, lp, ga, gp, same)) (λ k below.
    let in_a : k < length a = omega (arith, ga) in
    let in_p : k < length p = omega (arith, la, lp, same, in_a) in
    get_or-map g a k 0 0 in_a
    ∙ (each k in_a in_p
    (sym (get_or-map f a k 0 0 in_a) ∙ (ap (λ l. get_or l k 0) is ∙ get_or-map f p k 0 0 in_p))
    ∙ sym (get_or-map g p k 0 0 in_p)))

pub folded_is : (ignore_case : Bool) (bytes : List ℕ) → case_folded ignore_case bytes ≡ map (folded ignore_case) bytes
folded_is true bytes = refl
folded_is false bytes = sym (map-id bytes)

-- a pattern has as many symbols as bytes
pub symbols_length : (classes : List ℕ) (patterns : List (List ℕ)) (i : ℕ)
    → length (pattern_at (map (symbols_in classes) patterns) i) ≡ length (pattern_at patterns i)
symbols_length classes patterns i = grind (arith, get_or-map, length-map, get_or_past)

-- a part of a span's text is that of the haystack
part_is : (classes haystack : List ℕ) (span : Span) (at n : ℕ) → span.start ≤ at → at + n ≤ span.end
    → take n (drop (at - span.start) (text_of classes haystack span))
    ≡ symbols_in classes (slice_range haystack at (at + n))
part_is classes haystack span at n after before =
    let size : span.end - span.start ≡ (at - span.start) + (span.end - at) = omega arith in
    grind (arith, drop-map, take-map, drop-take, take-take, drop-drop)

-- what is a prefix of a text is its prefix of that length
stands_prefix : (text pattern : List ℕ) → starts_with nat_eq text pattern ≡ true → take (length pattern) text ≡ pattern
stands_prefix text pattern is = search rules

prefix_stands : (text pattern : List ℕ) → take (length pattern) text ≡ pattern → starts_with nat_eq text pattern ≡ true
prefix_stands text pattern is = search rules

module _ (ignore_case : Bool) (classes : List ℕ) (patterns : List (List ℕ)) (tells : Tells ignore_case classes patterns)
    (haystack : List ℕ) (bytes : (i : ℕ) → get_or haystack i 0 < 256) (span : Span) (valid : IsValidSpan haystack span)
  where
    word_at : (i : ℕ) → i < length patterns
        → pattern_at (map (symbols_in classes) patterns) i ≡ symbols_in classes (pattern_at patterns i)
    word_at i below = get_or-map (symbols_in classes) patterns i [] [] below

    same_length : (i : ℕ) → length (pattern_at (map (symbols_in classes) patterns) i) ≡ length (pattern_at patterns i)
    same_length i = symbols_length classes patterns i

    part_byte : (from to k : ℕ) → get_or (slice_range haystack from to) k 0 < 256
    part_byte from to k = grind (arith, cases_lt, get_or-drop, get_or-take, get_or_past, length-take)

    pub text_long : span.start + length (text_of classes haystack span) ≡ span.end
    text_long = grind (arith, length-drop, length-map, length-take)

    -- a pattern that occurs stands there by its classes
    pub stands_where : (i at : ℕ) → Occurs patterns ignore_case haystack span i at
        → starts_with nat_eq (drop (at - span.start) (text_of classes haystack span))
        (pattern_at (map (symbols_in classes) patterns) i) ≡ true
    stands_where i at o = grind (arith, folded_is, map_same, part_byte, part_is, prefix_stands, same_length, word_at)

    -- and one that stands there occurs
    pub occurs_where : (i at : ℕ) → i < length patterns → span.start ≤ at → at ≤ span.end
        → starts_with nat_eq (drop (at - span.start) (text_of classes haystack span))
        (pattern_at (map (symbols_in classes) patterns) i) ≡ true
        → Occurs patterns ignore_case haystack span i at
    occurs_where i at below after inside stands =
        let p = pattern_at patterns i in
        let a = slice_range haystack at (at + length p) in
        let text = drop (at - span.start) (text_of classes haystack span) in
        let word = pattern_at (map (symbols_in classes) patterns) i in
        let split = (starts_is Decides-eqb text word _ refl).0 stands in
        let before : at + length p ≤ span.end = omega (
          arith,
          same_length i,
          text_long,
          ap (λ (l : List ℕ). length l) split,
          length-append word (drop (length word) text),
          length-drop (at - span.start) (text_of classes haystack span),
        ) in
        let same = map_same (λ b. get_or classes b 0) (folded ignore_case) a p
        (λ k in_a in_p. (tells i k (get_or a k 0) below in_p (part_byte at (at + length p) k)).0)
        (sym (part_is classes haystack span at (length p) after before)
        ∙ (ap (λ n. take n text) (sym (same_length i)) ∙ (stands_prefix text word stands ∙ word_at i below))) in
        grind (arith, folded_is)

-- no text of classes of a pattern is empty if no pattern is
pub some_symbols : (classes : List ℕ) (patterns : List (List ℕ)) → NoneIsEmpty patterns
    → NoneIsEmpty (map (symbols_in classes) patterns)
some_symbols classes patterns some i d below =
    let inside : i < length patterns = omega (arith, length-map patterns (symbols_in classes)) in
    let read = get_or-map (symbols_in classes) patterns i [] d inside in
    grind (arith, length-map)
