-- Patterns that end where a walk was told of an end, as occurrences in the haystack.
use Rattle.std.proofs.lemmas.Grind.{common_steps}
use Rattle.std.proofs.Common.{◌≡◌, ℕ, ◌+◌, ◌-◌, ◌<◌, ◌≤◌, Bool, true, false, List, [], ◌∷◌, ◌++◌, length, get_or, map}
use Rattle.std.proofs.Common.{append-nil, drop, take, nat_eq, refl, sym, ap, ◌∙◌, arith, inl, inr, zero, suc}
use Rattle.std.proofs.Math.Seq.{drop-append_seam}
use Rattle.std.proofs.lemmas.Bool.{cases_lt, cond-false, cond-true, false≢true}
use Rattle.std.proofs.lemmas.Bool.Decides.{Decides-eqb}
use Rattle.std.proofs.lemmas.List.{drop-append-le, length-drop, length-map, take-append-drop}
use Rattle.std.proofs.lemmas.List.Folds.{list_any_at}
use Rattle.std.proofs.lemmas.Slice.Eq.{starts_is}
use Rattle.std.specs.List.{starts_with}
use Rattle.literal_base.specs.Occurs.{IsValidSpan, NoneIsEmpty, NothingOccurs, Occurs, between, pattern_at}
use Rattle.literal_base.specs.declared.search.Span.{Span}
use Rattle.literal_rows.specs.Inside.Classes.{Tells, symbols_in}
use Rattle.literal_rows.specs.Inside.Suffixes.{IsSuffix}
use Rattle.literal_rows.specs.Inside.Walk.{NoneEnds, text_of}
use Rattle.literal_rows.specs.Words.{begins_one, live_suffix}
use Rattle.literal_rows.proofs.lemmas.Ends.{whole_if_long}
use Rattle.literal_rows.proofs.lemmas.Found.{occurs_where, some_symbols, stands_where, symbols_length, text_long}
use Rattle.literal_rows.proofs.lemmas.Live.{stands_or_begins}
use Rattle.literal_rows.proofs.lemmas.FirstSuffix.{ends_length, none_ends}
use Rattle.literal_rows.proofs.lemmas.Walk.{text_halves, text_length}

-- where the live suffix is empty no pattern begins with any of the suffixes
nothing_begun : (patterns : List (List ℕ)) (text : List ℕ) → live_suffix patterns text ≡ []
    → (k : ℕ) → k < length text → begins_one patterns (drop k text) ≡ false
nothing_begun patterns [] is = λ k inside. absurd (omega arith)
nothing_begun patterns (symbol ∷ text) is =
    by_begun (begins_one patterns (symbol ∷ text)) refl (nothing_begun patterns text)
  where
    by_begun : (b : Bool) → begins_one patterns (symbol ∷ text) ≡ b
        → (live_suffix patterns text ≡ [] → (k : ℕ) → k < length text
        → begins_one patterns (drop k text) ≡ false)
        → (k : ℕ) → k < length (symbol ∷ text) → begins_one patterns (drop k (symbol ∷ text)) ≡ false
    by_begun true begun further k inside = grind (arith, cond-true)
    by_begun false unbegun further zero inside = unbegun
    by_begun false unbegun further (suc k) inside = grind (arith, cond-false)

pub nothing_read : (classes haystack : List ℕ) (at : ℕ) → text_of classes haystack (between at at) ≡ []
nothing_read classes haystack at = grind arith

module _ (ignore_case : Bool) (classes : List ℕ) (patterns : List (List ℕ)) (tells : Tells ignore_case classes patterns)
    (some : NoneIsEmpty patterns) (haystack : List ℕ) (bytes : (i : ℕ) → get_or haystack i 0 < 256) (span : Span)
    (valid : IsValidSpan haystack span)
  where
    abbrev words : List (List ℕ)
    words = map (symbols_in classes) patterns

    known : length words ≡ length patterns
    known = length-map patterns (symbols_in classes)

    valid_part : (from at : ℕ) → from ≤ at → at ≤ span.end → IsValidSpan haystack (between from at)
    valid_part from at after inside = grind arith

    -- an occurrence is a suffix of what is read up to its end, from no offset behind its start on
    pub occurrence_ends : (from i offset end : ℕ) → from ≤ offset → end ≡ offset + length (pattern_at patterns i)
        → Occurs patterns ignore_case haystack span i offset
        → IsSuffix words (text_of classes haystack (between from end)) i
    occurrence_ends from i offset end after whole o =
        let here = between from end in
        let valid_here = valid_part from end (omega arith) (omega arith) in
        let text = text_of classes haystack here in
        let word = pattern_at words i in
        let stands = stands_where ignore_case classes patterns tells haystack bytes here valid_here i offset
        (grind arith) in
        let long = text_long ignore_case classes patterns tells haystack bytes here valid_here in
        let size = symbols_length classes patterns i in
        let same : drop (offset - from) text ≡ word = grind (arith, length-drop, whole_if_long) in
        record {
          is_pattern = omega (arith, known, o.is_pattern);
          ends = record {
            prefix = take (offset - from) text;
            split = grind (arith, take-append-drop);
          };
        }

    -- and a suffix of what is read occurs
    pub end_occurs : (from at i : ℕ) → span.start ≤ from → from ≤ at → at ≤ span.end
        → IsSuffix words (text_of classes haystack (between from at)) i
        → Occurs patterns ignore_case haystack span i (at - length (pattern_at patterns i))
        × (at ≡ at - length (pattern_at patterns i) + length (pattern_at patterns i))
        × (from ≤ at - length (pattern_at patterns i))
    end_occurs from at i begin after inside is =
        let here = between from at in
        let valid_here = valid_part from at after inside in
        let text = text_of classes haystack here in
        let word = pattern_at words i in
        let prefix = is.ends.prefix in
        let start = at - length (pattern_at patterns i) in
        let long = text_long ignore_case classes patterns tells haystack bytes here valid_here in
        let size = symbols_length classes patterns i in
        let parts_long = ends_length text word is.ends in
        let long_is : length prefix ≡ start - from = omega (arith, long, size, parts_long) in
        let same : drop (start - from) text ≡ word = grind (arith, drop-append_seam) in
        let stands : starts_with nat_eq (drop (start - from) text) word ≡ true =
        (starts_is Decides-eqb (drop (start - from) text) word _ refl).1 [] (same ∙ sym (append-nil word)) in
        let occurs = occurs_where ignore_case classes patterns tells haystack bytes here valid_here i start
        (omega (arith, known)) (omega (arith, long, size, parts_long)) (omega arith) stands in
        grind arith

    -- where the live suffix is empty, no occurrence that ends further on has begun
    pub begins_behind : (from at i offset : ℕ) → from ≤ at → from ≤ offset
        → at < offset + length (pattern_at patterns i)
        → at ≤ span.end
        → live_suffix words (text_of classes haystack (between from at)) ≡ []
        → Occurs patterns ignore_case haystack span i offset → at ≤ offset
    begins_behind from at i offset begin after further inside live o =
        elim (cases_lt offset at) [
          | inr not ↦ not
          | inl early ↦
              let end = offset + length (pattern_at patterns i) in
              let here = between from end in
              let read = text_of classes haystack (between from at) in
              let more = text_of classes haystack (between at end) in
              let k = offset - from in
              let word = pattern_at words i in
              let long = text_length classes haystack from at begin (omega arith) in
              let within : k < length read = omega arith in
              let stands = stands_where ignore_case classes patterns tells haystack bytes here
              (valid_part from end (omega arith) (omega arith)) i offset (grind arith) in
              let split : drop k (text_of classes haystack here) ≡ drop k read ++ more =
              ap (drop k) (text_halves classes haystack from at end begin (omega arith))
              ∙ drop-append-le k read more (omega arith) in
              elim (stands_or_begins (drop k read) more word
              (ap (λ (t : List ℕ). starts_with nat_eq t word) (sym split) ∙ stands)) [
                | inl whole ↦
                    grind (arith, common_steps, symbols_length)
                | inr begun ↦
                    absurd (false≢true (sym (nothing_begun words read live k within)
                    ∙ list_any_at (λ pattern. starts_with nat_eq pattern (drop k read)) words i []
                    (omega (arith, known, o.is_pattern)) begun))
              ]
        ]

    -- where a walk from the first state on was told of no end, nothing occurs
    pub nothing_ends : NoneEnds words [] classes haystack span.start span.end
        → NothingOccurs patterns ignore_case haystack span
    nothing_ends none =
        λ i at o.
        let after = o.after_start in
        let end = at + length (pattern_at patterns i) in
        none_ends words (some_symbols classes patterns some) (text_of classes haystack (between span.start end))
        (none end (omega arith) (omega arith)) i (occurrence_ends span.start i at end after refl o)
