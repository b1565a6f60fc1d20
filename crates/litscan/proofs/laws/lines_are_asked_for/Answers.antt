use Rattle.std.proofs.Common.{◌≡◌, ◌+◌, ◌≤◌, ◌++◌, ◌∷◌, [], ◌==◌, ◌&&◌, ◌∙◌, Bool, List, true, false, ℕ, ap, arith}
use Rattle.std.proofs.Common.{inl, inr, length, refl, slice_index, slice_range, subst, sym, take}
use Rattle.std.proofs.Math.Seq.{get_or-append_seam, take-append_seam, take-length}
use Rattle.std.proofs.lemmas.Bool.{and_from, and_parts, cond-true, eq-eqb, eqb-true, or_cases, or_left, or_right}
use Rattle.std.proofs.lemmas.Grind.{take_at_read}
use Rattle.std.proofs.lemmas.List.{append-nil, length-append, length-map}
use Rattle.std.specs.Char.{to_ascii_lowercase}
use Rattle.literal_base.specs.Occurs.{AreEqualBytes, case_folded, pattern_at}
use Rattle.litscan.specs.Asked.{IsLineOf, ends_line}
use Rattle.litscan.specs.declared.options.Options.{Options}
use Rattle.litscan.proofs.lemmas.Asked.{asked_if, one_asked_if, told_by_any}
use Rattle.litscan.proofs.laws.lines_are_asked_for.Goals as goal

-- bytes are as many whether case is ignored or not
length-folded : (ignore_case : Bool) (bytes : List ℕ) → length (case_folded ignore_case bytes) ≡ length bytes
length-folded true bytes = length-map bytes to_ascii_lowercase
length-folded false bytes = refl

-- the front of a line, up to where a word ends that is as long
front_of : (text rest : List ℕ) (n : ℕ) → n ≡ length text → slice_range (text ++ rest) 0 (0 + n) ≡ text
front_of text rest n is = ap (λ k. take k (text ++ rest)) (omega (arith, is)) ∙ take-append_seam text rest

module _ (options : Options) where
  -- the text of a line up to where it ends
  is_text : (line : List ℕ) (n : ℕ) → ends_line options line n ≡ true
      → IsLineOf options line (slice_range line 0 (0 + n))
  is_text line n ends =
      let front : slice_range line 0 (0 + n) ≡ take n line = ap (λ k. take k line) (omega arith) in
      elim (or_cases (n == length line) _ ends) [
        | inl whole ↦
            inl (sym (front ∙ ap (λ k. take k line) (eqb-true n (length line) whole) ∙ take-length line))
        | inr return ↦
            let parts = and_parts (options.crlf && n + 1 == length line) (slice_index line n == 13) return in
            let sides = and_parts options.crlf (n + 1 == length line) parts.0 in
            let one_less : n + 1 ≡ length line = eqb-true (n + 1) (length line) sides.1 in
            let last : slice_index line n ≡ 13 = eqb-true (slice_index line n) 13 parts.1 in
            inr (
              sides.0,
              sym (ap (λ text. text ++ 13 ∷ []) front ∙ ap (λ byte. take n line ++ byte ∷ []) (sym last)
                  ∙ sym (take_at_read line n 0 (omega (arith, one_less))).1
                  ∙ ap (λ k. take k line) one_less ∙ take-length line),
            )
      ]

  -- a line ends where its text does
  ends_text : (line text : List ℕ) → IsLineOf options line text → ends_line options line (length text) ≡ true
  ends_text line text (inl is) =
      or_left _ _ (eq-eqb (length text) (length line) (ap (λ (l : List ℕ). length l) (sym is)))
  ends_text line text (inr (crlf, is)) =
      let long : length text + 1 ≡ length line =
      sym (ap (λ (l : List ℕ). length l) is ∙ length-append text (13 ∷ [])) in
      let last : slice_index line (length text) ≡ 13 =
      ap (λ (l : List ℕ). slice_index l (length text)) is ∙ get_or-append_seam text 13 [] 0 in
      or_right _ _ (and_from _ _ (and_from _ _ crlf (eq-eqb _ _ long)) (eq-eqb _ _ last))

  -- the front of a line that is as long as its text is the text
  front_is : (line text : List ℕ) (n : ℕ) → IsLineOf options line text → n ≡ length text
      → (slice_range line 0 (0 + n) ≡ text) × (n ≤ length line)
  front_is line text n (inl is) long = (
    ap (λ (l : List ℕ). slice_range l 0 (0 + n)) (is ∙ sym (append-nil text)) ∙ front_of text [] n long,
    omega (arith, long, ap (λ (l : List ℕ). length l) is),
  )
  front_is line text n (inr (crlf, is)) long = (
    ap (λ (l : List ℕ). slice_range l 0 (0 + n)) is ∙ front_of text (13 ∷ []) n long,
    omega (arith, long, ap (λ (l : List ℕ). length l) is, length-append text (13 ∷ [])),
  )

pub returns-clause-occurs : goal.returns-clause-occurs
returns-clause-occurs c = λ search options line. (
  asked_if search options line,
  λ it. one_asked_if search options line it.0 it.1 it.2,
)

pub returns-clause-any : goal.returns-clause-any
returns-clause-any c = λ search options line any_place any_side.
    sym (told_by_any search options line any_place any_side)

pub returns-clause-whole : goal.returns-clause-whole
returns-clause-whole c = λ search options line whole. (
  λ told.
      let o = asked_if search options line told in
      let pattern = pattern_at search.query.patterns o.0 in
      let size = length pattern in
      let parts = and_parts (o.1 == 0) (ends_line options line (o.1 + size))
      (sym (cond-true options.whole _ _ whole) ∙ o.2.asked) in
      let start : o.1 ≡ 0 = eqb-true o.1 0 parts.0 in (
        o.0,
        o.2.occurs.is_pattern,
        slice_range line 0 (0 + size),
        is_text options line size
            (ap (λ n. ends_line options line n) (omega (arith, start)) ∙ parts.1),
        subst (λ at. AreEqualBytes search.ignore_case (slice_range line at (at + size)) pattern) start
            o.2.occurs.same,
      ),
  λ word.
      let pattern = pattern_at search.query.patterns word.0 in
      let text = word.2 in
      let size : length pattern ≡ length text =
      sym (length-folded search.ignore_case pattern) ∙ ap (λ (l : List ℕ). length l) (sym word.4)
      ∙ length-folded search.ignore_case text in
      let front = front_is options line text (length pattern) word.3 size in
      one_asked_if search options line word.0 0 (record {
        occurs = record {
          is_pattern = word.1;
          after_start = omega arith;
          before_end = omega (arith, front.1);
          same = subst (λ bytes. AreEqualBytes search.ignore_case bytes pattern) (sym front.0) word.4;
        };
        asked =
            cond-true options.whole _ _ whole
            ∙ and_from _ _ (eq-eqb 0 0 refl)
            (ap (λ n. ends_line options line n) (omega (arith, size)) ∙ ends_text options line text word.3);
      }),
)
