-- The lines of a text, from its front, and that no others are.
use Rattle.std.proofs.Common.{◌≡◌, ◌≢◌, ◌==◌, ℕ, List, [], ◌∷◌, ◌++◌, refl, sym, ap, ◌∙◌, append-nil, append_assoc}
use Rattle.std.proofs.Common.{inl, inr}
use Rattle.std.proofs.lemmas.Bool.{cases_eq, cond-false, cond-true, eq-eqb, ne_eqb}
use Rattle.std.proofs.lemmas.List.Elements.{All-cons, All-head, All-nil, All-tail}
use Rattle.std.specs.List.{All, flat_map, onto_first}
use Rattle.litscan.specs.Lines.{AreLinesOf, HasNoEnd, last_line, lines_of, with_byte, with_end}

module _ (line_end : ℕ) where
  -- a byte does not end a line
  abbrev pub Other : ℕ → Type 0
  Other byte = byte ≢ line_end

  -- a byte that does not end a line extends the first line
  other_byte : (byte : ℕ) (lines : List (List ℕ)) → byte ≢ line_end
      → with_byte line_end byte lines ≡ onto_first byte lines
  other_byte byte lines other = cond-false (byte == line_end) _ _ (ne_eqb byte line_end other)

  -- the first line of a text
  lines_of-line : (line rest : List ℕ) → HasNoEnd line_end line
      → lines_of line_end (with_end line_end line ++ rest) ≡ line ∷ lines_of line_end rest
  lines_of-line [] rest whole = cond-true (line_end == line_end) _ _ (eq-eqb line_end line_end refl)
  lines_of-line (byte ∷ more) rest whole =
      ap (with_byte line_end byte) (lines_of-line more rest (All-tail Other byte more whole))
      ∙ other_byte byte _ (All-head Other byte more whole)

  -- a text without the end of a line
  lines_of-last : (last : List ℕ) → HasNoEnd line_end last → lines_of line_end last ≡ last_line last
  lines_of-last [] whole = refl
  lines_of-last (byte ∷ []) whole = other_byte byte _ (All-head Other byte [] whole)
  lines_of-last (byte ∷ next ∷ more) whole =
      ap (with_byte line_end byte) (lines_of-last (next ∷ more) (All-tail Other byte (next ∷ more) whole))
      ∙ other_byte byte _ (All-head Other byte (next ∷ more) whole)

  -- the lines of a text that is split after the last end of a line
  pub lines_of-split : (before : List (List ℕ)) (last : List ℕ) → All (HasNoEnd line_end) before
      → HasNoEnd line_end last
      → lines_of line_end (flat_map (with_end line_end) before ++ last) ≡ before ++ last_line last
  lines_of-split [] last whole last_whole = lines_of-last last last_whole
  lines_of-split (line ∷ more) last whole last_whole =
      ap (lines_of line_end) (append_assoc (with_end line_end line) (flat_map (with_end line_end) more) last)
      ∙ (lines_of-line line (flat_map (with_end line_end) more ++ last) (All-head (HasNoEnd line_end) line more whole)
      ∙ ap (λ lines. line ∷ lines) (lines_of-split more last (All-tail (HasNoEnd line_end) line more whole) last_whole))

  -- lines without ends in them are the lines of the text that they make
  pub lines_of-feeds : (lines : List (List ℕ)) → All (HasNoEnd line_end) lines
      → lines_of line_end (flat_map (with_end line_end) lines) ≡ lines
  lines_of-feeds lines whole =
      ap (lines_of line_end) (sym (append-nil (flat_map (with_end line_end) lines)))
      ∙ lines_of-split lines [] whole (All-nil Other)
      ∙ append-nil lines

  pub only_lines : (text : List ℕ) (lines : List (List ℕ)) → AreLinesOf line_end text lines
      → lines ≡ lines_of line_end text
  only_lines text lines are =
      are.lines_are ∙ sym (ap (lines_of line_end) are.text_is
      ∙ lines_of-split are.before are.last are.before_whole are.last_whole)

  -- one more byte, which does not end a line, in front of a text whose lines are known
  with_other : (byte : ℕ) (text : List ℕ) (before : List (List ℕ)) (last : List ℕ) → byte ≢ line_end
      → text ≡ flat_map (with_end line_end) before ++ last → All (HasNoEnd line_end) before → HasNoEnd line_end last
      → AreLinesOf line_end (byte ∷ text) (onto_first byte (before ++ last_line last))
  with_other byte text [] [] other is whole last_whole = record {
    before = [];
    last = byte ∷ [];
    text_is = ap (λ bytes. byte ∷ bytes) is;
    lines_are = refl;
    before_whole = All-nil (HasNoEnd line_end);
    last_whole = All-cons Other byte [] other last_whole;
  }
  with_other byte text [] (next ∷ more) other is whole last_whole = record {
    before = [];
    last = byte ∷ next ∷ more;
    text_is = ap (λ bytes. byte ∷ bytes) is;
    lines_are = refl;
    before_whole = All-nil (HasNoEnd line_end);
    last_whole = All-cons Other byte (next ∷ more) other last_whole;
  }
  with_other byte text (line ∷ more) last other is whole last_whole = record {
    before = (byte ∷ line) ∷ more;
    last = last;
    text_is = ap (λ bytes. byte ∷ bytes) is;
    lines_are = refl;
    before_whole =
        All-cons (HasNoEnd line_end) (byte ∷ line) more
        (All-cons Other byte line other (All-head (HasNoEnd line_end) line more whole))
        (All-tail (HasNoEnd line_end) line more whole);
    last_whole = last_whole;
  }

  with_byte_more : (byte : ℕ) (text : List ℕ) (lines : List (List ℕ)) → AreLinesOf line_end text lines
      → AreLinesOf line_end (byte ∷ text) (with_byte line_end byte lines)
  with_byte_more byte text lines are =
      elim (cases_eq byte line_end) [
        | inl feed ↦
            record {
              before = [] ∷ are.before;
              last = are.last;
              text_is = ap (λ b. b ∷ text) feed ∙ ap (λ bytes. line_end ∷ bytes) are.text_is;
              lines_are = cond-true (byte == line_end) _ _ (eq-eqb byte line_end feed)
                  ∙ ap (λ ls. [] ∷ ls) are.lines_are;
              before_whole = All-cons (HasNoEnd line_end) [] are.before (All-nil Other) are.before_whole;
              last_whole = are.last_whole;
            }
        | inr other ↦
            rw (other_byte byte lines other, are.lines_are)
            (with_other byte text are.before are.last other are.text_is are.before_whole are.last_whole)
      ]

  pub lines_are : (text : List ℕ) → AreLinesOf line_end text (lines_of line_end text)
  lines_are [] = record {
    before = [];
    last = [];
    text_is = refl;
    lines_are = refl;
    before_whole = All-nil (HasNoEnd line_end);
    last_whole = All-nil Other;
  }
  lines_are (byte ∷ more) = with_byte_more byte more (lines_of line_end more) (lines_are more)
