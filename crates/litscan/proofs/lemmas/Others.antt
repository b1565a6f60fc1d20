-- Lines without a match: how many are selected, and what is printed of them. For `ahead`.
use Rattle.std.proofs.Common.{◌≡◌, ◌+◌, ◌-◌, ◌≤◌, ◌&&◌, ◌||◌, ◌++◌, ◌∙◌, ℕ, Bool, List, [], ◌∷◌, true, false, not}
use Rattle.std.proofs.Common.{ap, append-nil, append_assoc, arith, cond, inl, inr, length, refl, subst, sym}
use Rattle.std.proofs.lemmas.Bool.{both_ways, cases_Bool, cond-false, cond-true}
use Rattle.std.proofs.lemmas.List.{take_all}
use Rattle.std.proofs.lemmas.List.Elements.{All-head, All-tail}
use Rattle.std.proofs.lemmas.List.Sums.{sum_by-cons}
use Rattle.std.specs.List.{All, count_by, flat_map}
use Rattle.literal_search.specs.SearchValue.{SearchValue}
use Rattle.litscan.specs.Asked.{AreMatches, one_asked}
use Rattle.litscan.specs.Inside.Passed.{HasNoMatch, HasNoWord, printed_each, prints_others}
use Rattle.litscan.specs.Lines.{with_end}
use Rattle.litscan.specs.Options.{is_marked, is_silent}
use Rattle.litscan.specs.Printed.{PrintsFound, PrintsLine, PrintsLines, PrintsUnlessSilent, PrintsWhole, counts}
use Rattle.litscan.specs.Printed.{has_head, printed_part, printed_tab}
use Rattle.litscan.specs.declared.options.Options.{Options}
use Rattle.litscan.proofs.lemmas.Asked.{asked_if, one_asked_if}
use Rattle.litscan.proofs.lemmas.Printing.{length-feeds}

-- where none of three things is asked for, nothing is printed of them
none_of_three : (a b c : Bool) (x y z : List ℕ) → (a || b || c) ≡ false
    → cond a x [] ++ cond b y [] ++ cond c z [] ≡ []
none_of_three true b c x y z none = absurd (cc)
none_of_three false true c x y z none = absurd (cc)
none_of_three false false true x y z none = absurd (cc)
none_of_three false false false x y z none = refl

no_tab : (tab head some : Bool) → head ≡ false → cond {A = List ℕ} (tab && head && some) (9 ∷ []) [] ≡ []
no_tab true true some none = absurd (cc)
no_tab true false some none = refl
no_tab false head some none = refl

-- no more are selected than there are
pub few_others : (others : Bool) (lines count : ℕ) → count ≡ cond others lines 0 → count ≤ lines
few_others true lines count is = omega (arith, is)
few_others false lines count is = omega (arith, is)

module _ (search : SearchValue) (options : Options) where
  -- a line without a word has no match
  pub no_match : (line : List ℕ) → HasNoWord search line → HasNoMatch search options line
  no_match line none =
      elim (cases_Bool (one_asked search options line)) [
        | inl told ↦ let is = asked_if search options line told in absurd (none is.0 is.1 is.2.occurs)
        | inr other ↦ other
      ]

  -- such a line is selected exactly with `-v`
  pub counts_other : (line : List ℕ) → HasNoMatch search options line → counts search options line ≡ options.others
  counts_other line none = by options.others none
    where
      by : (others : Bool) → one_asked search options line ≡ false
          → cond others (not (one_asked search options line)) (one_asked search options line) ≡ others
      by true asked = ap not asked
      by false asked = asked

  pub others_counted : (lines : List (List ℕ)) → All (HasNoMatch search options) lines
      → count_by (counts search options) lines ≡ cond options.others (length lines) 0
  others_counted lines none = by options.others refl lines none
    where
      by : (others : Bool) → options.others ≡ others → (lines : List (List ℕ)) → All (HasNoMatch search options) lines
          → count_by (counts search options) lines ≡ cond others (length lines) 0
      by true is [] none = refl
      by false is [] none = refl
      by true is (line ∷ more) none =
          let one = cond-true {A = ℕ} (counts search options line) 1 0
          (counts_other line (All-head (HasNoMatch search options) line more none) ∙ is) in
          let rest = by true is more (All-tail (HasNoMatch search options) line more none) in
          omega (arith, one, rest, sum_by-cons (λ l. cond {A = ℕ} (counts search options l) 1 0) line more)
      by false is (line ∷ more) none =
          let one = cond-false {A = ℕ} (counts search options line) 1 0
          (counts_other line (All-head (HasNoMatch search options) line more none) ∙ is) in
          let rest = by false is more (All-tail (HasNoMatch search options) line more none) in
          omega (arith, one, rest, sum_by-cons (λ l. cond {A = ℕ} (counts search options l) 1 0) line more)

  module _ (name : List ℕ) where
    nothing_in : (line : List ℕ) → HasNoMatch search options line → AreMatches search options line 0 []
    nothing_in line none i at asked = both_ways _ none (one_asked_if search options line i at asked)

    -- lines that are not selected
    none_printed : options.others ≡ false → (number offset : ℕ) (lines : List (List ℕ))
        → All (HasNoMatch search options) lines → PrintsLines search options name number offset lines []
    none_printed kept number offset [] none = refl
    none_printed kept number offset (line ∷ more) none = (
      [],
      [],
      subst (λ b. PrintsLine b search options name number offset line [])
          (sym (counts_other line (All-head (HasNoMatch search options) line more none) ∙ kept)) refl,
      none_printed kept (number + 1) (offset + length line + 1) more
          (All-tail (HasNoMatch search options) line more none),
      refl,
    )

    -- lines that are selected, of which only the matches are printed
    no_match_printed : options.others ≡ true → options.only ≡ true → (number offset : ℕ) (lines : List (List ℕ))
        → All (HasNoMatch search options) lines → PrintsLines search options name number offset lines []
    no_match_printed others only number offset [] none = refl
    no_match_printed others only number offset (line ∷ more) none =
        let word = All-head (HasNoMatch search options) line more none in (
          [],
          [],
          subst (λ b. PrintsLine b search options name number offset line [])
              (sym (counts_other line word ∙ others))
              (subst (λ b. PrintsFound b search options name number offset line []) (sym only)
              ([], nothing_in line word, refl)),
          no_match_printed others only (number + 1) (offset + length line + 1) more
              (All-tail (HasNoMatch search options) line more none),
          refl,
        )

    whole_printed : (number offset : ℕ) (line : List ℕ) → HasNoMatch search options line
        → PrintsWhole (is_marked options) search options name number offset line
        (printed_part options name number offset line line)
    whole_printed number offset line none = by (is_marked options)
      where
        by : (marked : Bool) → PrintsWhole marked search options name number offset line
            (printed_part options name number offset line line)
        by false = refl
        by true = (
          [],
          nothing_in line none,
          sym (ap (λ l. printed_part options name number offset line l)
              (take_all (length line - 0) line (omega arith))),
        )

    -- lines that are selected, and printed
    all_printed : options.others ≡ true → options.only ≡ false → (number offset : ℕ) (lines : List (List ℕ))
        → All (HasNoMatch search options) lines
        → PrintsLines search options name number offset lines (printed_each options name number offset lines)
    all_printed others all number offset [] none = refl
    all_printed others all number offset (line ∷ more) none =
        let word = All-head (HasNoMatch search options) line more none in
        let part = printed_part options name number offset line line in (
          part,
          printed_each options name (number + 1) (offset + length line + 1) more,
          subst (λ b. PrintsLine b search options name number offset line part) (sym (counts_other line word ∙ others))
              (subst (λ b. PrintsFound b search options name number offset line part) (sym all)
              (whole_printed number offset line word)),
          all_printed others all (number + 1) (offset + length line + 1) more
              (All-tail (HasNoMatch search options) line more none),
          refl,
        )

    pub others_printed : (lines : List (List ℕ)) → All (HasNoMatch search options) lines → (number offset : ℕ)
        → PrintsUnlessSilent (is_silent options) search options name number offset lines
        (cond (prints_others options) (printed_each options name number offset lines) [])
    others_printed lines none number offset =
        by (is_silent options) options.others options.only refl refl
      where
        by : (silent others only : Bool) → options.others ≡ others → options.only ≡ only
            → PrintsUnlessSilent silent search options name number offset lines
            (cond (others && not (silent || (only && others))) (printed_each options name number offset lines) [])
        by true true only is asks = refl
        by true false only is asks = refl
        by false false only is asks = none_printed is number offset lines none
        by false true true is asks = no_match_printed is asks number offset lines none
        by false true false is asks = all_printed is asks number offset lines none

-- lines before which nothing is printed
module _ (options : Options) (name : List ℕ) where
  part_is : has_head options ≡ false → (number offset : ℕ) (line : List ℕ)
      → printed_part options name number offset line line ≡ with_end options.line_end line
  part_is plain number offset line =
      ap (λ head. (head ++ printed_tab options line) ++ with_end options.line_end line)
      (none_of_three _ options.numbers options.offsets _ _ _ plain)
      ∙ ap (λ tab. tab ++ with_end options.line_end line) (no_tab options.tab (has_head options) _ plain)

  pub each_plain : has_head options ≡ false → (number offset : ℕ) (lines : List (List ℕ))
      → printed_each options name number offset lines ≡ flat_map (with_end options.line_end) lines
  each_plain plain number offset [] = refl
  each_plain plain number offset (line ∷ more) =
      ap (λ l. l ++ printed_each options name (number + 1) (offset + length line + 1) more)
      (part_is plain number offset line)
      ∙ ap (λ l. with_end options.line_end line ++ l) (each_plain plain (number + 1) (offset + length line + 1) more)

  -- one line more
  pub each_more : (number offset at behind : ℕ) (seen : List (List ℕ)) (line : List ℕ) → at ≡ number + length seen
      → behind ≡ offset + length (flat_map (with_end options.line_end) seen)
      → printed_each options name number offset (seen ++ line ∷ [])
      ≡ printed_each options name number offset seen ++ printed_part options name at behind line line
  each_more number offset at behind [] line at_is behind_is =
      let number_is : number ≡ at = omega (arith, at_is) in
      let offset_is : offset ≡ behind = omega (arith, behind_is) in
      append-nil (printed_part options name number offset line line)
      ∙ ap (λ n. printed_part options name n offset line line) number_is
      ∙ ap (λ n. printed_part options name at n line line) offset_is
  each_more number offset at behind (first ∷ seen) line at_is behind_is =
      let size = length-feeds options.line_end first seen in
      let part = printed_part options name number offset first first in
      ap (λ l. part ++ l)
      (each_more (number + 1) (offset + length first + 1) at behind seen line (omega (arith, at_is))
      (omega (arith, behind_is, size)))
      ∙ sym (append_assoc part (printed_each options name (number + 1) (offset + length first + 1) seen)
      (printed_part options name at behind line line))
