-- What is printed of one line more. For `scan`.
use Rattle.std.proofs.Common.{◌≡◌, ◌+◌, ◌&&◌, ◌||◌, ℕ, Bool, true, false, List, [], ◌∷◌, ◌++◌, length, cond, min, not}
use Rattle.std.proofs.Common.{Option, None, Some, inl, inr}
use Rattle.std.proofs.Common.{refl, sym, ap, ◌∙◌, arith, subst, append_assoc, append-nil, length-append}
use Rattle.std.specs.List.{count_by, flat_map}
use Rattle.std.proofs.lemmas.Bool.{cases_Bool, cond-false, cond-true}
use Rattle.std.proofs.lemmas.List.{flat_map_more}
use Rattle.std.proofs.lemmas.List.Sums.{sum_by-append}
use Rattle.std.specs.Option.{is_some}
use Rattle.literal_base.specs.MatchValue.{MatchValue}
use Rattle.literal_search.specs.SearchValue.{SearchValue}
use Rattle.litscan.specs.Asked.{AreMatches, one_asked}
use Rattle.litscan.specs.Lines.{with_end}
use Rattle.litscan.specs.Options.{is_marked, is_silent}
use Rattle.litscan.specs.Printed.{PrintsFound, PrintsLine, PrintsLines, PrintsUnlessSilent, PrintsWhole, counts}
use Rattle.litscan.specs.Printed.{printed_matches}
use Rattle.litscan.specs.declared.options.Options.{Options}
use Rattle.litscan.proofs.lemmas.Asked.{one_asked_if, told_by_first}

-- the first match, if there is one
abbrev first_of : List MatchValue → Option MatchValue
first_of [] = None
first_of (found ∷ more) = Some found

-- a test and its opposite do not both hold
not_both : (b : Bool) → b ≡ true → not b ≡ true → ⊥
not_both true is other = absurd (cc)
not_both false is other = absurd (cc)

-- where nothing is printed and the number of lines is not asked for, matches of lines without one are
both_asked : (silent only others : Bool) → (silent || (only && others)) ≡ true → silent ≡ false
    → (only ≡ true) × (others ≡ true)
both_asked true only others quiet loud = absurd (cc)
both_asked false true others quiet loud = (refl, quiet)
both_asked false false others quiet loud = absurd (cc)

-- where something is printed, the number of lines is not asked for, and matches are those of lines with one
not_asked : (silent only others : Bool) → (silent || (only && others)) ≡ false
    → (silent ≡ false) × (only ≡ true → others ≡ false)
not_asked true only others loud = absurd (cc)
not_asked false true others loud = (refl, λ asked. loud)
not_asked false false others loud = (refl, λ asked. absurd (cc))

pub length-feeds : (line_end : ℕ) (line : List ℕ) (more : List (List ℕ))
    → length (with_end line_end line ++ flat_map (with_end line_end) more)
    ≡ length line + 1 + length (flat_map (with_end line_end) more)
length-feeds line_end line more =
    length-append (with_end line_end line) (flat_map (with_end line_end) more)
    ∙ ap (λ n. n + length (flat_map (with_end line_end) more)) (length-append line (line_end ∷ []))

pub length-feeds_push : (line_end : ℕ) (seen : List (List ℕ)) (line : List ℕ)
    → length (flat_map (with_end line_end) (seen ++ line ∷ []))
    ≡ length (flat_map (with_end line_end) seen) + (length line + 1)
length-feeds_push line_end seen line =
    ap (λ (l : List ℕ). length l) (sym (flat_map_more (with_end line_end) [] seen line))
    ∙ length-append (flat_map (with_end line_end) seen) (with_end line_end line)
    ∙ ap (λ n. length (flat_map (with_end line_end) seen) + n) (length-append line (line_end ∷ []))

module _ (search : SearchValue) (options : Options) (name : List ℕ) where
  -- one list of lines behind another
  prints-append : (number offset at behind : ℕ) (seen more : List (List ℕ)) (front out : List ℕ)
      → at ≡ length seen + number → behind ≡ length (flat_map (with_end options.line_end) seen) + offset
      → PrintsLines search options name number offset seen front → PrintsLines search options name at behind more out
      → PrintsLines search options name number offset (seen ++ more) (front ++ out)
  prints-append number offset at behind [] more front out at_is behind_is before after =
      let number_is : at ≡ number = omega arith in
      let offset_is : behind ≡ offset = omega arith in
      rw before (subst (λ n. PrintsLines search options name number n more out) offset_is
      (subst (λ n. PrintsLines search options name n behind more out) number_is after))
  prints-append number offset at behind (line ∷ seen) more front out at_is behind_is before after =
      let first = before.0 in
      let rest = before.1 in
      let size = length-feeds options.line_end line seen in (
        first,
        rest ++ out,
        before.2,
        prints-append (number + 1) (offset + length line + 1) at behind seen more rest out (omega arith)
            (omega (arith, behind_is, size)) before.3 after,
        ap (λ bytes. bytes ++ out) before.4 ∙ append_assoc first rest out,
      )

  -- one line among others
  pub prints_in_turn : (number offset at behind : ℕ) (front more : List (List ℕ)) (line out : List ℕ)
      → at ≡ length front + number → behind ≡ length (flat_map (with_end options.line_end) front) + offset
      → PrintsLines search options name number offset (front ++ line ∷ more) out
      → (before part after : List ℕ) × (out ≡ before ++ (part ++ after))
      × PrintsLines search options name number offset front before
      × PrintsLine (counts search options line) search options name at behind line part
  prints_in_turn number offset at behind [] more line out at_is behind_is printed =
      let number_is : number ≡ at = omega arith in
      let offset_is : offset ≡ behind = omega arith in
      let test = counts search options line in (
        [],
        printed.0,
        printed.1,
        printed.4,
        refl,
        subst (λ n. PrintsLine test search options name at n line printed.0) offset_is
            (subst (λ n. PrintsLine test search options name n offset line printed.0) number_is printed.2),
      )
  prints_in_turn number offset at behind (first ∷ front) more line out at_is behind_is printed =
      let size = length-feeds options.line_end first front in
      let others = prints_in_turn (number + 1) (offset + length first + 1) at behind front more line printed.1
      (omega arith) (omega (arith, behind_is, size)) printed.3 in (
        printed.0 ++ others.0,
        others.1,
        others.2,
        printed.4 ∙ ap (λ rest. printed.0 ++ rest) others.3
            ∙ sym (append_assoc printed.0 others.0 (others.1 ++ others.2)),
        (printed.0, others.0, printed.2, others.4, refl),
        others.5,
      )

  -- the same, where nothing may be printed of lines
  pub prints_more : (silent : Bool) (number offset at behind : ℕ) (seen more : List (List ℕ)) (front out : List ℕ)
      → at ≡ length seen + number → behind ≡ length (flat_map (with_end options.line_end) seen) + offset
      → PrintsUnlessSilent silent search options name number offset seen front
      → PrintsUnlessSilent silent search options name at behind more out
      → PrintsUnlessSilent silent search options name number offset (seen ++ more) (front ++ out)
  prints_more true number offset at behind seen more front out at_is behind_is before after = rw (before, after) refl
  prints_more false number offset at behind seen more front out at_is behind_is before after =
      prints-append number offset at behind seen more front out at_is behind_is before after

  -- no line
  pub prints_none : (silent : Bool) (number offset : ℕ)
      → PrintsUnlessSilent silent search options name number offset [] []
  prints_none true number offset = refl
  prints_none false number offset = refl

  -- a line counts by its matches
  counts_matched : (line : List ℕ) (all : List MatchValue) → options.others ≡ false
      → AreMatches search options line 0 all → counts search options line ≡ is_some (first_of all)
  counts_matched line [] kept nothing =
      cond-false options.others _ _ kept ∙ sym (told_by_first search options line None nothing)
  counts_matched line (found ∷ more) kept matches =
      cond-false options.others _ _ kept ∙ sym (told_by_first search options line (Some found) matches.0)

  -- where the others are asked for, a line that counts has no match
  nothing_matched : (line : List ℕ) → options.others ≡ true → counts search options line ≡ true
      → AreMatches search options line 0 []
  nothing_matched line others counted = λ i at o.
      not_both (one_asked search options line) (one_asked_if search options line i at o)
      (sym (cond-true options.others _ _ others) ∙ counted)

  -- one line, of which something may be printed
  one_line : (number offset : ℕ) (line out : List ℕ) → is_silent options ≡ false
      → PrintsLine (counts search options line) search options name number offset line out
      → PrintsUnlessSilent (is_silent options) search options name number offset (line ∷ []) out
  one_line number offset line out loud printed =
      subst (λ silent. PrintsUnlessSilent silent search options name number offset (line ∷ []) out) (sym loud)
      (out, [], printed, refl, sym (append-nil out))

  -- the matches in a line
  pub prints_matches : (number offset : ℕ) (line : List ℕ) (all : List MatchValue)
      → (is_silent options || (options.only && options.others)) ≡ false → options.only ≡ true
      → AreMatches search options line 0 all
      → PrintsUnlessSilent (is_silent options) search options name number offset (line ∷ [])
      (printed_matches options name number offset line all)
  prints_matches number offset line all loud only greedy =
      let asked = not_asked (is_silent options) options.only options.others loud in
      let out = printed_matches options name number offset line all in
      one_line number offset line out asked.0 (by (asked.1 only) all greedy)
    where
      by : options.others ≡ false → (all : List MatchValue) → AreMatches search options line 0 all
          → PrintsLine (counts search options line) search options name number offset line
          (printed_matches options name number offset line all)
      by kept [] greedy =
          subst (λ b. PrintsLine b search options name number offset line [])
          (sym (counts_matched line [] kept greedy)) refl
      by kept (found ∷ more) greedy =
          subst (λ b. PrintsLine b search options name number offset line
          (printed_matches options name number offset line (found ∷ more)))
          (sym (counts_matched line (found ∷ more) kept greedy))
          (subst (λ b. PrintsFound b search options name number offset line
          (printed_matches options name number offset line (found ∷ more))) (sym only) (found ∷ more, greedy, refl))

  -- a line counts once if it has a match
  pub counts_once : (line : List ℕ) (all : List MatchValue) (count : ℕ)
      → (is_silent options || (options.only && options.others)) ≡ false → options.only ≡ true
      → AreMatches search options line 0 all → count ≡ min 1 (length all)
      → count ≡ count_by (counts search options) (line ∷ [])
  counts_once line [] count loud only greedy is =
      let kept = (not_asked (is_silent options) options.only options.others loud).1 only in
      is ∙ sym (ap (λ b. 0 + cond b 1 0) (counts_matched line [] kept greedy))
  counts_once line (found ∷ more) count loud only greedy is =
      let kept = (not_asked (is_silent options) options.only options.others loud).1 only in
      let one : min 1 (length (found ∷ more)) ≡ 1 = omega arith in
      is ∙ one ∙ sym (ap (λ b. 0 + cond b 1 0) (counts_matched line (found ∷ more) kept greedy))

  -- a whole line
  pub prints_whole : (number offset : ℕ) (line out : List ℕ)
      → (is_silent options || (options.only && options.others)) ≡ false → options.only ≡ false
      → counts search options line ≡ true
      → PrintsWhole (is_marked options) search options name number offset line out
      → PrintsUnlessSilent (is_silent options) search options name number offset (line ∷ []) out
  prints_whole number offset line out loud all counted whole =
      one_line number offset line out (not_asked (is_silent options) options.only options.others loud).0
      (subst (λ b. PrintsLine b search options name number offset line out) (sym counted)
      (subst (λ b. PrintsFound b search options name number offset line out) (sym all) whole))

  -- nothing of a line
  pub prints_nothing : (number offset : ℕ) (line : List ℕ)
      → (is_silent options || (options.only && options.others)) ≡ true
      → PrintsUnlessSilent (is_silent options) search options name number offset (line ∷ []) []
  prints_nothing number offset line quiet =
      elim (cases_Bool (is_silent options)) [
        | inl silent ↦
            subst (λ b. PrintsUnlessSilent b search options name number offset (line ∷ []) []) (sym silent) refl
        | inr loud ↦
            let both = both_asked (is_silent options) options.only options.others quiet loud in
            one_line number offset line [] loud (by both.0 both.1)
      ]
    where
      by : options.only ≡ true → options.others ≡ true
          → PrintsLine (counts search options line) search options name number offset line []
      by only others =
          elim (cases_Bool (counts search options line)) [
            | inl counted ↦
                subst (λ b. PrintsLine b search options name number offset line []) (sym counted)
                (subst (λ b. PrintsFound b search options name number offset line []) (sym only)
                ([], nothing_matched line others counted, refl))
            | inr passed ↦ subst (λ b. PrintsLine b search options name number offset line []) (sym passed) refl
          ]

-- the count goes on
pub count-append : {X : Type 0} (p : X → Bool) (seen more : List X) (count one : ℕ) → count ≡ count_by p seen
    → one ≡ count_by p more → count + one ≡ count_by p (seen ++ more)
count-append p seen more count one before after =
    let all = sum_by-append (λ x. cond (p x) 1 0) seen more in
    omega (arith, all, before, after)
