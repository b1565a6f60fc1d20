-- Lines that the state of a scan passes over. For `context` and `near`.
use Rattle.std.proofs.Common.{◌≡◌, ◌+◌, ◌<◌, ◌≤◌, ◌∙◌, ◌++◌, ◌∷◌, [], Bool, List, ℕ, true, false}
use Rattle.std.proofs.Common.{ap, append_assoc, arith, length, length-append, refl, subst, suc, sym, take, zero}
use Rattle.std.proofs.lemmas.List.{length_push, map-append}
use Rattle.std.proofs.lemmas.Grind.{flat_map-append}
use Rattle.std.specs.List.{flat_map, list_any}
use Rattle.literal_search.specs.SearchValue.{SearchValue}
use Rattle.litscan.specs.Context.{PrintsGroups, lines_after, lines_before, mark_by}
use Rattle.litscan.specs.Inside.Groups.{Follows, GoesOn, IsWell, PassesOver, PrintsFrom, held_of, marks_from}
use Rattle.litscan.specs.Inside.Groups.{next_number, next_offset, none_count}
use Rattle.litscan.specs.Lines.{with_end, with_feed}
use Rattle.litscan.specs.declared.context.Context.{Context}
use Rattle.litscan.specs.declared.options.Options.{Options}
use Rattle.litscan.proofs.lemmas.Groups.{none_in_reach, one_left_out}
use Rattle.litscan.proofs.lemmas.Printing.{length-feeds, length-feeds_push}

-- no line among the next ones counts
abbrev NoneNear : ℕ → List Bool → Type 0
NoneNear n counting = list_any (λ one. one) (take n counting) ≡ false

none_nearer : (n : ℕ) (counting : List Bool) → NoneNear (suc n) counting → NoneNear n counting
none_nearer zero counting none = refl
none_nearer (suc n) [] none = refl
none_nearer (suc n) (true ∷ more) none = absurd (cc)
none_nearer (suc n) (false ∷ more) none = none_nearer n more none

none_ahead : (n : ℕ) (lines : List (List ℕ)) (counting : List Bool) → NoneNear n counting
    → NoneNear n (none_count lines ++ counting)
none_ahead zero lines counting none = refl
none_ahead (suc n) [] counting none = none
none_ahead (suc n) (line ∷ more) counting none = none_ahead n more counting (none_nearer n counting none)

-- the bytes of lines are as many whatever byte ends them
pub same_length : (line_end : ℕ) (lines : List (List ℕ))
    → length (flat_map with_feed lines) ≡ length (flat_map (with_end line_end) lines)
same_length line_end [] = refl
same_length line_end (line ∷ more) =
    omega (arith, same_length line_end more, length-feeds line_end line more, length-feeds 10 line more)

module _ (search : SearchValue) (options : Options) (separator name : List ℕ) where
  abbrev Groups : Bool → Bool → ℕ → ℕ → List (List ℕ) → List Bool → List ℕ → Type 0
  Groups any apart number offset lines counting out =
      PrintsGroups search options separator name any apart number offset lines
      (marks_from (lines_before options) (lines_after options) 0 counting) out

  -- lines that are left out
  many_left_out : (any apart : Bool) (number offset : ℕ) (dropped lines : List (List ℕ)) (counting : List Bool)
      (rest : List ℕ) → NoneNear (lines_before options) counting → 0 < length dropped
      → Groups any true (number + length dropped) (offset + length (flat_map with_feed dropped)) lines counting rest
      → Groups any apart number offset (dropped ++ lines) (none_count dropped ++ counting) rest
  many_left_out any apart number offset [] lines counting rest none some more = absurd (omega (arith, some))
  many_left_out any apart number offset (line ∷ []) lines counting rest none some more =
      let size : offset + length (flat_map with_feed (line ∷ [])) ≡ offset + length line + 1 =
      omega (arith, length-feeds 10 line []) in
      subst (λ b. PrintsGroups search options separator name any apart number offset (line ∷ lines)
      (mark_by false b ∷ marks_from (lines_before options) (lines_after options) 0 counting) rest) (sym none)
      (one_left_out search options separator name any apart number offset line lines
      (marks_from (lines_before options) (lines_after options) 0 counting) rest
      (subst (λ n. Groups any true (number + 1) n lines counting rest) size more))
  many_left_out any apart number offset (line ∷ next ∷ dropped) lines counting rest none some more =
      let behind = none_ahead (lines_before options) (next ∷ dropped) counting none in
      let count : number + length (line ∷ next ∷ dropped) ≡ number + 1 + length (next ∷ dropped) = omega arith in
      let size : offset + length (flat_map with_feed (line ∷ next ∷ dropped))
      ≡ offset + length line + 1 + length (flat_map with_feed (next ∷ dropped)) =
      omega (arith, length-feeds 10 line (next ∷ dropped)) in
      let counts = none_count (next ∷ dropped) ++ counting in
      subst (λ b. PrintsGroups search options separator name any apart number offset
      (line ∷ ((next ∷ dropped) ++ lines))
      (mark_by false b ∷ marks_from (lines_before options) (lines_after options) 0 counts) rest) (sym behind)
      (one_left_out search options separator name any apart number offset line ((next ∷ dropped) ++ lines)
      (marks_from (lines_before options) (lines_after options) 0 counts) rest
      (many_left_out any true (number + 1) (offset + length line + 1) (next ∷ dropped) lines counting rest none
      (omega arith)
      (subst (λ n. Groups any true (number + 1 + length (next ∷ dropped)) n lines counting rest) size
      (subst (λ n. Groups any true n (offset + length (flat_map with_feed (line ∷ next ∷ dropped))) lines counting rest)
      count more))))

module _ (options : Options) where
  -- no line is passed over
  pub passes_none : (context : Context) → IsWell options context → PassesOver options context context []
  passes_none context well = record {
    goes_on = λ search separator name more counting rest printed. printed;
    well = well;
    number_is = omega arith;
    offset_is = omega arith;
    due_is = refl;
  }

  -- one line more is
  pub passes_more : (old mid new : Context) (seen : List (List ℕ)) (line : List ℕ) → PassesOver options old mid seen
      → ((search : SearchValue) (separator name : List ℕ) → GoesOn search options separator name mid new line false [])
      → Follows options mid new line → new.due ≡ mid.due → PassesOver options old new (seen ++ line ∷ [])
  passes_more old mid new seen line before goes_on follows due = record {
    goes_on = λ search separator name more counting rest printed.
        subst (λ these. PrintsFrom search options separator name old these
        (none_count (seen ++ line ∷ []) ++ counting) rest) (sym (append_assoc seen (line ∷ []) more))
        (subst (λ those. PrintsFrom search options separator name old (seen ++ line ∷ more) those rest)
        (sym (ap (λ l. l ++ counting) (map-append (λ line. false) seen (line ∷ []))
        ∙ append_assoc (none_count seen) (false ∷ []) counting))
        (before.goes_on search separator name (line ∷ more) (false ∷ counting) rest
        (goes_on search separator name more counting rest printed)));
    well = follows.well;
    number_is = omega (arith, follows.number_is, before.number_is, length_push seen line);
    offset_is = omega (arith, follows.offset_is, before.offset_is, length-feeds_push 10 seen line);
    due_is = due ∙ before.due_is;
  }

  -- the held lines and more lines are left out
  pub record LeavesOut (old mid : Context) (front : List (List ℕ)) : Type 0 where
    pub held : held_of mid ≡ []
    pub number_is : mid.number ≡ next_number old + length front
    pub offset_is : mid.offset ≡ next_offset old + length (flat_map with_feed front)
    pub due_is : mid.due ≡ old.due
    pub any_is : mid.any ≡ old.any
    pub apart_is : mid.apart ≡ true

  pub passes_behind : (old mid new : Context) (front back : List (List ℕ)) → LeavesOut old mid front
      → 0 < length front → lines_before options ≤ length back → old.due ≡ 0 → PassesOver options mid new back
      → PassesOver options old new (front ++ back)
  passes_behind old mid new front back leaves some many due over = record {
    goes_on = λ search separator name more counting rest printed.
        let held = held_of old in
        let dropped = held ++ front in
        let counts = none_count back ++ counting in
        let at = λ (any apart : Bool) (number offset due : ℕ) (held : List (List ℕ)).
        PrintsGroups search options separator name any apart number offset (held ++ (back ++ more))
        (marks_from (lines_before options) (lines_after options) due (none_count held ++ counts)) rest in
        let number : mid.number ≡ old.number + length dropped =
        omega (arith, leaves.number_is, length-append held front) in
        let offset : mid.offset ≡ old.offset + length (flat_map with_feed dropped) =
        omega (
          arith,
          leaves.offset_is,
          length-append (flat_map with_feed held) (flat_map with_feed front),
          ap (λ (l : List ℕ). length l) (flat_map-append with_feed held front),
        ) in
        let behind = over.goes_on search separator name more counting rest printed in
        let end = old.offset + length (flat_map with_feed dropped) in
        let here =
        subst (λ held. at old.any true (old.number + length dropped) end 0 held) leaves.held
        (subst (λ n. at old.any true (old.number + length dropped) end n (held_of mid)) (leaves.due_is ∙ due)
        (subst (λ n. at old.any true (old.number + length dropped) n mid.due (held_of mid)) offset
        (subst (λ n. at old.any true n mid.offset mid.due (held_of mid)) number
        (subst (λ b. at old.any b mid.number mid.offset mid.due (held_of mid)) leaves.apart_is
        (subst (λ b. at b mid.apart mid.number mid.offset mid.due (held_of mid)) leaves.any_is behind))))) in
        let all = many_left_out search options separator name old.any old.apart old.number old.offset dropped
        (back ++ more) counts rest (none_in_reach back counting (lines_before options) many)
        (omega (arith, some, length-append held front)) here in
        let lines_are : dropped ++ (back ++ more) ≡ held ++ ((front ++ back) ++ more) =
        append_assoc held front (back ++ more) ∙ ap (λ l. held ++ l) (sym (append_assoc front back more)) in
        let counts_are : none_count dropped ++ counts ≡ none_count held ++ (none_count (front ++ back) ++ counting) =
        ap (λ l. l ++ counts) (map-append (λ line. false) held front)
        ∙ append_assoc (none_count held) (none_count front) counts
        ∙ ap (λ l. none_count held ++ l) (sym (append_assoc (none_count front) (none_count back) counting))
        ∙ ap (λ l. none_count held ++ (l ++ counting)) (sym (map-append (λ line. false) front back)) in
        let groups = λ (due : ℕ) (lines : List (List ℕ)) (counting : List Bool).
        PrintsGroups search options separator name old.any old.apart old.number old.offset lines
        (marks_from (lines_before options) (lines_after options) due counting) rest in
        subst (λ n. groups n (held ++ ((front ++ back) ++ more))
        (none_count held ++ (none_count (front ++ back) ++ counting))) (sym due)
        (subst (groups 0 (held ++ ((front ++ back) ++ more))) counts_are
        (subst (λ lines. groups 0 lines (none_count dropped ++ counts)) lines_are all));
    well = over.well;
    number_is =
        omega (
          arith,
          over.number_is,
          leaves.number_is,
          ap (λ (l : List (List ℕ)). length l) leaves.held,
          length-append front back,
        );
    offset_is =
        omega (
          arith,
          over.offset_is,
          leaves.offset_is,
          ap (λ l. length (flat_map with_feed l)) leaves.held,
          length-append (flat_map with_feed front) (flat_map with_feed back),
          ap (λ (l : List ℕ). length l) (flat_map-append with_feed front back),
        );
    due_is = over.due_is ∙ leaves.due_is;
  }
