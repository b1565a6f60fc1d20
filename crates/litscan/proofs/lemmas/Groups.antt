-- Groups of lines that are printed one line after another. For `context` and `near`.
use Rattle.std.proofs.Common.{◌≡◌, ◌+◌, ◌-◌, ◌<◌, ◌≤◌, ◌&&◌, ◌||◌, ◌++◌, ◌∷◌, ◌∙◌, [], Bool, List, ℕ, true, false}
use Rattle.std.proofs.Common.{◌==◌, ap, append_assoc, arith, cond, length, map, nat_lt, not, refl, slice_index_or}
use Rattle.std.proofs.Common.{subst, suc, sym, take, zero}
use Rattle.std.proofs.lemmas.Bool.{lt-ltb, ne_eqb}
use Rattle.std.proofs.lemmas.List.{map-append}
use Rattle.std.specs.List.{flat_map, list_any}
use Rattle.literal_search.specs.SearchValue.{SearchValue}
use Rattle.litscan.specs.Context.{Mark, PrintsGroups, PrintsMarked, counted, is_printed, left_out, lines_after}
use Rattle.litscan.specs.Context.{lines_before, mark_by, near, printed_between, printed_separator}
use Rattle.litscan.specs.Inside.Groups.{GoesOn, IsWell, PrintsFrom, held_of, marks_from, next_number, next_offset}
use Rattle.litscan.specs.Inside.Groups.{none_count}
use Rattle.litscan.specs.Lines.{with_end, with_feed}
use Rattle.litscan.specs.declared.context.Context.{Context}
use Rattle.litscan.specs.declared.options.Options.{Options}
use Rattle.litscan.proofs.lemmas.Printing.{length-feeds}

or_last : (b : Bool) → (b || true) ≡ true
or_last true = refl
or_last false = refl

or_none : (b : Bool) → (b || false) ≡ b
or_none true = refl
or_none false = refl

-- a line that counts is among the next ones
some_in_reach : (held : List (List ℕ)) (counting : List Bool) (n : ℕ) → length held < n
    → list_any (λ one. one) (take n (none_count held ++ true ∷ counting)) ≡ true
some_in_reach held counting zero below = absurd (omega (arith, below))
some_in_reach [] counting (suc n) below = refl
some_in_reach (line ∷ more) counting (suc n) below = some_in_reach more counting n (omega (arith, below))

-- and none is among these
pub none_in_reach : (held : List (List ℕ)) (counting : List Bool) (n : ℕ) → n ≤ length held
    → list_any (λ one. one) (take n (none_count held ++ counting)) ≡ false
none_in_reach held counting zero few = refl
none_in_reach [] counting (suc n) few = absurd (omega (arith, few))
none_in_reach (line ∷ more) counting (suc n) few = none_in_reach more counting n (omega (arith, few))

none_at_all : (held : List (List ℕ)) (n : ℕ) → list_any (λ one. one) (take n (none_count held)) ≡ false
none_at_all held zero = refl
none_at_all [] (suc n) = refl
none_at_all (line ∷ more) (suc n) = none_at_all more n

module _ (before after : ℕ) where
  -- the marks of lines that are held, of a line that counts, and of more lines
  pub marks_counted : (due : ℕ) (held : List (List ℕ)) (counting : List Bool) → length held ≤ before
      → marks_from before after due (none_count held ++ true ∷ counting)
      ≡ map (λ line. near) held ++ counted ∷ marks_from before after after counting
  marks_counted due [] counting few = refl
  marks_counted due (line ∷ more) counting few =
      let is_near : (nat_lt 0 due || list_any (λ one. one) (take before (none_count more ++ true ∷ counting))) ≡ true =
      ap (λ b. nat_lt 0 due || b) (some_in_reach more counting before (omega (arith, few))) ∙ or_last (nat_lt 0 due) in
      ap (λ b. mark_by false b ∷ marks_from before after (due - 1) (none_count more ++ true ∷ counting)) is_near
      ∙ ap (λ marks. near ∷ marks) (marks_counted (due - 1) more counting (omega (arith, few)))

  -- the mark of a line after one that counts
  pub marks_due : (due : ℕ) (counting : List Bool) → 0 < due
      → marks_from before after due (false ∷ counting) ≡ near ∷ marks_from before after (due - 1) counting
  marks_due due counting some =
      ap (λ b. mark_by false (b || list_any (λ one. one) (take before counting))
      ∷ marks_from before after (due - 1) counting) (lt-ltb 0 due some)

  -- the mark of a line that is not near any other
  pub marks_left_out : (more : List (List ℕ)) (counting : List Bool) → before ≤ length more
      → marks_from before after 0 (false ∷ (none_count more ++ counting))
      ≡ left_out ∷ marks_from before after 0 (none_count more ++ counting)
  marks_left_out more counting few =
      ap (λ b. mark_by false b ∷ marks_from before after 0 (none_count more ++ counting))
      (none_in_reach more counting before few)

module _ (search : SearchValue) (options : Options) (separator name : List ℕ) where
  abbrev Groups : Bool → Bool → ℕ → ℕ → List (List ℕ) → List Mark → List ℕ → Type 0
  Groups any apart number offset lines marks out =
      PrintsGroups search options separator name any apart number offset lines marks out

  -- a line near one that counts, behind another line that is printed
  pub one_near : (number offset : ℕ) (line part : List ℕ) (lines : List (List ℕ)) (marks : List Mark) (rest : List ℕ)
      → PrintsMarked near search options name number offset line part
      → Groups true false (number + 1) (offset + length line + 1) lines marks rest
      → Groups true false number offset (line ∷ lines) (near ∷ marks) (part ++ rest)
  one_near number offset line part lines marks rest printed more = (part, rest, printed, more, refl)

  -- a line that counts
  pub one_counted : (number offset : ℕ) (line part : List ℕ) (lines : List (List ℕ)) (marks : List Mark)
      (rest : List ℕ) → PrintsMarked counted search options name number offset line part
      → Groups true false (number + 1) (offset + length line + 1) lines marks rest
      → Groups true false number offset (line ∷ lines) (counted ∷ marks) (part ++ rest)
  one_counted number offset line part lines marks rest printed more = (part, rest, printed, more, refl)

  -- the first line of a group behind its separator
  pub opened : (any apart : Bool) (number offset : ℕ) (line : List ℕ) (lines : List (List ℕ)) (mark : Mark)
      (marks : List Mark) (out : List ℕ) → is_printed mark ≡ true
      → Groups true false number offset (line ∷ lines) (mark ∷ marks) out
      → Groups any apart number offset (line ∷ lines) (mark ∷ marks)
      (cond (any && apart) (printed_separator options separator) [] ++ out)
  opened any apart number offset line lines counted marks out is printed = (
    printed.0,
    printed.1,
    printed.2,
    subst (λ b. Groups b false (number + 1) (offset + length line + 1) lines marks printed.1) (sym (or_last any))
        printed.3,
    ap (λ bytes. cond (any && apart) (printed_separator options separator) [] ++ bytes) printed.4,
  )
  opened any apart number offset line lines near marks out is printed = (
    printed.0,
    printed.1,
    printed.2,
    subst (λ b. Groups b false (number + 1) (offset + length line + 1) lines marks printed.1) (sym (or_last any))
        printed.3,
    ap (λ bytes. cond (any && apart) (printed_separator options separator) [] ++ bytes) printed.4,
  )
  opened any apart number offset line lines left_out marks out is printed = absurd (cc)

  -- a line that is left out
  pub one_left_out : (any apart : Bool) (number offset : ℕ) (line : List ℕ) (lines : List (List ℕ))
      (marks : List Mark) (rest : List ℕ)
      → Groups any true (number + 1) (offset + length line + 1) lines marks rest
      → Groups any apart number offset (line ∷ lines) (left_out ∷ marks) rest
  one_left_out any apart number offset line lines marks rest more = (
    [],
    rest,
    refl,
    subst (λ b. Groups b true (number + 1) (offset + length line + 1) lines marks rest) (sym (or_none any)) more,
    refl,
  )

  -- lines that are held at the end of a text are left out
  pub none_left : (before after : ℕ) (any apart : Bool) (number offset : ℕ) (held : List (List ℕ))
      → Groups any apart number offset held (marks_from before after 0 (none_count held)) []
  none_left before after any apart number offset [] = refl
  none_left before after any apart number offset (line ∷ more) =
      subst (λ b. Groups any apart number offset (line ∷ more)
      (mark_by false b ∷ marks_from before after 0 (none_count more)) []) (sym (none_at_all more before))
      (one_left_out any apart number offset line more (marks_from before after 0 (none_count more)) []
      (none_left before after any true (number + 1) (offset + length line + 1) more))

-- whether the line in front of the one at a place is left out
abbrev pub behind_gap : Bool → List Mark → ℕ → Bool
behind_gap apart marks zero = apart
behind_gap apart [] (suc n) = apart
behind_gap apart (mark ∷ marks) (suc n) = behind_gap (not (is_printed mark)) marks n

behind_mark : (apart : Bool) (marks : List Mark) (n : ℕ) → n < length marks
    → behind_gap apart marks (suc n) ≡ not (is_printed (slice_index_or marks n left_out))
behind_mark apart [] n below = absurd (omega (arith, below))
behind_mark apart (mark ∷ marks) zero below = refl
behind_mark apart (mark ∷ marks) (suc n) below =
    behind_mark (not (is_printed mark)) marks n (omega (arith, below))

-- one line among others
pub groups_in_turn : (search : SearchValue) (options : Options) (separator name : List ℕ) (any apart : Bool)
    (number offset at behind : ℕ) (front more : List (List ℕ)) (marks : List Mark) (line out : List ℕ)
    → at ≡ length front + number → behind ≡ length (flat_map (with_end options.line_end) front) + offset
    → PrintsGroups search options separator name any apart number offset (front ++ line ∷ more) marks out
    → let mark = slice_index_or marks (length front) left_out in
    (before part after : List ℕ) × (length front < length marks)
    × (out ≡ before ++ (printed_between options separator (any || list_any is_printed (take (length front) marks))
    (behind_gap apart marks (length front)) mark ++ (part ++ after)))
    × PrintsMarked mark search options name at behind line part
groups_in_turn search options separator name any apart number offset at behind [] more [] line out at_is behind_is
    printed =
    absurd printed
groups_in_turn search options separator name any apart number offset at behind [] more (mark ∷ marks) line out at_is
    behind_is printed =
    let number_is : number ≡ at = omega arith in
    let offset_is : offset ≡ behind = omega arith in (
      [],
      printed.0,
      printed.1,
      omega arith,
      subst (λ b. out ≡ printed_between options separator b apart mark ++ (printed.0 ++ printed.1)) (sym (or_none any))
          printed.4,
      subst (λ n. PrintsMarked mark search options name at n line printed.0) offset_is
          (subst (λ n. PrintsMarked mark search options name n offset line printed.0) number_is printed.2),
    )
groups_in_turn search options separator name any apart number offset at behind (first ∷ front) more [] line out at_is
    behind_is printed =
    absurd printed
groups_in_turn search options separator name any apart number offset at behind (first ∷ front) more (mark ∷ marks)
    line out at_is behind_is printed =
    let size = length-feeds options.line_end first front in
    let others = groups_in_turn search options separator name (any || is_printed mark) (not (is_printed mark))
    (number + 1) (offset + length first + 1) at behind front more marks line printed.1 (omega arith)
    (omega (arith, behind_is, size)) printed.3 in
    let here : List ℕ = printed_between options separator any apart mark ++ printed.0 in
    let next = λ (b : Bool). printed_between options separator b
    (behind_gap (not (is_printed mark)) marks (length front))
    (slice_index_or marks (length front) left_out) ++ (others.1 ++ others.2) in (
      here ++ others.0,
      others.1,
      others.2,
      omega (arith, others.3),
      printed.4 ∙ sym (append_assoc (printed_between options separator any apart mark) printed.0 printed.1)
          ∙ ap (λ l. here ++ l) others.4
          ∙ sym (append_assoc here others.0
          (next ((any || is_printed mark) || list_any is_printed (take (length front) marks))))
          ∙ ap (λ b. (here ++ others.0) ++ next b)
          (or_assoc any (is_printed mark) (list_any is_printed (take (length front) marks))),
      others.5,
    )
  where
    or_assoc : (a b c : Bool) → ((a || b) || c) ≡ (a || (b || c))
    or_assoc true b c = refl
    or_assoc false b c = refl

-- the same, where the line in front of the first is left out
pub groups_at_front : (marks : List Mark) (n : ℕ) → n < length marks
    → behind_gap true marks n ≡ (n == 0 || not (is_printed (slice_index_or marks (n - 1) left_out)))
groups_at_front marks zero below = refl
groups_at_front marks (suc n) below =
    let less : suc n - 1 ≡ n = omega arith in
    let some : (suc n == 0) ≡ false = ne_eqb (suc n) 0 (λ is. omega (arith, is)) in
    behind_mark true marks n (omega (arith, below))
    ∙ sym (ap (λ b. b || not (is_printed (slice_index_or marks (suc n - 1) left_out))) some
    ∙ ap (λ m. not (is_printed (slice_index_or marks m left_out))) less)

-- the new state is the old one without the first line that is held
pub record Steps (old new : Context) (line : List ℕ) : Type 0 where
  pub held : held_of old ≡ line ∷ held_of new
  pub number : new.number ≡ old.number + 1
  pub offset : new.offset ≡ old.offset + length line + 1

-- the next line is the same
pub steps_number : {old new : Context} {line : List ℕ} → Steps old new line → next_number new ≡ next_number old
steps_number {old} {new} is = omega (arith, is.number, ap (λ (l : List (List ℕ)). length l) is.held)

pub steps_offset : {old new : Context} {line : List ℕ} → Steps old new line → next_offset new ≡ next_offset old
steps_offset {old} {new} {line} is =
    omega (
      arith,
      is.offset,
      ap (λ l. length (flat_map with_feed l)) is.held,
      length-feeds 10 line (held_of new),
    )

-- no line is held, and the line before the next one was printed
pub record IsBehind (context : Context) (number offset due : ℕ) : Type 0 where
  pub held : held_of context ≡ []
  pub any : context.any ≡ true
  pub apart : context.apart ≡ false
  pub number_is : context.number ≡ number
  pub offset_is : context.offset ≡ offset
  pub due_is : context.due ≡ due

module _ (search : SearchValue) (options : Options) (separator name : List ℕ) where
  abbrev marks : ℕ → List Bool → List Mark
  marks due counting = marks_from (lines_before options) (lines_after options) due counting

  abbrev At : Bool → Bool → ℕ → ℕ → ℕ → List (List ℕ) → List (List ℕ) → List Bool → List ℕ → Type 0
  At any apart number offset due held lines counting out =
      PrintsGroups search options separator name any apart number offset (held ++ lines)
      (marks due (none_count held ++ counting)) out

  -- what is printed from there on
  pub from_behind : {context : Context} {number offset due : ℕ} → IsBehind context number offset due
      → (lines : List (List ℕ)) (counting : List Bool) (out : List ℕ)
      → PrintsFrom search options separator name context lines counting out
      → PrintsGroups search options separator name true false number offset lines (marks due counting) out
  from_behind {context} {number} {offset} {due} is lines counting out printed =
      subst (λ held. At true false number offset due held lines counting out) is.held
      (subst (λ n. At true false number offset n (held_of context) lines counting out) is.due_is
      (subst (λ n. At true false number n context.due (held_of context) lines counting out) is.offset_is
      (subst (λ n. At true false n context.offset context.due (held_of context) lines counting out) is.number_is
      (subst (λ b. At true b context.number context.offset context.due (held_of context) lines counting out) is.apart
      (subst (λ b. At b context.apart context.number context.offset context.due (held_of context) lines counting out)
      is.any printed)))))

  pub to_behind : {context : Context} {number offset due : ℕ} → IsBehind context number offset due
      → (lines : List (List ℕ)) (counting : List Bool) (out : List ℕ)
      → PrintsGroups search options separator name true false number offset lines (marks due counting) out
      → PrintsFrom search options separator name context lines counting out
  to_behind {context} {number} {offset} {due} is lines counting out printed =
      subst (λ b. At b context.apart context.number context.offset context.due (held_of context) lines counting out)
      (sym is.any)
      (subst (λ b. At true b context.number context.offset context.due (held_of context) lines counting out)
      (sym is.apart)
      (subst (λ n. At true false n context.offset context.due (held_of context) lines counting out) (sym is.number_is)
      (subst (λ n. At true false number n context.due (held_of context) lines counting out) (sym is.offset_is)
      (subst (λ n. At true false number offset n (held_of context) lines counting out) (sym is.due_is)
      (subst (λ held. At true false number offset due held lines counting out) (sym is.held) printed)))))

  -- a line that is printed since it comes after one that counts
  pub goes_on_due : (old new : Context) (line part : List ℕ) → IsWell options old → 0 < old.due
      → IsBehind new (old.number + 1) (old.offset + length line + 1) (old.due - 1)
      → PrintsMarked near search options name old.number old.offset line part
      → GoesOn search options separator name old new line false part
  goes_on_due old new line part well some is printed = λ lines counting rest more.
      let here : IsBehind old old.number old.offset old.due =
      record {
        held = well.none some;
        any = well.any some;
        apart = well.together some;
        number_is = refl;
        offset_is = refl;
        due_is = refl;
      } in
      to_behind here (line ∷ lines) (false ∷ counting) (part ++ rest)
      (subst (λ these. PrintsGroups search options separator name true false old.number old.offset (line ∷ lines) these
      (part ++ rest)) (sym (marks_due (lines_before options) (lines_after options) old.due counting some))
      (one_near search options separator name old.number old.offset line part lines (marks (old.due - 1) counting) rest
      printed (from_behind is lines counting rest more)))

  -- a line that is held, in place of another one, which is left out
  pub goes_on_left_out : (old new : Context) (line first : List ℕ) → old.due ≡ 0 → new.due ≡ 0
      → held_of old ++ line ∷ [] ≡ first ∷ held_of new → lines_before options ≤ length (held_of new)
      → new.any ≡ old.any → new.apart ≡ true → new.number ≡ old.number + 1
      → new.offset ≡ old.offset + length first + 1 → GoesOn search options separator name old new line false []
  goes_on_left_out old new line first no_due none_due is full any apart number offset = λ lines counting rest more.
      let all : held_of old ++ line ∷ lines ≡ first ∷ (held_of new ++ lines) =
      sym (append_assoc (held_of old) (line ∷ []) lines) ∙ ap (λ l. l ++ lines) is in
      let none : none_count (held_of old) ++ false ∷ counting ≡ false ∷ (none_count (held_of new) ++ counting) =
      sym (append_assoc (none_count (held_of old)) (false ∷ []) counting)
      ∙ ap (λ l. l ++ counting) (sym (map-append (λ line. false) (held_of old) (line ∷ [])))
      ∙ ap (λ l. none_count l ++ counting) is in
      let marks_are : marks old.due (none_count (held_of old) ++ false ∷ counting)
      ≡ left_out ∷ marks 0 (none_count (held_of new) ++ counting) =
      ap (λ n. marks n (none_count (held_of old) ++ false ∷ counting)) no_due ∙ ap (marks 0) none
      ∙ marks_left_out (lines_before options) (lines_after options) (held_of new) counting full in
      subst (λ these. PrintsGroups search options separator name old.any old.apart old.number old.offset
      (held_of old ++ line ∷ lines) these rest) (sym marks_are)
      (subst (λ these. PrintsGroups search options separator name old.any old.apart old.number old.offset these
      (left_out ∷ marks 0 (none_count (held_of new) ++ counting)) rest) (sym all)
      (one_left_out search options separator name old.any old.apart old.number old.offset first (held_of new ++ lines)
      (marks 0 (none_count (held_of new) ++ counting)) rest
      (subst (λ n. At old.any true (old.number + 1) (old.offset + length first + 1) n (held_of new) lines counting rest)
      none_due
      (subst (λ n. At old.any true (old.number + 1) n new.due (held_of new) lines counting rest) offset
      (subst (λ n. At old.any true n new.offset new.due (held_of new) lines counting rest) number
      (subst (λ b. At old.any b new.number new.offset new.due (held_of new) lines counting rest) apart
      (subst (λ b. At b new.apart new.number new.offset new.due (held_of new) lines counting rest) any more)))))))

  -- a line that counts, behind the lines that are held, and a separator
  opened_all : (any apart : Bool) (number offset : ℕ) (held : List (List ℕ)) (line : List ℕ) (lines : List (List ℕ))
      (these : List Mark) (out : List ℕ)
      → PrintsGroups search options separator name true false number offset (held ++ line ∷ lines)
      (map (λ line. near) held ++ counted ∷ these) out
      → PrintsGroups search options separator name any apart number offset (held ++ line ∷ lines)
      (map (λ line. near) held ++ counted ∷ these)
      (cond (any && apart) (printed_separator options separator) [] ++ out)
  opened_all any apart number offset [] line lines these out printed =
      opened search options separator name any apart number offset line lines counted these out refl printed
  opened_all any apart number offset (first ∷ more) line lines these out printed =
      opened search options separator name any apart number offset first (more ++ line ∷ lines) near
      (map (λ line. near) more ++ counted ∷ these) out refl printed

  pub goes_on_counted : (old new : Context) (line held shown : List ℕ) → IsWell options old
      → ((lines : List (List ℕ)) (these : List Mark) (rest : List ℕ)
      → PrintsGroups search options separator name true false (next_number old) (next_offset old) lines these rest
      → PrintsGroups search options separator name true false old.number old.offset (held_of old ++ lines)
      (map (λ line. near) (held_of old) ++ these) (held ++ rest))
      → PrintsMarked counted search options name (next_number old) (next_offset old) line shown
      → IsBehind new (next_number old + 1) (next_offset old + length line + 1) (lines_after options)
      → GoesOn search options separator name old new line true
      (cond (old.any && old.apart) (printed_separator options separator) [] ++ (held ++ shown))
  goes_on_counted old new line held shown well goes_on printed is = λ lines counting rest more.
      let between : List ℕ = cond (old.any && old.apart) (printed_separator options separator) [] in
      let marks_are = marks_counted (lines_before options) (lines_after options) old.due (held_of old) counting
      well.few in
      let bytes : between ++ (held ++ (shown ++ rest)) ≡ (between ++ (held ++ shown)) ++ rest =
      ap (λ l. between ++ l) (sym (append_assoc held shown rest)) ∙ sym (append_assoc between (held ++ shown) rest) in
      subst (PrintsFrom search options separator name old (line ∷ lines) (true ∷ counting)) bytes
      (subst (λ these. PrintsGroups search options separator name old.any old.apart old.number old.offset
      (held_of old ++ line ∷ lines) these (between ++ (held ++ (shown ++ rest)))) (sym marks_are)
      (opened_all old.any old.apart old.number old.offset (held_of old) line lines
      (marks (lines_after options) counting) (held ++ (shown ++ rest))
      (goes_on (line ∷ lines) (counted ∷ marks (lines_after options) counting) (shown ++ rest)
      (one_counted search options separator name (next_number old) (next_offset old) line shown lines
      (marks (lines_after options) counting) rest printed (from_behind is lines counting rest more)))))
