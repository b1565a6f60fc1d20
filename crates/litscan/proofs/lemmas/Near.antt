-- What a scan that prints groups of lines has read and printed. For `near` and `scan`.
use Rattle.std.proofs.Common.{◌≡◌, ◌^◌, ◌+◌, ◌-◌, ◌<◌, ◌≤◌, ◌==◌, ◌&&◌, ◌||◌, ◌++◌, ◌∷◌, ◌∙◌, [], Bool, List}
use Rattle.std.proofs.Common.{None, Option, Some, ℕ}
use Rattle.std.proofs.Common.{ap, append-nil, append_assoc, arith, cond, false, inl, inr, length, length-append, map}
use Rattle.std.proofs.Common.{nat_lt, not, refl}
use Rattle.std.proofs.Common.{if◌then◌else◌, subst, sym, true}
use Rattle.std.proofs.KnownBytes.{Appends-kept, Appends-nil, Appends-trans, Consumes-trans}
use Rattle.std.proofs.lemmas.Grind.{flat_map-append}
use Rattle.std.proofs.lemmas.List.Elements.{All-append, All-head, All-tail}
use Rattle.std.proofs.lemmas.Bool.{cases_Bool, cases_lt, cond-false, cond-true, eq-eqb, le-ltb, lt-ltb}
use Rattle.std.proofs.lemmas.List.{length_push, map-append}
use Rattle.std.proofs.lemmas.List.Sums.{count_by-le-length}
use Rattle.std.specs.Io.KnownBytes.{Appends, Consumes, Keeps}
use Rattle.std.specs.List.{All, count_by, flat_map}
use Rattle.std.specs.Option.{is_some}
use Rattle.std.specs.declared.io.ErrorKind.{ErrorKind}
use Rattle.literal_search.specs.SearchValue.{SearchValue}
use Rattle.litscan.specs.Context.{PrintsGroups, has_context, lines_after, lines_before, lines_behind, marks_of}
use Rattle.litscan.specs.Inside.Groups.{GoesOn, IsWell, PassesAhead, PassesOver, PrintsFrom, held_of, marks_from}
use Rattle.litscan.specs.Inside.Groups.{next_number, next_offset, none_count}
use Rattle.litscan.specs.Inside.Passed.{HasNoMatch}
use Rattle.litscan.specs.Lines.{HasNoEnd, lines_of, with_end}
use Rattle.litscan.specs.Options.{is_enough, is_silent, limit_of}
use Rattle.litscan.specs.Printed.{Reads, StopsAtEnough, counts, printed_behind}
use Rattle.litscan.specs.Scans.{PrintsRead, Scans, counting, is_all}
use Rattle.litscan.specs.declared.context.Context.{Context}
use Rattle.litscan.specs.declared.options.Options.{Options}
use Rattle.litscan.specs.declared.passed.Passed.{Passed}
use Rattle.litscan.specs.declared.selected.Scanned.{Scanned}
use Rattle.litscan.proofs.lemmas.Groups.{none_left}
use Rattle.litscan.proofs.lemmas.Marks.{marks_are}
use Rattle.litscan.proofs.lemmas.Others.{counts_other}
use Rattle.litscan.proofs.lemmas.Over.{same_length}
use Rattle.litscan.proofs.lemmas.Printing.{count-append}
use Rattle.litscan.proofs.lemmas.Reading.{stops_later}

-- some lines are those up to the one with which enough count, and those behind it; so many count, and so many more are
-- printed behind
pub record Parts (search : SearchValue) (options : Options) (seen : List (List ℕ)) (cs : List Bool) (count due : ℕ)
    : Type 0 where
  pub front : List (List ℕ)
  pub behind : List (List ℕ)
  pub seen_are : seen ≡ front ++ behind
  pub counting_are : cs ≡ counting search options front behind
  pub stops : StopsAtEnough (limit_of options) (counts search options) front
  pub counted : count ≡ count_by (counts search options) front
  pub left : is_enough (limit_of options) count ≡ true → length behind + due ≡ lines_after options
  pub near : is_enough (limit_of options) count ≡ false → behind ≡ []

-- no line was read
pub no_parts : (search : SearchValue) (options : Options) → Parts search options [] [] 0 0
no_parts search options = record {
  front = [];
  behind = [];
  seen_are = refl;
  counting_are = refl;
  stops = λ n below. absurd (omega (arith, below));
  counted = refl;
  left = λ enough. sym (cond-true (is_enough (limit_of options) 0) _ _ enough);
  near = λ few. refl;
}

-- what is added to a count
abbrev pub one_if : Bool → ℕ
one_if counts = if counts then 1 else 0

not_both : (b : Bool) → b ≡ true → b ≡ false → ⊥
not_both b is other = let both : true ≡ false = sym is ∙ other in absurd (cc)

alone : (b : Bool) → one_if b ≡ 0 + cond {A = ℕ} b 1 0
alone true = refl
alone false = refl

-- where enough lines count only now, the lines after this one are due
left_one : (limit : Option ℕ) (count due after next : ℕ) (to_count : Bool) → is_enough limit count ≡ false
    → is_enough limit (count + one_if to_count) ≡ true → next ≡ cond to_count after (due - 1) → 0 + next ≡ after
left_one limit count due after next true few enough is = omega (arith, is)
left_one limit count due after next false few enough is =
    let same : count ≡ count + 0 = omega arith in
    absurd (not_both (is_enough limit count) (ap (is_enough limit) same ∙ enough) few)

-- one line more was read
pub one_part_more : {search : SearchValue} {options : Options} {seen : List (List ℕ)} {cs : List Bool} {count due : ℕ}
    → Parts search options seen cs count due → (line : List ℕ) (to_count : Bool) (next : ℕ)
    → to_count ≡ (not (is_enough (limit_of options) count) && counts search options line)
    → (is_enough (limit_of options) count ≡ true → 0 < due)
    → next ≡ (if to_count then lines_after options else due - 1)
    → Parts search options (seen ++ line ∷ []) (cs ++ to_count ∷ []) (count + one_if to_count) next
one_part_more {search} {options} {seen} {cs} {count} {due} are line to_count next is some next_is =
    elim (cases_Bool (is_enough (limit_of options) count)) [
      | inl enough ↦
          let none : to_count ≡ false = is ∙ ap (λ b. not b && counts search options line) enough in
          subst (λ b. Parts search options (seen ++ line ∷ []) (cs ++ b ∷ []) (count + one_if b) next) (sym none)
          (record {
            front = are.front;
            behind = are.behind ++ line ∷ [];
            seen_are = ap (λ l. l ++ line ∷ []) are.seen_are ∙ append_assoc are.front are.behind (line ∷ []);
            counting_are =
                ap (λ l. l ++ false ∷ []) are.counting_are
                ∙ append_assoc (map (counts search options) are.front) (map (λ line. false) are.behind) (false ∷ [])
                ∙ ap (λ l. map (counts search options) are.front ++ l)
                (sym (map-append (λ line. false) are.behind (line ∷ [])));
            stops = are.stops;
            counted = omega (arith, are.counted);
            left = λ still.
                let fewer : next ≡ due - 1 = next_is ∙ cond-false to_count _ _ none in
                omega (arith, fewer, some enough, are.left enough, length_push are.behind line);
            near = λ few.
                let same : count + 0 ≡ count = omega arith in
                absurd (not_both (is_enough (limit_of options) count) enough
                (ap (is_enough (limit_of options)) (sym same) ∙ few));
          })
      | inr few ↦
          let one : to_count ≡ counts search options line = is ∙ ap (λ b. not b && counts search options line) few in
          let empty = are.near few in
          let seen_are : seen ≡ are.front = are.seen_are ∙ ap (λ l. are.front ++ l) empty ∙ append-nil are.front in
          let cs_are : cs ≡ map (counts search options) are.front =
          are.counting_are ∙ ap (λ l. map (counts search options) are.front ++ none_count l) empty
          ∙ append-nil (map (counts search options) are.front) in
          record {
            front = are.front ++ line ∷ [];
            behind = [];
            seen_are = ap (λ l. l ++ line ∷ []) seen_are ∙ sym (append-nil (are.front ++ line ∷ []));
            counting_are =
                ap (λ l. l ++ to_count ∷ []) cs_are ∙ ap (λ b. map (counts search options) are.front ++ b ∷ []) one
                ∙ sym (map-append (counts search options) are.front (line ∷ []))
                ∙ sym (append-nil (map (counts search options) (are.front ++ line ∷ [])));
            stops =
                stops_later (limit_of options) (counts search options) are.front (line ∷ []) (omega arith) are.stops
                (ap (is_enough (limit_of options)) (sym are.counted) ∙ few);
            counted =
                count-append (counts search options) are.front (line ∷ []) count (one_if to_count) are.counted
                (ap one_if one ∙ alone (counts search options line));
            left = λ enough.
                left_one (limit_of options) count due (lines_after options) next to_count few enough next_is;
            near = λ still. refl;
          }
    ]

-- lines without a word were read, which do not count
pub parts_passed : {search : SearchValue} {options : Options} {seen : List (List ℕ)} {cs : List Bool} {count due : ℕ}
    → Parts search options seen cs count due → due ≡ 0 → is_enough (limit_of options) count ≡ false
    → options.others ≡ false → (lines : List (List ℕ)) → All (HasNoMatch search options) lines
    → Parts search options (seen ++ lines) (cs ++ none_count lines) count due
parts_passed {search} {options} {seen} {cs} {count} {due} are none few kept [] words =
    subst (λ these. Parts search options these (cs ++ []) count due) (sym (append-nil seen))
    (subst (λ those. Parts search options seen those count due) (sym (append-nil cs)) are)
parts_passed {search} {options} {seen} {cs} {count} {due} are none few kept (line ∷ more) words =
    let same : count + 0 ≡ count = omega arith in
    let uncounted : false ≡ (not (is_enough (limit_of options) count) && counts search options line) =
    sym (ap (λ b. not b && counts search options line) few
    ∙ counts_other search options line (All-head (HasNoMatch search options) line more words) ∙ kept) in
    let one = one_part_more are line false due uncounted (λ enough. absurd (not_both _ enough few))
    (omega (arith, none)) in
    subst (λ these. Parts search options these (cs ++ false ∷ none_count more) count due)
    (append_assoc seen (line ∷ []) more)
    (subst (λ those. Parts search options ((seen ++ line ∷ []) ++ more) those count due)
    (append_assoc cs (false ∷ []) (none_count more))
    (parts_passed (subst (λ n. Parts search options (seen ++ line ∷ []) (cs ++ false ∷ []) n due) same one) none few
    kept more (All-tail (HasNoMatch search options) line more words)))

-- where lines around others are printed, lines are printed alone
no_others : (counts quiet : Bool) (listed : Option Bool) → (counts || quiet || is_some listed) ≡ false
    → (counts ≡ false) × (listed ≡ None)
no_others true quiet listed silent = absurd (cc)
no_others false true listed silent = absurd (cc)
no_others false false (Some found) silent = absurd (cc)
no_others false false None silent = (refl, refl)

loud : (silent more : Bool) → (not silent && more) ≡ true → silent ≡ false
loud true more has = absurd (cc)
loud false more has = refl

nothing_behind : (options : Options) (name : List ℕ) → has_context options ≡ true → (count : ℕ)
    → printed_behind options.listed options name count ≡ []
nothing_behind options name has count =
    let none = no_others options.count options.quiet options.listed (loud (is_silent options) _ has) in
    ap (λ listed. printed_behind listed options name count) none.1
    ∙ cond-false (options.count && not options.quiet) _ _ (ap (λ b. b && not options.quiet) none.0)

-- of these lines so many count, and this was printed of them, or is printed by the state behind them
pub record NearSoFar (search : SearchValue) (options : Options) (separator : List ℕ) (any : Bool) (name : List ℕ)
    (written now : Option (List ℕ)) (seen : List (List ℕ)) (cs : List Bool) (out : List ℕ) (count : ℕ)
    (context : Context) : Type 0 where
  pub parts : Parts search options seen cs count context.due
  pub well : IsWell options context
  pub written_are : Appends written now out
  pub goes_on : (lines : List (List ℕ)) (more : List Bool) (rest : List ℕ)
      → PrintsFrom search options separator name context lines more rest
      → PrintsGroups search options separator name any true 1 0 (seen ++ lines)
      (marks_from (lines_before options) (lines_after options) 0 (cs ++ more)) (out ++ rest)

-- no line was read
pub near_new : (search : SearchValue) (options : Options) (separator : List ℕ) (any : Bool) (name : List ℕ)
    (now : Option (List ℕ)) (context : Context) → held_of context ≡ [] → context.number ≡ 1 → context.offset ≡ 0
    → context.due ≡ 0 → context.any ≡ any → context.apart ≡ true
    → NearSoFar search options separator any name now now [] [] [] 0 context
near_new search options separator any name now context held number offset due any_is apart = record {
  parts = subst (Parts search options [] [] 0) (sym due) (no_parts search options);
  well = record {
    few = omega (arith, ap (λ (l : List (List ℕ)). length l) held);
    none = λ some. held;
    any = λ some. absurd (omega (arith, some, due));
    together = λ some. absurd (omega (arith, some, due));
  };
  written_are = Appends-nil now;
  goes_on = λ lines more rest printed.
      let at = λ (any apart : Bool) (number offset due : ℕ) (held : List (List ℕ)).
      PrintsGroups search options separator name any apart number offset (held ++ lines)
      (marks_from (lines_before options) (lines_after options) due (none_count held ++ more)) rest in
      subst (λ held. at any true 1 0 0 held) held
      (subst (λ n. at any true 1 0 n (held_of context)) due
      (subst (λ n. at any true 1 n context.due (held_of context)) offset
      (subst (λ n. at any true n context.offset context.due (held_of context)) number
      (subst (λ b. at any b context.number context.offset context.due (held_of context)) apart
      (subst (λ b. at b context.apart context.number context.offset context.due (held_of context)) any_is printed)))));
}

-- what a scan answers
abbrev pub Answers : SearchValue → Options → List ℕ → Bool → List ℕ → Option (List ℕ) → Option (List ℕ)
    → Option (List ℕ) → Option (List ℕ) → Scanned → Type 0
Answers search options separator any name old next written now scanned =
    (text out : List ℕ) × (scans : Scans search options separator any name text scanned out)
    × Reads scanned.failure (is_all options scanned scans.behind) old next text × Appends written now out

module _ {search : SearchValue} {options : Options} {separator : List ℕ} {any : Bool} {name : List ℕ}
    {written now : Option (List ℕ)} {seen : List (List ℕ)} {cs : List Bool} {out : List ℕ} {count : ℕ}
    {context : Context}
    (so_far : NearSoFar search options separator any name written now seen cs out count context)
  where
    -- nothing was written since
    pub near_kept : (next : Option (List ℕ)) → Keeps now next
        → NearSoFar search options separator any name written next seen cs out count context
    near_kept next kept = record {
      parts = so_far.parts;
      well = so_far.well;
      written_are = Appends-kept written now next out so_far.written_are kept;
      goes_on = so_far.goes_on;
    }

    -- one line more was read
    pub near_more : {next : Option (List ℕ)} (line part : List ℕ) (to_count : Bool) (new : Context)
        → to_count ≡ (not (is_enough (limit_of options) count) && counts search options line)
        → (is_enough (limit_of options) count ≡ true → 0 < context.due)
        → new.due ≡ (if to_count then lines_after options else context.due - 1) → IsWell options new
        → Appends now next part → GoesOn search options separator name context new line to_count part
        → NearSoFar search options separator any name written next (seen ++ line ∷ []) (cs ++ to_count ∷ [])
        (out ++ part)
        (count + one_if to_count) new
    near_more {next} line part to_count new is some due well append goes_on = record {
      parts = one_part_more so_far.parts line to_count new.due is some due;
      well = well;
      written_are = Appends-trans written now next out part so_far.written_are append;
      goes_on = λ lines more rest printed.
          let groups = λ (these : List (List ℕ)) (those : List Bool) (bytes : List ℕ).
          PrintsGroups search options separator name any true 1 0 these
          (marks_from (lines_before options) (lines_after options) 0 those) bytes in
          subst (λ these. groups these ((cs ++ to_count ∷ []) ++ more) ((out ++ part) ++ rest))
          (sym (append_assoc seen (line ∷ []) lines))
          (subst (λ those. groups (seen ++ line ∷ lines) those ((out ++ part) ++ rest))
          (sym (append_assoc cs (to_count ∷ []) more))
          (subst (λ bytes. groups (seen ++ line ∷ lines) (cs ++ to_count ∷ more) bytes)
          (sym (append_assoc out part rest))
          (so_far.goes_on (line ∷ lines) (to_count ∷ more) (part ++ rest) (goes_on lines more rest printed))));
    }

    parts_over : (lines : List (List ℕ)) → All (HasNoMatch search options) lines
        → (0 < length lines → (options.others ≡ false) × (context.due ≡ 0))
        → (is_enough (limit_of options) count ≡ true → 0 < context.due)
        → Parts search options (seen ++ lines) (cs ++ none_count lines) count context.due
    parts_over [] words unselected due =
        subst (λ these. Parts search options these (cs ++ []) count context.due) (sym (append-nil seen))
        (subst (λ those. Parts search options seen those count context.due) (sym (append-nil cs)) so_far.parts)
    parts_over (line ∷ more) words unselected due =
        let is = unselected (omega arith) in
        elim (cases_Bool (is_enough (limit_of options) count)) [
          | inl enough ↦ absurd (omega (arith, due enough, is.1))
          | inr few ↦ parts_passed so_far.parts is.1 few is.0 (line ∷ more) words
        ]

    -- lines without a word were passed over
    pub near_over : (lines : List (List ℕ)) (new : Context) → PassesOver options context new lines
        → All (HasNoMatch search options) lines → (0 < length lines → (options.others ≡ false) × (context.due ≡ 0))
        → (is_enough (limit_of options) count ≡ true → 0 < context.due)
        → NearSoFar search options separator any name written now (seen ++ lines) (cs ++ none_count lines) out count new
    near_over lines new over words unselected due = record {
      parts = subst (Parts search options (seen ++ lines) (cs ++ none_count lines) count) (sym over.due_is)
          (parts_over lines words unselected due);
      well = over.well;
      written_are = so_far.written_are;
      goes_on = λ more counting rest printed.
          let groups = λ (these : List (List ℕ)) (those : List Bool).
          PrintsGroups search options separator name any true 1 0 these
          (marks_from (lines_before options) (lines_after options) 0 those) (out ++ rest) in
          subst (λ these. groups these ((cs ++ none_count lines) ++ counting)) (sym (append_assoc seen lines more))
          (subst (groups (seen ++ (lines ++ more))) (sym (append_assoc cs (none_count lines) counting))
          (so_far.goes_on (lines ++ more) (none_count lines ++ counting) rest
          (over.goes_on search separator name more counting rest printed)));
    }

    -- what is held is left out
    nothing_more : PrintsFrom search options separator name context [] [] []
    nothing_more =
        subst (λ these. PrintsGroups search options separator name context.any context.apart context.number
        context.offset
        these
        (marks_from (lines_before options) (lines_after options) context.due (none_count (held_of context) ++ [])) [])
        (sym (append-nil (held_of context)))
        (subst (λ those. PrintsGroups search options separator name context.any context.apart context.number
        context.offset (held_of context) (marks_from (lines_before options) (lines_after options) context.due those) [])
        (sym (append-nil (none_count (held_of context)))) (by (held_of context) context.due so_far.well.none))
      where
        by : (held : List (List ℕ)) (due : ℕ) → (0 < due → held ≡ [])
            → PrintsGroups search options separator name context.any context.apart context.number context.offset held
            (marks_from (lines_before options) (lines_after options) due (none_count held)) []
        by [] due none = refl
        by (line ∷ more) due none =
            elim (cases_lt 0 due) [
              | inl some ↦ absurd (let wrong : line ∷ more ≡ [] = none some in cc)
              | inr zero ↦
                  let same : 0 ≡ due = omega arith in
                  subst (λ n. PrintsGroups search options separator name context.any context.apart context.number
                  context.offset (line ∷ more)
                  (marks_from (lines_before options) (lines_after options) n (none_count (line ∷ more))) []) same
                  (none_left search options separator name (lines_before options) (lines_after options) context.any
                  context.apart context.number context.offset (line ∷ more))
            ]

    printed_all : PrintsGroups search options separator name any true 1 0
        (so_far.parts.front ++ so_far.parts.behind)
        (marks_of (lines_before options) (lines_after options)
        (counting search options so_far.parts.front so_far.parts.behind)) out
    printed_all =
        let groups = λ (these : List (List ℕ)) (those : List Bool) (bytes : List ℕ).
        PrintsGroups search options separator name any true 1 0 these
        (marks_from (lines_before options) (lines_after options) 0 those) bytes in
        subst (λ marks. PrintsGroups search options separator name any true 1 0
        (so_far.parts.front ++ so_far.parts.behind) marks out)
        (marks_are (lines_before options) (lines_after options)
        (counting search options so_far.parts.front so_far.parts.behind))
        (subst (λ these. groups these (counting search options so_far.parts.front so_far.parts.behind) out)
        so_far.parts.seen_are
        (subst (λ those. groups seen those out) so_far.parts.counting_are
        (subst (λ these. groups these cs out) (append-nil seen)
        (subst (λ those. groups (seen ++ []) those out) (append-nil cs)
        (subst (λ bytes. groups (seen ++ []) (cs ++ []) bytes) (append-nil out)
        (so_far.goes_on [] [] [] nothing_more))))))

    -- what a scan answers of a text with these lines, of which no more could be read, or had to be
    pub near_scanned : has_context options ≡ true → (text : List ℕ) → lines_of options.line_end text ≡ seen
        → (failure : Option ErrorKind) (old next : Option (List ℕ))
        → Reads failure (is_all options (record { count = count; failure = failure }) so_far.parts.behind) old next text
        → Answers search options separator any name old next written now (record { count = count; failure = failure })
    near_scanned has text is failure old next read = (
      text,
      out,
      record {
        front = so_far.parts.front;
        behind = so_far.parts.behind;
        lines_are = is ∙ so_far.parts.seen_are;
        stops = so_far.parts.stops;
        counted = so_far.parts.counted;
        few = few;
        near = so_far.parts.near;
        printed = (
          out,
          subst (λ b. PrintsRead b search options separator any name so_far.parts.front so_far.parts.behind out)
              (sym has)
              printed_all,
          sym (ap (λ l. out ++ l)
              (nothing_behind options name has (count_by (counts search options) so_far.parts.front))
              ∙ append-nil out),
        );
      },
      read,
      so_far.written_are,
    )
      where
        few : length so_far.parts.behind ≤ lines_behind options
        few =
            let all : lines_behind options ≡ lines_after options = cond-true (has_context options) _ _ has in
            elim (cases_Bool (is_enough (limit_of options) count)) [
              | inl enough ↦ omega (arith, all, so_far.parts.left enough)
              | inr less ↦ omega (arith, ap (λ (l : List (List ℕ)). length l) (so_far.parts.near less))
            ]

    -- where enough lines count and none is due, all was read
    pub near_all : has_context options ≡ true → is_enough (limit_of options) count ≡ true → context.due ≡ 0
        → is_all options (record { count = count; failure = None }) so_far.parts.behind ≡ true
    near_all has enough none =
        let all : lines_behind options ≡ lines_after options = cond-true (has_context options) _ _ has in
        let same : length so_far.parts.behind ≡ lines_behind options =
        omega (arith, all, so_far.parts.left enough, none) in
        ap (λ b. b && (length so_far.parts.behind == lines_behind options)) enough
        ∙ eq-eqb (length so_far.parts.behind) (lines_behind options) same

    -- no more lines count than were read
    pub near_few : count ≤ length seen
    near_few =
        omega (
          arith,
          so_far.parts.counted,
          count_by-le-length (counts search options) so_far.parts.front,
          ap (λ (l : List (List ℕ)). length l) so_far.parts.seen_are,
          length-append so_far.parts.front so_far.parts.behind,
        )

-- the same, with what was read of known bytes
pub record NearAt (search : SearchValue) (options : Options) (separator : List ℕ) (any : Bool) (name : List ℕ)
    (old new written now : Option (List ℕ)) (count offset : ℕ) (context : Context) : Type 0 where
  pub seen : List (List ℕ)
  pub cs : List Bool
  pub out : List ℕ
  pub so_far : NearSoFar search options separator any name written now seen cs out count context
  pub whole : All (HasNoEnd options.line_end) seen
  pub read : Consumes old new (flat_map (with_end options.line_end) seen)
  pub offset_is : offset ≡ length (flat_map (with_end options.line_end) seen)
  pub next_offset_is : next_offset context ≡ offset
  pub next_number_is : next_number context ≡ length seen + 1
  pub small : offset < 2 ^ 64

-- where enough lines count and the scan goes on, a line is due
pub due_if : (enough : Bool) (due : ℕ) → (enough && not (nat_lt 0 due)) ≡ false → enough ≡ true → 0 < due
due_if true due goes_on is =
    elim (cases_lt 0 due) [
      | inl some ↦ some
      | inr none ↦ absurd (let both : true ≡ false = sym (ap not (le-ltb 0 due none)) ∙ goes_on in cc)
    ]
due_if false due goes_on is = absurd (cc)

-- and where it ends, none is
pub none_due : (enough : Bool) (due : ℕ) → (enough && not (nat_lt 0 due)) ≡ true → (enough ≡ true) × (due ≡ 0)
none_due true due ends =
    elim (cases_lt 0 due) [
      | inl some ↦ absurd (let both : false ≡ true = sym (ap not (lt-ltb 0 due some)) ∙ ends in cc)
      | inr none ↦ (refl, omega (arith, none))
    ]
none_due false due ends = absurd (cc)

-- with lines without a word that were passed over
pub near_at_over : {search : SearchValue} {options : Options} {separator : List ℕ} {any : Bool} {name : List ℕ}
    {old new next written now kept : Option (List ℕ)} {count offset : ℕ} {context mid : Context} {passed : Passed}
    {lines : List (List ℕ)} → NearAt search options separator any name old new written now count offset context
    → (is_enough (limit_of options) count ≡ true → 0 < context.due)
    → Consumes new next (flat_map (with_end options.line_end) lines)
    → PassesAhead search options offset context mid passed lines → Keeps now kept
    → NearAt search options separator any name old next written kept count (offset + passed.bytes) mid
near_at_over {search} {options} {old = old} {new = new} {next = next} {kept = kept} {mid = mid} {lines = lines} at due
    read passes keeps =
    let all = flat_map-append (with_end options.line_end) at.seen lines in
    let size = length-append (flat_map (with_end options.line_end) at.seen)
    (flat_map (with_end options.line_end) lines) in
    record {
      seen = at.seen ++ lines;
      cs = at.cs ++ none_count lines;
      out = at.out;
      so_far = near_kept (near_over at.so_far lines mid passes.over passes.are.none passes.unselected due) kept keeps;
      whole = All-append (HasNoEnd options.line_end) at.seen lines at.whole passes.are.whole;
      read = subst (Consumes old next) (sym all) (Consumes-trans old new next _ _ at.read read);
      offset_is = omega (arith, at.offset_is, passes.bytes, size, ap (λ (l : List ℕ). length l) all);
      next_offset_is =
          omega (
            arith,
            passes.over.offset_is,
            at.next_offset_is,
            passes.bytes,
            same_length options.line_end lines,
          );
      next_number_is = omega (arith, passes.over.number_is, at.next_number_is, length-append at.seen lines);
      small = passes.small;
    }
