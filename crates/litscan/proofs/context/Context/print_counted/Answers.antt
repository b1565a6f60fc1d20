use Rattle.std.proofs.Common.{◌≡◌, ◌∙◌, ◌+◌, ◌++◌, ◌&&◌, List, [], ap, cond, false, length, map, subst, sym, true, ℕ}
use Rattle.std.proofs.KnownBytes.{Appends-trans}
use Rattle.litscan.specs.Context.{PrintsGroups, PrintsMarked, counted, near, printed_separator}
use Rattle.litscan.specs.Inside.Groups.{held_of, next_number, next_offset}
use Rattle.litscan.proofs.lemmas.Groups.{goes_on_counted}
use Rattle.litscan.proofs.context.Context.print_counted.Goals as goal

pub returns-clause-printed : goal.returns-clause-printed
returns-clause-printed g c =
    let search = c.args.search.now in
    let options = c.args.options in
    let separator = c.args.separator.now in
    let name = c.args.name.now in
    let line = c.args.line.now in
    let old = c.args.self.now in
    let opened = c.in_ok-print_separator.ensures.new in
    let held = c.in_ok-print_held.ensures in
    let passed = c.print_held.new.self in
    let shown = c.in_ok-print_found.ensures.printed in
    let last = c.advance.new.self in
    let is = c.advance.ensures in
    let number : passed.number ≡ next_number old = held.number ∙ ap next_number opened in
    let offset : passed.offset ≡ next_offset old = held.offset ∙ ap next_offset opened in
    let between : List ℕ = cond (old.any && old.apart) (printed_separator options separator) [] in (
      between ++ (held.printed.0 ++ shown.0),
      Appends-trans _ _ _ between (held.printed.0 ++ shown.0) c.in_ok-print_separator.ensures.printed
          (Appends-trans _ _ _ held.printed.0 shown.0 held.printed.1 shown.1),
      goes_on_counted search options separator name old (record last { due = c.lines_after-self.result }) line
          held.printed.0 shown.0 c.requires.well
          (λ lines these rest more.
          subst (λ context. PrintsGroups search options separator name true false context.number context.offset
          (held_of context ++ lines) (map (λ line. near) (held_of context) ++ these) (held.printed.0 ++ rest)) opened
          (held.printed.2 separator lines these rest
          (subst (λ n. PrintsGroups search options separator name true false n passed.offset lines these rest)
          (sym number)
          (subst (λ n. PrintsGroups search options separator name true false (next_number old) n lines these rest)
          (sym offset) more))))
          (subst (λ n. PrintsMarked counted search options name (next_number old) n line shown.0) offset
          (subst (λ n. PrintsMarked counted search options name n passed.offset line shown.0) number shown.2))
          (record {
            held = ap held_of is ∙ ap (map (λ line. line.items)) held.held;
            any = ap (λ context. context.any) is ∙ held.any ∙ ap (λ context. context.any) opened;
            apart = ap (λ context. context.apart) is ∙ held.apart ∙ ap (λ context. context.apart) opened;
            number_is = ap (λ context. context.number) is ∙ ap (λ n. n + 1) number;
            offset_is = ap (λ context. context.offset) is ∙ ap (λ n. n + length line + 1) offset;
            due_is = c.lines_after-self.ensures;
          }),
    )
