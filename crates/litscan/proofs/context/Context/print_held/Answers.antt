use Rattle.std.proofs.Common.{◌≡◌, ◌∙◌, ◌+◌, ◌++◌, ◌∷◌, List, ap, append_assoc, false, length, map, subst, sym, true, ℕ}
use Rattle.std.proofs.KnownBytes.{Appends-trans}
use Rattle.litscan.specs.Context.{PrintsGroups, PrintsNear, near}
use Rattle.litscan.specs.Inside.Groups.{held_of}
use Rattle.litscan.proofs.lemmas.Groups.{Steps, one_near, steps_number, steps_offset}
use Rattle.litscan.proofs.context.Context.print_held.Goals as goal

pub loop-line-preserved : goal.loop-line-preserved
loop-line-preserved g c =
    let search = c.args.search.now in
    let options = c.args.options in
    let name = c.args.name.now in
    let so_far = c.loop-line.invariant in
    let old = c.loop-line.self in
    let new = c.advance.new.self in
    let line = c.in-Some.line.items in
    let part = c.in_ok-print_near.ensures.printed in
    let len : c.len.result ≡ length line =
    c.len.ensures ∙ sym c.as_slice.ensures.len ∙ ap (λ (l : List ℕ). length l) c.as_slice.ensures.value in
    let steps : Steps old new line =
    record {
      held =
          ap (map (λ line. line.items)) c.in-Some.ensures.items
          ∙ ap (λ context. line ∷ held_of context) (sym c.advance.ensures);
      number = ap (λ context. context.number) c.advance.ensures;
      offset = ap (λ context. context.offset) c.advance.ensures ∙ ap (λ n. old.offset + n + 1) len;
    } in
    record {
      out = so_far.out ++ part.0;
      written = Appends-trans _ _ _ so_far.out part.0 so_far.written part.1;
      goes_on = λ separator lines marks rest more.
          let at = λ (number offset : ℕ). PrintsGroups search options separator name true false number offset
          (held_of new ++ lines) (map (λ line. near) (held_of new) ++ marks) rest in
          subst (PrintsGroups search options separator name true false c.args.self.now.number c.args.self.now.offset
          (held_of c.args.self.now ++ lines) (map (λ line. near) (held_of c.args.self.now) ++ marks))
          (sym (append_assoc so_far.out part.0 rest))
          (so_far.goes_on separator lines marks (part.0 ++ rest)
          (subst (λ held. PrintsGroups search options separator name true false old.number old.offset (held ++ lines)
          (map (λ line. near) held ++ marks) (part.0 ++ rest)) (sym steps.held)
          (one_near search options separator name old.number old.offset line part.0 (held_of new ++ lines)
          (map (λ line. near) (held_of new) ++ marks) rest
          (subst (λ l. PrintsNear options.others search options name old.number old.offset l part.0)
          c.as_slice.ensures.value part.2)
          (subst (λ n. at n (old.offset + length line + 1)) steps.number
          (subst (λ n. at new.number n) steps.offset more)))));
      number = steps_number steps ∙ so_far.number;
      offset = steps_offset steps ∙ so_far.offset;
      any = ap (λ context. context.any) c.advance.ensures ∙ so_far.any;
      apart = ap (λ context. context.apart) c.advance.ensures ∙ so_far.apart;
    }
