use Rattle.std.proofs.Common.{◌≡◌, ◌∙◌, ◌+◌, ◌++◌, ◌∷◌, ◌≤◌, [], ap, arith, length, map, subst, sym, true}
use Rattle.std.proofs.Common.{is_ok, rules}
use Rattle.std.proofs.lemmas.Grind.{common_steps}
use Rattle.std.proofs.lemmas.Bool.{cond-true}
use Rattle.std.proofs.lemmas.List.{map-append}
use Rattle.litscan.specs.Context.{lines_before}
use Rattle.litscan.specs.Inside.Groups.{held_of}
use Rattle.litscan.proofs.lemmas.Groups.{goes_on_left_out}
use Rattle.litscan.proofs.context.Context.hold.Goals as goal

pub returns-in-Some-clause-goes_on : goal.returns-in-Some-clause-goes_on
returns-in-Some-clause-goes_on c = λ by separator name.
    let old = c.args.self.now in
    let new = c.advance.new.self in
    let is = c.advance.ensures in
    let held = ap held_of is in
    let fed : is_ok c.push_back.result ≡ true = search rules in
    let few : lines_before c.args.options ≤ length (map (λ line. line.items) c.pop_front.new.self.items) =
    grind (arith, common_steps) in
    let size : c.len-in-Some.result ≡ length c.in-Some.first.items = search rules in
    goes_on_left_out by c.args.options separator name old (record new { apart = true }) c.args.line.items
    c.in-Some.first.items c.requires.due (ap (λ context. context.due) is ∙ c.requires.due)
    (sym (map-append (λ line. line.items) old.held.items (c.args.line ∷ []))
    ∙ ap (map (λ line. line.items))
    (sym (c.push_back.ensures.items
    ∙ cond-true (is_ok c.push_back.result) (old.held.items ++ c.args.line ∷ []) old.held.items fed)
    ∙ c.in-Some.ensures.items)
    ∙ ap (λ these. c.in-Some.first.items ∷ these) (sym held))
    (subst (λ these. lines_before c.args.options ≤ length these) (sym held) few)
    (ap (λ context. context.any) is) (λ i. true) (ap (λ context. context.number) is)
    (ap (λ context. context.offset) is ∙ ap (λ n. old.offset + n + 1) size)
