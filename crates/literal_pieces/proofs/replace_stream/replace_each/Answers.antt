use Rattle.std.proofs.Common.{◌≡◌, ◌∙◌, List, ℕ, map, refl, rules}
use Rattle.std.proofs.lemmas.List.{length-map}
use Rattle.std.specs.Borrow.{Bor}
use Rattle.literal_pieces.specs.Inside.Sought.{AreMatches}
use Rattle.literal_pieces.proofs.lemmas.RewrittenBy.{matches_begin, replaces_each, stops_each}
use Rattle.literal_pieces.proofs.replace_stream.replace_each.Goals as goal

pub returns-clause-ok : goal.returns-clause-ok
returns-clause-ok g c =
    let given = map (λ (r : Bor (List ℕ)). r.now) c.args.replacements.now in
    let one_for_each = length-map c.args.replacements.now (λ (r : Bor (List ℕ)). r.now)
    ∙ (c.if-replacements-patterns_len.false ∙ c.patterns_len.ensures) in
    replaces_each _ _ given (λ f. f.0.now ≡ c.args.replacements.now)
    (λ f found bytes before behind next same called. search (rules, called.met, same)) (AreMatches c.args.sought.now)
    (matches_begin c.args.sought.now) _ _ one_for_each _ refl _ _ _ _ c.replace_with.result c.replace_with.ensures.ok

pub returns-clause-error : goal.returns-clause-error
returns-clause-error g c =
    let given = map (λ (r : Bor (List ℕ)). r.now) c.args.replacements.now in
    let one_for_each = length-map c.args.replacements.now (λ (r : Bor (List ℕ)). r.now)
    ∙ (c.if-replacements-patterns_len.false ∙ c.patterns_len.ensures) in
    stops_each _ _ given (λ f. f.0.now ≡ c.args.replacements.now)
    (λ f found bytes before behind next same called. search (rules, called.met, same)) (AreMatches c.args.sought.now)
    (matches_begin c.args.sought.now) _ _ one_for_each _ refl _ _ _ _ c.replace_with.result c.replace_with.ensures.error
