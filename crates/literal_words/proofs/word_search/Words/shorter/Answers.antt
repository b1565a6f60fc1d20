use Rattle.std.proofs.Common.{arith, get_or, ◌∙◌, ◌≡◌}
use Rattle.literal_words.proofs.lemmas.Links.{link_leftmost, link_long, no_link}
use Rattle.literal_rows.proofs.lemmas.Walk.{got_is}
use Rattle.literal_words.proofs.word_search.Words.shorter.Goals as goal

pub returns-then-link-clause-next : goal.returns-then-link-clause-next
returns-then-link-clause-next c = λ search is parts here.
    no_link c.args.self.now c.args.haystack.now (λ i. omega (arith, c.type_inv.haystack i)) search is parts c.args.found
    c.requires.lies here (grind (arith, got_is))

pub returns-in_err-len-clause-next : goal.returns-in_err-len-clause-next
returns-in_err-len-clause-next c = λ search is parts here.
    let long = link_long c.args.self.now c.args.haystack.now (λ i. omega (arith, c.type_inv.haystack i)) search is parts
    c.args.found c.requires.lies here in
    grind (arith, got_is)

pub returns-then-len-eq0-clause-next : goal.returns-then-len-eq0-clause-next
returns-then-len-eq0-clause-next c = λ search is parts here.
    let long = link_long c.args.self.now c.args.haystack.now (λ i. omega (arith, c.type_inv.haystack i)) search is parts
    c.args.found c.requires.lies here in
    grind (arith, got_is)

pub returns-clause-next : goal.returns-clause-next
returns-clause-next c = λ search is parts here.
    let at = c.in_ok-link.field-0.now in
    let len = c.in_ok-len.field-0.now in
    let link_is : at ≡ get_or c.args.self.now.backward.links.now c.args.found.pattern 0 = grind (arith, got_is) in
    let len_is : len ≡ get_or c.args.self.now.backward.lens.now at 0 = grind (arith, got_is) in
    let leftmost = link_leftmost c.args.self.now c.args.haystack.now (λ i. omega (arith, c.type_inv.haystack i)) search
    is parts c.args.found c.requires.lies here at len (λ none. c.if-link.false (link_is ∙ none)) link_is len_is in
    grind arith
