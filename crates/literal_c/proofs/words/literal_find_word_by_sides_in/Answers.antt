use Rattle.std.proofs.Common.{List, subst, sym, ℕ}
use Rattle.literal_base.specs.Occurs.{between}
use Rattle.literal_search.specs.WholeWords.{IsLeftmostAloneBy, NothingAloneBy}
use Rattle.literal_c.specs.Answers.{match_of}
use Rattle.literal_c.specs.Words.{ForAsciiWords, sides_by}
use Rattle.literal_c.proofs.lemmas.Words.{for_ascii}
use Rattle.literal_c.proofs.words.literal_find_word_by_sides_in.Goals as goal

pub returns-in-Ok-None-clause-none : goal.returns-in-Ok-None-clause-none
returns-in-Ok-None-clause-none c = λ _.
    subst (λ (sides : List ℕ). ForAsciiWords c.args.prepared.now c.args.kind (λ words.
    NothingAloneBy words c.args.haystack.now sides (between c.args.start c.args.end)))
    c.in-Some-sides_for.ensures.1
    (for_ascii c.in-Some.kind c.args.kind c.args.prepared.now c.in-Ok.words c.in-Ok.ensures.0 c.in-Some.ensures.1
    (λ words. NothingAloneBy words c.args.haystack.now c.in-Some-sides_for.sides.now
    (between c.args.start c.args.end))
    (rw c.in-Ok-None.field-0-is at c.in-Ok-None.ensures.prepared))

pub returns-in-Ok-Some-clause-found : goal.returns-in-Ok-Some-clause-found
returns-in-Ok-Some-clause-found c = λ _.
    subst (λ found. ForAsciiWords c.args.prepared.now c.args.kind (λ words. IsLeftmostAloneBy words.search.query
    words.search.ignore_case words.word_bytes c.args.haystack.now (sides_by c.args.haystack.now c.args.sides.now)
    (between c.args.start c.args.end) (match_of found))) (sym c.match_for_c.ensures)
    (subst (λ (sides : List ℕ). ForAsciiWords c.args.prepared.now c.args.kind (λ words. IsLeftmostAloneBy
    words.search.query words.search.ignore_case words.word_bytes c.args.haystack.now sides
    (between c.args.start c.args.end) c.in-Ok-Some.it)) c.in-Some-sides_for.ensures.1
    (for_ascii c.in-Some.kind c.args.kind c.args.prepared.now c.in-Ok.words c.in-Ok.ensures.0 c.in-Some.ensures.1
    (λ words. IsLeftmostAloneBy words.search.query words.search.ignore_case words.word_bytes c.args.haystack.now
    c.in-Some-sides_for.sides.now (between c.args.start c.args.end) c.in-Ok-Some.it)
    (rw c.in-Ok-Some.field-0-is at c.in-Ok-Some.ensures.prepared)))
