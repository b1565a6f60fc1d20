use Rattle.std.proofs.Common.{◌≡◌, refl, subst, sym}
use Rattle.literal_base.specs.Occurs.{between}
use Rattle.literal_search.specs.MatchesValue.{MatchesValue}
use Rattle.literal_search.specs.SearchValue.{SearchValue}
use Rattle.literal_c.specs.Answers.{IsPage}
use Rattle.literal_c.specs.Arguments.{argument_search}
use Rattle.literal_c.proofs.searches.literal_find_all.Goals as goal

pub returns-clause-page : goal.returns-clause-page
returns-clause-page c = λ _.
    let found = c.args.found.now in
    let written = c.in-Ok-write_page.written in
    subst (λ (m : MatchesValue). (search : SearchValue) → search ≡ m.search
    → IsPage search.query search.ignore_case m.haystack (between m.at m.span.end) found c.write_page.new.found written)
    c.find_iter_in-matches.ensures c.in-Ok-write_page.ensures.page
    (argument_search c.args.kind c.args.ignore_case c.args.patterns.now c.args.ends.now) (sym c.in-Ok.ensures.2)

pub returns-in-Err-write_page-clause-status : goal.returns-in-Err-write_page-clause-status
returns-in-Err-write_page-clause-status c =
    absurd (c.in-Err-write_page.ensures.page c.find_iter_in-matches.result.search refl)

pub returns-in-Err-write_page-clause-as_before : goal.returns-in-Err-write_page-clause-as_before
returns-in-Err-write_page-clause-as_before c =
    absurd (c.in-Err-write_page.ensures.page c.find_iter_in-matches.result.search refl)
