use Rattle.std.proofs.Common.{arith, subst}
use Rattle.literal_base.specs.Occurs.{between}
use Rattle.literal_leftmost.specs.Inside.Backward.{back_tables_by}
use Rattle.literal_leftmost.specs.Inside.Leftmost.{IsFirstStart, LiesInPart}
use Rattle.literal_leftmost.proofs.lemmas.Gaps.{leftmost_in_piece, none_in_piece}
use Rattle.literal_leftmost.proofs.lemmas.Leftmost.{leftmost_from}
use Rattle.literal_leftmost.proofs.backward.Backward.look_near.Goals as goal

pub returns-in_default-clause-found : goal.returns-in_default-clause-found
returns-in_default-clause-found c = λ search is.
    let piece = c.piece_at-end.result in
    none_in_piece c.args.self.now search is c.args.haystack.now (λ i. omega (arith, c.type_inv.haystack i))
    c.requires.few c.args.span c.requires.valid.in_haystack c.args.at piece c.piece_at-end.ensures.piece
    (subst (IsFirstStart (back_tables_by search c.args.self.now) c.args.haystack.now piece.reach
    (between c.args.at piece.end)) c.in_default.is (c.in_ok-begun.ensures.first search is))

pub returns-in_err-found-clause-found : goal.returns-in_err-found-clause-found
returns-in_err-found-clause-found c = λ search is.
    let piece = c.piece_at-end.result in
    absurd (c.in_err-found.ensures.leftmost search is
    (subst (IsFirstStart (back_tables_by search c.args.self.now) c.args.haystack.now piece.reach
    (between c.args.at piece.end)) c.in-Some.is (c.in_ok-begun.ensures.first search is)).0)

pub returns-clause-found : goal.returns-clause-found
returns-clause-found c = λ search is.
    let piece = c.piece_at-end.result in
    let tables = back_tables_by search c.args.self.now in
    let begun = subst (IsFirstStart tables c.args.haystack.now piece.reach (between c.args.at piece.end)) c.in-Some.is
    (c.in_ok-begun.ensures.first search is) in
    let lies = subst (LiesInPart c.args.at piece.end) c.in-Some.is c.in_ok-begun.ensures.inside in
    leftmost_in_piece c.args.self.now search is c.args.haystack.now (λ i. omega (arith, c.type_inv.haystack i))
    c.requires.few c.args.span c.requires.valid.in_haystack c.args.at piece c.piece_at-end.ensures.piece
    c.in_ok-found.found (omega (arith, lies.1, c.in_ok-found.ensures.here))
    (leftmost_from tables c.args.haystack.now (between c.args.at piece.reach) c.in-Some.begun.at c.in_ok-found.found
    lies.0 begun.1 c.in_ok-found.ensures.here (c.in_ok-found.ensures.leftmost search is begun.0))
